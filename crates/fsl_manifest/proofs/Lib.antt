pub mod FieldLemmas
pub mod SpellingLemmas
pub mod FormsAgain
pub mod ReadBack
pub mod TypeLemmas
pub mod Exact
mod ItemLemmas
pub mod FirstParent
