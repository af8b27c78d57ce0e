pub mod WordLemmas
pub mod GrammarLemmas
pub mod PlaceLemmas
pub mod PartLemmas
