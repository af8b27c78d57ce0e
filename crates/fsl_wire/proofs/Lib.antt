pub mod OneWay
pub mod ReadBack
pub mod TokenLemmas
mod FrontLemmas
mod ReadLemmas
mod CountLemmas
mod WriteLemmas
mod DraftLemmas
pub mod BareLemmas
