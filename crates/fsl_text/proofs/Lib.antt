pub mod FirstLines
mod Fronts
pub mod Unescaping
pub mod DecimalLemmas
pub mod DecimalTexts
pub mod Bytewise
pub mod TokenLemmas
