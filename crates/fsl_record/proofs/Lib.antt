pub mod ReadAgain
mod Written
mod Weaker
pub mod Unique
pub mod FieldLists
pub mod Cuts
pub mod OfName
pub mod GroupLists
pub mod Fronts
pub mod Parts
pub mod Exclusive
pub mod OneFault
pub mod Deciding
pub mod FirstRecord
