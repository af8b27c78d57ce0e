mod Conditions
pub mod ReadAgain
pub mod ReadOnly
pub mod Dates
pub mod Days
pub mod Shapes
pub mod Printed
pub mod EachMoment
pub mod MomentTexts
