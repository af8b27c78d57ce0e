pub mod Made
pub mod Among
pub mod Rising
pub mod Fitting
pub mod ReadBack
