pub mod Fit
pub mod Stms
pub mod Views
