pub mod Fits
pub mod Given
pub mod Opens
pub mod Rows
pub mod Shown
pub mod Walked
