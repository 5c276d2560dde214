pub mod Bases
pub mod Literals
pub mod ReadBack
pub mod Readings
pub mod Writing
