pub mod Sizes
pub mod Layout
pub mod Clearing
pub mod Cases
pub mod Bounds
pub mod Guarantees
