pub mod Lookups
pub mod Adding
pub mod Gains
pub mod Passes
pub mod Weights
pub mod Entries
