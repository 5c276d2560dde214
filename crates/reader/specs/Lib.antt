pub mod Faults
pub mod Language
pub mod Lists
pub mod Reads
pub mod Tokens
pub mod Views
