pub mod Listed
pub mod Outcomes
