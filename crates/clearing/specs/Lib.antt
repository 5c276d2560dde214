pub mod Cleared
pub mod Stages
