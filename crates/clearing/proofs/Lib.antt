pub mod Answering
pub mod Staging
pub mod Procedures
pub mod Filling
