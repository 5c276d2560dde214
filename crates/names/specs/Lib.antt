pub mod Naming
pub mod Sites
pub mod Laws
pub mod Scopes
pub mod Checking
