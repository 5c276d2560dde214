pub mod Listed
pub mod Ported
pub mod Held
pub mod Members
pub mod Pairs
pub mod Passing
