pub mod Contents
pub mod Ports
pub mod Takes
