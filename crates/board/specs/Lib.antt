pub mod Effects
pub mod Loops
pub mod Scans
pub mod Views
