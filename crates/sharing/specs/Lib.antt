pub mod Opening
pub mod Standing
pub mod Fairness
