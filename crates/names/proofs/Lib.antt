pub mod Binds
pub mod Stacks
pub mod Places
pub mod Finding
pub mod Declaring
pub mod Tables
pub mod Checked
pub mod Judging
