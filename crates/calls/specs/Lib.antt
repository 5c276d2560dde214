pub mod Boards
pub mod Looks
