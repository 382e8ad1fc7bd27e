pub mod Searching
pub mod Once
