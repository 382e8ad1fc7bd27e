pub mod Wanting
pub mod Fetching
pub mod Steps
