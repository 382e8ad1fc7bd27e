pub mod Fetches
pub mod Searching
