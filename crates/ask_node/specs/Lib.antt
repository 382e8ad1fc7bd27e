pub mod Wants
pub mod Fetch
