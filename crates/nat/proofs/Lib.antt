pub mod Range
pub mod Journal
pub mod Addresses
