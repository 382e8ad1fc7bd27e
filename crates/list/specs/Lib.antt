pub mod Lists
pub mod Insertion
pub mod Search
