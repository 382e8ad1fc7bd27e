pub mod Rises
pub mod Stores
pub mod Entries
pub mod Between
pub mod Written
pub mod Searching
pub mod Columns
pub mod Members
