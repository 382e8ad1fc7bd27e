pub mod Ends
pub mod Listing
pub mod Tallying
pub mod Theorems
