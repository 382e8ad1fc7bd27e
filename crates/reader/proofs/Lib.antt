pub mod Listing
pub mod Starting
pub mod GivenStates
pub mod Stepping
pub mod Advancing
pub mod Theorems
