mod Reading
pub mod Openings
pub mod Theorems
