pub mod Sameness
pub mod Differences
pub mod Shapes
pub mod Openings
pub mod Theorems
pub mod Turns
