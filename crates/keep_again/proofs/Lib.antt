mod Steps
pub mod Theorems
