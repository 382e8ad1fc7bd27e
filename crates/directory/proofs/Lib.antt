pub mod Sizes
pub mod Turns
pub mod Inline
