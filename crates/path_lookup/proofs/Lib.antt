pub mod Cases
pub mod Turns
pub mod Sizes
pub mod Inline
pub mod Names
