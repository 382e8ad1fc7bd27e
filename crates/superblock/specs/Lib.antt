pub mod Shape
pub mod Superblock
pub mod Areas
pub mod Search
pub mod Shaped
