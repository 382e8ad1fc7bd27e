pub mod Place
pub mod Way
pub mod Leaf
