pub mod Name
pub mod Hash
pub mod Answer
pub mod Vectors
