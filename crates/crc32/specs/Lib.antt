pub mod Checksum
pub mod Table
pub mod Vectors
