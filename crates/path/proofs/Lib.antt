pub mod Parts
pub mod Splits
pub mod Counting
pub mod Laws
pub mod Lengths
