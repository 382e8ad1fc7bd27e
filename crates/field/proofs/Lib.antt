pub mod Blocks
pub mod Maps
pub mod Zeros
pub mod Widths
pub mod Choosing
pub mod Endian
mod Comparing
