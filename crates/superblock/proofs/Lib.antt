pub mod Shaped
pub mod Finding
mod Copies
pub mod Passing
