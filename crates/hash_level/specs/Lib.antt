pub mod Level
pub mod Table
pub mod Reach
