pub mod Tables
pub mod Levels
pub mod Reach
pub mod Plain
