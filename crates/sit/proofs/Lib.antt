pub mod Counting
pub mod Openings
pub mod Inside
