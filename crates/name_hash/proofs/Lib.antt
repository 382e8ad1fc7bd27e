pub mod Bytes
pub mod Words
pub mod Rounds
pub mod Turns
