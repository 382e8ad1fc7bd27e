pub mod Linear
pub mod EightBytes
pub mod Turns
pub mod EntryTest
