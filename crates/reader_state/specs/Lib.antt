pub mod Resume
pub mod Decision
pub mod Fits
pub mod State
