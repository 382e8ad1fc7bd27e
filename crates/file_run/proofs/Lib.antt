pub mod Filling
pub mod Once
pub mod Unless
pub mod Turns
pub mod Asked
