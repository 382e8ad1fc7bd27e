pub mod Copying
pub mod Endings
pub mod Theorems
