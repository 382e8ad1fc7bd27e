mod TableAnswers
pub mod ByNumbers
pub mod Places
pub mod Found
pub mod Refusing
pub mod Lengths
pub mod Entries
pub mod Values
pub mod Parts
pub mod GivenBack
pub mod LaidAgain
