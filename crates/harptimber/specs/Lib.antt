pub mod NameHash
pub mod FilePlace
