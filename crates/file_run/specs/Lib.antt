pub mod Standing
pub mod Walks
