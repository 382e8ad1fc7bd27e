pub mod Checkpoint
pub mod Pack
pub mod Journal
pub mod Volume
pub mod OpenImage
