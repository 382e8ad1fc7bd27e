pub mod Names
pub mod Entering
pub mod Directories
pub mod Files
pub mod Nodes
pub mod Spots
