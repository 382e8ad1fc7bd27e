pub mod Cases
pub mod Sizes
pub mod NodeSteps
pub mod Following
pub mod Listed
pub mod Whole
pub mod LeafWalks
pub mod Keeping
