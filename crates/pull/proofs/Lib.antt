pub mod Cases
pub mod Opened
pub mod Sizes
pub mod Results
pub mod Theorems
pub mod Inline
pub mod Paths
pub mod Whole
