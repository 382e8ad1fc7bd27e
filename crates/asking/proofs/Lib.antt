pub mod Journal
pub mod Fed
pub mod Sizes
pub mod Opening
pub mod Growing
pub mod Driving
pub mod Theorems
