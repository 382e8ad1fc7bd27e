pub mod Opened
pub mod Moved
pub mod Fitting
pub mod States
pub mod Stages
