mod Joined
mod ZeroRuns
mod Checksum
mod Opening
mod Pulling
mod Reporting
pub mod Theorems
