pub mod Cases
pub mod Runs
pub mod Scans
