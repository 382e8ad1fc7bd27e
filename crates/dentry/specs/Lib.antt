pub mod Slot
pub mod Scan
