pub mod Inverse
pub mod Ways
pub mod Next
pub mod Leaves
