pub mod Pieces
pub mod Turns
pub mod Found
pub mod Calls
pub mod Kept
pub mod Ends
pub mod Lengths
