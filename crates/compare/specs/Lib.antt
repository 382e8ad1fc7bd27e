pub mod Column
pub mod Lists
pub mod Difference
pub mod Compare
