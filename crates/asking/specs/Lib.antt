pub mod Asking
pub mod Table
pub mod Open
pub mod Pull
