pub mod Keep
pub mod Layout
pub mod Reading
pub mod Readable
pub mod File
