pub mod Reading
pub mod Given
