pub mod Number
pub mod Map
pub mod Bytes
pub mod Card
pub mod Choice
