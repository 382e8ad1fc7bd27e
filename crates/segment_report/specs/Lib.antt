pub mod Off
pub mod Report
