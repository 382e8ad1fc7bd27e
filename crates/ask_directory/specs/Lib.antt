pub mod Left
pub mod Move
