pub mod SegmentRules
pub mod LevelRules
pub mod InlineRules
pub mod PathRules
pub mod KeepRules
pub mod RunRules
