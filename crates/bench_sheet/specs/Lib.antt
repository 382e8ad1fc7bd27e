pub mod Line
pub mod Volume004
pub mod Sheet
pub mod OpeningRules
pub mod WalkRules
pub mod CompareRules
