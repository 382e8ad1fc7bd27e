pub mod Entry
pub mod Table
pub mod Opening
pub mod SegmentTable
