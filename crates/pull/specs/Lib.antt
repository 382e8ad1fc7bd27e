pub mod OpenFile
pub mod Walk
pub mod Pull
pub mod OneName
