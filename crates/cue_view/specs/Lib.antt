pub mod Late
pub mod Sight
pub mod Whole
