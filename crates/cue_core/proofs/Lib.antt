pub mod history
pub mod lists
pub mod live
pub mod rules
pub mod verdicts
