pub mod Grouping
pub mod Running
pub mod Lives
pub mod Through
pub mod Watching
