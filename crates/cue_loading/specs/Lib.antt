pub mod Stacks
pub mod Steps
pub mod Loaded
pub mod Differences
