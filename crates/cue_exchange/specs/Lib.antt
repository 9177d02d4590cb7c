pub mod Answers
pub mod Live
pub mod Steps
pub mod Holders
pub mod Outcomes
