pub mod Answers
pub mod Laws
pub mod Letters
pub mod Lives
pub mod Naming
pub mod Sending
pub mod Stages
pub mod Steps
