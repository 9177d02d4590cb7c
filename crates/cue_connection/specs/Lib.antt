pub mod Answers
pub mod Asking
pub mod Connecting
pub mod Laws
pub mod Marking
pub mod Scanning
pub mod Stages
