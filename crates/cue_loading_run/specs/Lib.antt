pub mod Lived
pub mod Seen
