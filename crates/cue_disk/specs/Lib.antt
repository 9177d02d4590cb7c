pub mod Crash
pub mod Disk
pub mod Effect
pub mod File
pub mod Medium
pub mod MediumLaws
pub mod Memory
pub mod Plan
