pub mod Batch
pub mod BatchReading
pub mod Faults
pub mod Fields
pub mod Laws
pub mod Reading
pub mod State
pub mod StateReading
