pub mod Alarms
pub mod Laws
pub mod Reading
pub mod Text
