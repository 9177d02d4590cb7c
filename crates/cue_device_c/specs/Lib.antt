pub mod Codes
pub mod State
pub mod Calls
pub mod Laws
