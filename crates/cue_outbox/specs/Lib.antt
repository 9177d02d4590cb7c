pub mod Sending
pub mod Owed
pub mod Laws
pub mod Views
pub mod New
pub mod Asked
