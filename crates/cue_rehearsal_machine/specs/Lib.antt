pub mod Deeds
pub mod Laws
pub mod Lives
pub mod Seats
pub mod Steps
