pub mod Laws
pub mod Told
pub mod WayBack
pub mod Words
