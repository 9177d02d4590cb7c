pub mod Checking
pub mod Judging
pub mod Laws
pub mod Words
