pub mod Laws
pub mod Planning
pub mod Words
