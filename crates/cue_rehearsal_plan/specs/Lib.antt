pub mod Laws
pub mod Roles
pub mod Signs
pub mod Unknown
pub mod Words
