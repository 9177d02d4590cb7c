pub mod Answers
pub mod Identity
pub mod Fields
pub mod Laws
pub mod Lit
pub mod Locks
pub mod Presses
pub mod Requests
