pub mod Tasks
pub mod Stage
pub mod Laws
pub mod Consent
pub mod Waiting
pub mod Going
