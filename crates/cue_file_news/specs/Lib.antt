pub mod Judging
pub mod Keeping
pub mod Laws
pub mod Looks
pub mod Told
pub mod Turns
pub mod Watching
