pub mod Endings
pub mod Files
pub mod Locking
pub mod Performing
pub mod Showing
pub mod Placing
