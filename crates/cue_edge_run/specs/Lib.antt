pub mod Hearing
pub mod Missing
pub mod Turns
