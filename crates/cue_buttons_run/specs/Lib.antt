pub mod Memory
pub mod Playing
pub mod Pressing
pub mod Telling
pub mod Waiting
pub mod Whole
pub mod Wishes
