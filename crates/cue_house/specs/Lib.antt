pub mod Asking
pub mod Decisions
pub mod House
pub mod Presses
pub mod Copies
pub mod Finger
