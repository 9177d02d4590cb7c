pub mod Answered
pub mod CodeWords
pub mod ShowText
pub mod Signs
