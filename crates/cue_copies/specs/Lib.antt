pub mod Copies
pub mod Looking
pub mod OnlyReads
pub mod Earlier
pub mod Telling
