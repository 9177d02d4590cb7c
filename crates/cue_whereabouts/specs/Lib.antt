pub mod Beginning
pub mod Differing
pub mod Ending
pub mod Laws
pub mod Memory
pub mod Supposing
pub mod Telling
pub mod Text
