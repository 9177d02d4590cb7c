pub mod Address
pub mod Hand
pub mod Keys
pub mod Laws
pub mod Meaning
pub mod Settling
pub mod Taps
