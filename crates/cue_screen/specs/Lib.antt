pub mod Laws
pub mod Pictures
pub mod Terminal
