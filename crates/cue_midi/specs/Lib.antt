pub mod Laws
pub mod Show
pub mod Stream
