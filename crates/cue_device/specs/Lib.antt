pub mod Table
pub mod Hearing
pub mod Datagrams
pub mod Histories
pub mod Laws
pub mod Meanings
pub mod Copies
pub mod Carrying
