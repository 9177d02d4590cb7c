pub mod Addresses
pub mod Buffers
pub mod Growing
pub mod Hearing
pub mod Living
pub mod Memory
pub mod Posting
pub mod Turning
