pub mod Edits
pub mod Ends
pub mod Orders
pub mod Pages
