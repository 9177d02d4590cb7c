pub mod Editing
pub mod Laws
pub mod Outcome
pub mod Rewriting
pub mod Words
