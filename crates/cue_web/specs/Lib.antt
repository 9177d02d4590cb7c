pub mod Admitting
pub mod Marking
pub mod Serving
