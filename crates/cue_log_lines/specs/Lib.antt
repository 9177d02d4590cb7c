pub mod Fitting
pub mod Laws
pub mod Lines
pub mod Listed
pub mod Pieces
pub mod Reading
