pub mod Drawing
pub mod Plans
pub mod Playing
