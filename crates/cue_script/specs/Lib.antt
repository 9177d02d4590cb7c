pub mod Endings
pub mod Playing
pub mod Script
pub mod ScriptLines
pub mod ScriptViews
pub mod Streams
