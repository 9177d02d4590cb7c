mod CsvLemmas
pub mod DrawingLemmas
pub mod FailureLemmas
pub mod LawLemmas
pub mod PlaceLemmas
mod HeardLemmas
mod TextLemmas
