pub mod PlacesLemmas
pub mod ReportLemmas
pub mod RoundLemmas
pub mod LifeLemmas
