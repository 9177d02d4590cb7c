pub mod AdmitLemmas
mod RoundLemmas
pub mod ServeLemmas
