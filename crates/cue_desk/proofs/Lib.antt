pub mod AskLemmas
pub mod ReadLemmas
pub mod TakenLemmas
