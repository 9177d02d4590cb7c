mod AskLemmas
mod HearLemmas
mod LawLemmas
mod LeaveLemmas
mod ReadLemmas
pub mod WorkLemmas
