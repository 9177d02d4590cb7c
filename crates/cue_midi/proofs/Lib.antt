mod LawLemmas
mod StreamLemmas
