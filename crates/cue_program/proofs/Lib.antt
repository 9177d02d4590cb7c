mod PerformLemmas
mod ServeLemmas
