-- The rules of a state: each event keeps them, and so do events in turn.
pub mod AtCueLemmas
pub mod RuleLemmas
pub mod ApplyLemmas
pub mod BatchLemmas
pub mod SoundLemmas
