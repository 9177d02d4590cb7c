-- What a history says by itself: of one attempt, of every number, and the facts that a theatre relies on.
pub mod TellsLemmas
pub mod AttemptLemmas
pub mod NumberLemmas
pub mod FactLemmas
pub mod HappeningLemmas
pub mod SafetyLemmas
pub mod RestLemmas
