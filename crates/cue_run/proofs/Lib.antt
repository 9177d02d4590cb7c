mod LivesLemmas
mod MomentLemmas
mod OfferLemmas
mod RoundLemmas
mod RunLemmas
mod ThroughLemmas
mod WatchLemmas
mod WorkLemmas
