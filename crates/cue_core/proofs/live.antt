-- What each change of the live attempts makes of the attempt with a number.
pub mod FindingLemmas
pub mod ChangeLemmas
pub mod CancelLemmas
