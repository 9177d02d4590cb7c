mod AddressLemmas
pub mod ClaimLemmas
pub mod HearingLemmas
mod LoopLemmas
pub mod MessageLemmas
pub mod MeterLemmas
pub mod MotionLemmas
pub mod PieceLemmas
pub mod RateLemmas
mod SaidLemmas
mod StatusLemmas
mod TellLemmas
pub mod ToldLemmas
pub mod WayLemmas
