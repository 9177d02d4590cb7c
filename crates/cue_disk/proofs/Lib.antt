mod ClauseLemmas
pub mod CrashLemmas
mod HistoryLemmas
pub mod MomentLemmas
mod PlannedLemmas
mod ReachedLemmas
mod WrittenLemmas
