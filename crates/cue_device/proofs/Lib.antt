pub mod ReadingLemmas
pub mod CommandLemmas
pub mod ReplyLemmas
pub mod FitsLemmas
pub mod HistoryLemmas
pub mod OrderLemmas
pub mod CopyLemmas
pub mod CarryingLemmas
