pub mod CutLemmas
pub mod KeptLemmas
pub mod LineLemmas
pub mod LoopLemmas
