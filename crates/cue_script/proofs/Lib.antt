pub mod EndingLemmas
mod ScriptLemmas
mod ScriptLineLemmas
