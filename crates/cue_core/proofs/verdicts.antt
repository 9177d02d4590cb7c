-- What becomes of commands: the judgement of one, of several in turn, and the table of answers of devices.
pub mod LiveJudgementLemmas
pub mod JudgementLemmas
pub mod ShowJudgementLemmas
pub mod CountLemmas
pub mod StepLemmas
pub mod CellLemmas
pub mod AnswerLemmas
pub mod CommuteLemmas
pub mod ReadyLemmas
