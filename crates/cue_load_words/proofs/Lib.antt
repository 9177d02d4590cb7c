mod AnswerLemmas
mod CopyLemmas
mod EndingLemmas
mod LookLemmas
mod PlanLemmas
