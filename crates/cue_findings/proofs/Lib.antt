mod CheckingLemmas
mod JudgingLemmas
