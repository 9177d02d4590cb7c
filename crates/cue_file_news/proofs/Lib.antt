mod JudgeLemmas
mod LookLemmas
mod RestLemmas
mod TakeLemmas
mod ToldLemmas
