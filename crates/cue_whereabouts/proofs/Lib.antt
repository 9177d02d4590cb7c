mod BeginningLemmas
mod TellingLemmas
