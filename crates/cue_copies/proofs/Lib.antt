mod CopyLemmas
mod EarlierLemmas
mod TellingLemmas
