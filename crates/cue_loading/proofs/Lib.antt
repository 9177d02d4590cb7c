mod StackLemmas
mod DifferenceLemmas
mod StepLemmas
