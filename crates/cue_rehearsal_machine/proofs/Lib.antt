mod LawLemmas
mod LifeLemmas
mod SeatLemmas
mod StepLemmas
mod TableLemmas
