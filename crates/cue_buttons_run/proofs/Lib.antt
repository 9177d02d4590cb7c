pub mod PlayingLemmas
pub mod PressLemmas
pub mod StruckLemmas
pub mod TellingLemmas
pub mod WholeLemmas
pub mod WishesLemmas
