pub mod HandLemmas
pub mod PedalLemmas
pub mod RaceLemmas
pub mod SettlingLemmas
