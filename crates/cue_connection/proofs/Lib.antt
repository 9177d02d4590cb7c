pub mod AskingLemmas
mod LifeLemmas
mod PieceLemmas
mod ScanningLemmas
