pub mod NumberLemmas
mod SignLemmas
