-- Tests joined, and tests of the elements of a list.
pub mod ConditionLemmas
pub mod AnyLemmas
