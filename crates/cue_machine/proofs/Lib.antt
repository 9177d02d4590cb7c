pub mod BufferLemmas
pub mod LivingLemmas
