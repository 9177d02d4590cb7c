mod LivedLemmas
mod SeenLemmas
