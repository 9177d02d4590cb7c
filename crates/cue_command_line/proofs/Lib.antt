mod ClapRowLemmas
mod ClapWalkLemmas
mod CommandLemmas
mod LineLemmas
