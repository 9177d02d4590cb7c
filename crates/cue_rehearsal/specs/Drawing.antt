-- What is drawn from a seed: the words of PCG32, in order.
use Rattle.std.specs.Prelude.{ℕ, ◌+◌, ◌%◌, ◌^◌, ◌==◌, Bool, nat_lt, if◌then◌else◌}
use Rattle.rand_pcg.specs.Lcg.{Lcg, increment_of, started}
use Rattle.rand_pcg.specs.Pcg.{multiplier_64, pcg32}
use Rattle.cue_rehearsal.specs.declared.chance.Chance.{Chance}
use Rattle.cue_rehearsal.specs.declared.chance.TheConstants.{STREAM}

-- the generator in this state
abbrev pub generator_of : Chance → Lcg
generator_of c = record { state = c.state; increment = increment_of 64 STREAM }

-- the next word
abbrev pub word_of : Chance → ℕ
word_of c = (pcg32 (generator_of c)).0

-- and what is drawn after it
abbrev pub next : Chance → Chance
next c = record { state = (pcg32 (generator_of c)).1.state }

-- the draws of a seed
abbrev pub chance_of : ℕ → Chance
chance_of seed = record { state = (started 64 multiplier_64 seed (increment_of 64 STREAM)).state }

-- a number up to this one; of the highest one the word itself is one
abbrev pub up_to : ℕ → Chance → ℕ
up_to most c = if most + 1 == 2 ^ 32 then word_of c else word_of c % (most + 1)

-- a datagram is lost, if so many of a hundred are
abbrev pub is_lost : ℕ → Chance → Bool
is_lost of_hundred c = nat_lt (word_of c % 100) of_hundred
