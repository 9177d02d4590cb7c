-- Outputs whose bytes stand side by side in one buffer.
use Rattle.std.specs.Prelude.{◌≤◌, ◌-◌, ℕ, List, [], ◌∷◌, map, take, drop}
use Rattle.cue_machine.specs.declared.outputs.Entry.{Entry}
use Rattle.cue_machine.specs.Posting.{Given}

-- the output of an entry, with its bytes
abbrev pub given_in : List ℕ → Entry → Given
given_in bytes e = record { output = e.output; bytes = take (e.end - e.start) (drop e.start bytes) }

abbrev pub given_all : List ℕ → List Entry → List Given
given_all bytes entries = map (given_in bytes) entries

-- the bytes of each stand in a buffer of this length
abbrev pub AllWithin : ℕ → List Entry → Type 0
AllWithin size [] = Unit {0}
AllWithin size (e ∷ es) = ((e.start ≤ e.end) × (e.end ≤ size)) × AllWithin size es
