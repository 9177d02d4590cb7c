-- How often a cue was given.
use Rattle.std.specs.Prelude.{ℕ, ◌+◌, min, List, [], ◌∷◌, Option, Some, None, replicate, slice_index_or, slice_set}
use Rattle.cue_report.specs.Names.{count, place_of}
use Rattle.cue_report.specs.declared.attempt.Attempt.{Attempt}
use Rattle.cue_report.specs.declared.attempt.Moment.{Moment}
use Rattle.cue_report.specs.declared.names.Names.{Names}
use Rattle.cue_report.specs.declared.summary.Tally.{Tally}

-- once more, and last by this attempt
abbrev pub counted : Option Tally → ℕ → Tally
counted None place = record { times = 1; last = place }
counted (Some t) place = record { times = min (t.times + 1) 18446744073709551615; last = place }

-- the place in the file of the cue of an attempt, if that was given
abbrev pub given_place : Names → Option (List ℕ) → Option Moment → Option ℕ
given_place names None given = None
given_place names (Some cue) None = None
given_place names (Some cue) (Some given) = place_of names cue

-- an attempt is counted for the cue at a place of the file, and for no other
abbrev pub count_at : Option ℕ → ℕ → List (Option Tally) → List (Option Tally)
count_at None number tallies = tallies
count_at (Some place) number tallies =
    slice_set tallies place (Some (counted (slice_index_or tallies place None) number))

-- the attempts from this number on are counted, each for the cue that was given by it
abbrev pub tallies_from : Names → ℕ → List Attempt → List (Option Tally) → List (Option Tally)
tallies_from names number [] tallies = tallies
tallies_from names number (a ∷ rest) tallies =
    tallies_from names (number + 1) rest (count_at (given_place names a.cue a.given) number tallies)

-- how often each cue of the file was given, in the order of the file
abbrev pub tallies : Names → List Attempt → List (Option Tally)
tallies names attempts = tallies_from names 0 attempts (replicate (count names) None)
