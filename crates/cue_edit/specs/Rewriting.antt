-- How a text is written anew: one piece of it is replaced, or carried to another place, and all others stay.
use Rattle.std.specs.Prelude.{ℕ, ◌-◌, ◌==◌, Bool, true, false, if◌then◌else◌, List, [], ◌∷◌, ◌++◌, take, drop, nat_le}
use Rattle.std.specs.Prelude.{string_bytes}
use Rattle.cue_edit.specs.declared.edit.Change.{Change}
use Rattle.cue_edit.specs.declared.edit.Change.TheVariants.{Sign, Before, Copy}
use Rattle.cue_edit.specs.declared.rewriting.Rewrite.{Rewrite}
use Rattle.cue_edit.specs.declared.rewriting.Rewrite.TheVariants.{Replace, Carry}

-- the bytes from one place to another
abbrev pub between : ℕ → ℕ → List ℕ → List ℕ
between from to t = drop from (take to t)

-- the text with other bytes in place of those from one place to another
abbrev pub replaced : ℕ → ℕ → List ℕ → List ℕ → List ℕ
replaced from to put t = take from t ++ (put ++ drop to t)

-- the text with two neighbours in the other order: what is from a to b, and what is from b to c
abbrev pub swapped : ℕ → ℕ → ℕ → List ℕ → List ℕ
swapped a b c t = take a t ++ (between b c t ++ (between a b t ++ drop c t))

-- a text that is written anew
abbrev pub rewritten : Rewrite → List ℕ → List ℕ
rewritten (Replace from to put) t = replaced from to (string_bytes put) t
rewritten (Carry a b c) t = swapped a b c t

-- ---- the last line

-- the text ends with a line break, or is empty
abbrev pub is_ended : List ℕ → Bool
is_ended [] = true
is_ended (b ∷ []) = b == 10
is_ended (b ∷ c ∷ bs) = is_ended (c ∷ bs)

-- the text, with a line break after its last line
abbrev pub ended : List ℕ → List ℕ
ended t = if is_ended t then t else t ++ 10 ∷ []

-- ---- which change is made how

abbrev pub is_replacement : Rewrite → Bool
is_replacement (Replace from to put) = true
is_replacement (Carry a b c) = false

-- nothing is taken away
abbrev pub is_insertion : Rewrite → Bool
is_insertion (Replace from to put) = from == to
is_insertion (Carry a b c) = false

-- each byte stays, and some stand elsewhere
abbrev pub is_carrying : Rewrite → Bool
is_carrying (Replace from to put) = false
is_carrying (Carry a b c) = true

-- a sign is one piece, a cue is carried with all its lines, and a copy takes nothing away
abbrev pub is_for : Change → Rewrite → Bool
is_for (Sign s) r = is_replacement r
is_for (Before b) r = is_carrying r
is_for (Copy n) r = is_insertion r
