-- Laws of what a change makes of the cues of a show file.
use Rattle.std.specs.Prelude.{◌≡◌, ℕ, ◌+◌, suc, Bool, true, false, List, [], ◌∷◌, length, map, Option}
use Rattle.cue_show.specs.Number.{same_text}
use Rattle.cue_show.specs.declared.part.Part.{Part}
use Rattle.cue_edit.specs.Editing.{SeenCue, carried, changed, copied}
use Rattle.cue_edit.specs.declared.edit.Change.TheVariants as change
use Rattle.cue_edit.specs.declared.edit.Sign.{Sign}

-- what a controller is told of a cue
abbrev pub told : SeenCue → List ℕ × List Part
told c = (c.number, c.parts)

-- Whichever sign of whichever cue is set: the controller is told of the same cues with the same parts, in the same
-- order.
abbrev pub SignsMoveNothing : Type 0
SignsMoveNothing =
    (n : List ℕ) (s : Sign) (cs : List SeenCue) → map told (changed n (change.Sign s) cs) ≡ map told cs

-- one if it is so
abbrev pub one_if : Bool → ℕ
one_if true = 1
one_if false = 0

-- how many of the cues are such
abbrev pub count : (SeenCue → Bool) → List SeenCue → ℕ
count is_such [] = 0
count is_such (c ∷ cs) = one_if (is_such c) + count is_such cs

-- a cue has the number
abbrev pub is_number : List ℕ → SeenCue → Bool
is_number n c = same_text c.number n

-- Wherever a cue is carried whose number no other one has: of whatever kind, there are as many cues as before. So none
-- is lost, and none comes twice.
abbrev pub CarryingKeepsAll : Type 0
CarryingKeepsAll =
    (before : Option (List ℕ)) (n : List ℕ) (cs : List SeenCue) (is_such : SeenCue → Bool)
    → count (is_number n) cs ≡ 1 → count is_such (carried before n cs) ≡ count is_such cs

-- a copy of a cue that is there is one cue more
abbrev pub ACopyAddsOne : Type 0
ACopyAddsOne =
    (n : List ℕ) (new : List ℕ) (cs : List SeenCue) → count (is_number n) cs ≡ 1
    → length (copied n new cs) ≡ suc (length cs)
