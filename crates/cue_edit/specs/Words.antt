-- What is said of an edit.
use Rattle.std.specs.Prelude.{ℕ, List, [], ◌++◌, codes, Option, None, Some}
use Rattle.cue_edit.specs.declared.edit.Change.{Change}
use Rattle.cue_edit.specs.declared.edit.Change.TheVariants as change
use Rattle.cue_edit.specs.declared.edit.Edit.{Edit}
use Rattle.cue_edit.specs.declared.edit.EditFault.{EditFault}
use Rattle.cue_edit.specs.declared.edit.EditFault.TheVariants as fault
use Rattle.cue_edit.specs.declared.edit.Sign.{Sign}
use Rattle.cue_edit.specs.declared.edit.Sign.TheVariants as sign

-- ---- what was done

-- a sign by its name
abbrev pub sign_said : Sign → List ℕ
sign_said (sign.Name t) = codes "name"
sign_said (sign.Note t) = codes "note"
sign_said (sign.Color c) = codes "colour"
sign_said (sign.Flag f) = codes "flag"

-- a cue that comes elsewhere
abbrev pub carried_said : List ℕ → Option (List ℕ) → List ℕ
carried_said c None = codes "cue " ++ (c ++ codes " comes last")
carried_said c (Some before) = codes "cue " ++ (c ++ (codes " comes before cue " ++ before))

-- a cue with its change
abbrev pub changed_said : List ℕ → Change → List ℕ
changed_said c (change.Sign s) = codes "cue " ++ (c ++ (codes ": its " ++ (sign_said s ++ codes " is changed")))
changed_said c (change.Before before) = carried_said c before
changed_said c (change.Copy n) = codes "cue " ++ (n ++ (codes " is a copy of cue " ++ c))

abbrev pub done_said : Edit → List ℕ
done_said e = changed_said e.cue e.change

-- ---- why nothing was done

-- a cue that cannot come there
abbrev pub no_place_by : List ℕ → Option (List ℕ) → List ℕ
no_place_by c None = []
no_place_by c (Some before) =
    codes "cue "
    ++ (c ++ (codes " cannot come before cue " ++ (before ++ codes ": that is itself, or not in the file")))

abbrev pub no_place_said : List ℕ → Change → List ℕ
no_place_said c (change.Before before) = no_place_by c before
no_place_said c (change.Sign s) = []
no_place_said c (change.Copy n) = []

-- the number that is taken
abbrev pub taken_said : Change → List ℕ
taken_said (change.Copy n) = codes "cue " ++ (n ++ codes " is in the file already: take another number")
taken_said (change.Sign s) = []
taken_said (change.Before before) = []

-- why a change is refused
abbrev pub refused_said : Edit → EditFault → List ℕ
refused_said e fault.NoCue = codes "cue " ++ (e.cue ++ codes " is not in the file")
refused_said e fault.NoPlace = no_place_said e.cue e.change
refused_said e fault.Taken = taken_said e.change
refused_said e (fault.Mistakes found) = codes "the changed file would have mistakes, and stays as it is"
refused_said e fault.Form =
    codes "cue "
    ++ (e.cue ++ codes " has no header of its own, or a value of several lines: change it with an editor")
