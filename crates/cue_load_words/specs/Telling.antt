-- Which lines are said and printed of a load, and in what order.
use Rattle.std.specs.Prelude.{◌≡◌, ℕ, ◌==◌, Bool, true, false, ◌&&◌, ◌||◌, not, if◌then◌else◌, List, [], ◌∷◌}
use Rattle.std.specs.Prelude.{◌++◌, length, Option, Some, None, IsTrue}
use Rattle.cue_desk.specs.declared.answered.Answered.{Answered}
use Rattle.cue_desk.specs.declared.answered.Answered.TheVariants as answered
use Rattle.cue_loading.specs.declared.comparing.Difference.{Difference}
use Rattle.cue_loading.specs.Differences.{are_so}
use Rattle.cue_loading.specs.Loaded.{is_same}
use Rattle.cue_load_machine.specs.declared.planned.Planned.{Planned}
use Rattle.cue_load_machine.specs.declared.stage.LoadEnd.{LoadEnd}
use Rattle.cue_load_machine.specs.declared.stage.LoadEnd.TheVariants as end
use Rattle.cue_load_machine.specs.Counts.{cues_of, devices_of, nothing, with_answers}
use Rattle.cue_load_machine.specs.Differing.{is_left, is_refused}
use Rattle.cue_load_machine.specs.Plans.{is_open, subject_at}
use Rattle.cue_load_machine.specs.Stages.{end_of}
use Rattle.cue_show.specs.Show.{ShowLists}
use Rattle.cue_show_file.specs.declared.mistake.Subject.{Subject}
use Rattle.cue_load_words.specs.declared.printed.Kind.{Kind}
use Rattle.cue_load_words.specs.declared.printed.Kind.TheVariants as kind
use Rattle.cue_load_words.specs.declared.printed.Printed.{Printed}
use Rattle.cue_load_words.specs.declared.printed.Printed.TheVariants as printed
use Rattle.cue_load_words.specs.declared.said.Said.{Said}
use Rattle.cue_load_words.specs.declared.said.Said.TheVariants as said
use Rattle.cue_load_words.specs.declared.telling.PlanLines.{PlanLines}

-- ---- what became of entries

-- an entry that was refused is named, with the code
abbrev pub refusal : Subject → Answered → List Said
refusal s answered.Made = []
refusal s answered.Known = []
refusal s (answered.Refused code) = said.Refused s code ∷ []

-- each entry by its own reply, in the order of the file
abbrev pub refusals : {E : Type 0} → (E → Subject) → List E → List Answered → List Said
refusals called [] answers = []
refusals called (e ∷ es) [] = []
refusals called (e ∷ es) (a ∷ answers) = refusal (called e) a ++ refusals called es answers

-- the numbers of a line are those of the replies
abbrev pub added_line : Kind → List Answered → Printed
added_line k answers = printed.Added k (with_answers nothing answers)

-- or of what a plan makes of the store
abbrev pub replaced_line : Kind → Bool → ShowLists → ShowLists → Printed
replaced_line kind.Devices exact file stored = printed.Replaced kind.Devices (devices_of exact file stored)
replaced_line kind.Cues exact file stored = printed.Replaced kind.Cues (cues_of exact file stored)

-- ---- what became of a plan

-- why it ended: its step was refused, nobody replied to it, or what the store had could not be kept
abbrev pub why : Option LoadEnd → Option Subject → Option Said
why (Some (end.Refused place code)) (Some s) = Some (said.Refused s code)
why (Some (end.Silent place)) (Some s) = Some (said.Unanswered s)
why (Some (end.Nobody place)) (Some s) = Some (said.Unanswered s)
why (Some end.NotKept) s = Some said.NotReplaced
why (Some (end.Refused place code)) None = None
why (Some (end.Silent place)) None = None
why (Some (end.Nobody place)) None = None
why (Some end.Done) s = None
why None s = None

abbrev pub place_line : Option (List ℕ) → Option Said
place_line None = None
place_line (Some cue) = Some (said.PlaceWas cue)

-- if something may have been taken away that is not back, this is said, and where the place was
abbrev pub lines_of_end : Option Said → Bool → Option (List ℕ) → PlanLines
lines_of_end w true place = record { why = w; not_whole = Some said.NotWhole; place = place_line place }
lines_of_end w false place = record { why = w; not_whole = None; place = None }

-- of a plan that is done nothing is said
abbrev pub lines_after : Option LoadEnd → Planned → Option (List ℕ) → PlanLines
lines_after (Some end.Done) p place = lines_of_end None false None
lines_after e p place = lines_of_end (why e (subject_at p)) (is_open p) place

abbrev pub lines_of_plan : Planned → Option (List ℕ) → PlanLines
lines_of_plan p place = lines_after (end_of p.machine.stage) p place

-- ---- what differs

-- The two differ in each of these; there is one at least, unless the store is what the file says.
pub record AreDifferences (file stored : ShowLists) (found : List Difference) : Type 0 where
  pub each : IsTrue (are_so file stored found)
  pub none : (length found == 0) ≡ is_same file stored

-- a difference is named, unless the reply to its entry has told it
abbrev pub difference : Bool → Difference → List Said
difference is_told d = if is_told && is_refused d then [] else said.Differs d ∷ []

abbrev pub differences : Bool → List Difference → List Said
differences is_told [] = []
differences is_told (d ∷ ds) = difference is_told d ++ differences is_told ds

-- the store has one of them, and the file does not
abbrev pub some_left : List Difference → Bool
some_left [] = false
some_left (d ∷ ds) = is_left d || some_left ds

-- one of them is something else
abbrev pub some_other : List Difference → Bool
some_other [] = false
some_other (d ∷ ds) = not (is_left d) || some_other ds

abbrev pub if_so : Bool → Said → List Said
if_so wanted line = if wanted then line ∷ [] else []

-- each difference, and then what to do about them: to replace, and to remove what the file does not have
abbrev pub lines_of : Bool → List Difference → List Said
lines_of is_told found =
    differences is_told found
    ++ (if_so (some_other found) said.ToReplace ++ if_so (some_left found) said.ToRemove)

-- The lines are those of the differences between the file and the store.
pub record TellsDifferences (is_told : Bool) (file stored : ShowLists) (lines : List Said) : Type 0 where
  pub found : List Difference
  pub are : AreDifferences file stored found
  pub said : lines ≡ lines_of is_told found
