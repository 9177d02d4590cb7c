-- Laws of what is told of a load.
use Rattle.std.specs.Prelude.{◌≡◌, ◌≢◌, ◌<◌, ◌^◌, ℕ, Bool, true, false, not, List, [], length, Option, Some, None}
use Rattle.cue_desk.specs.declared.answered.Answered.{Answered}
use Rattle.cue_load_machine.specs.Counts.{nothing, with_answers}
use Rattle.cue_load_machine.specs.declared.stage.LoadEnd.{LoadEnd}
use Rattle.cue_load_machine.specs.declared.stage.LoadEnd.TheVariants as end
use Rattle.cue_loading.specs.Loaded.{is_same}
use Rattle.cue_show.specs.Show.{ShowLists}
use Rattle.cue_show_file.specs.declared.mistake.Subject.{Subject}
use Rattle.cue_load_words.specs.Copies.{IsCopyOf, IsStem, IsWithout, kept_name, toml}
use Rattle.cue_load_words.specs.Endings.{ending_of, ending_of_machine, some_refused}
use Rattle.cue_load_words.specs.Telling.{refusals}

-- ---- how a load ends

-- with status 0 nothing was refused, and the store is what the file says
abbrev pub DoneIsLoaded : Type 0
DoneIsLoaded =
    (file stored : ShowLists) (is_refused : Bool) → ending_of is_refused (not (is_same file stored)) ≡ None
    → (is_refused ≡ false) × (is_same file stored ≡ true)

-- and each message was replied to, and none was refused
abbrev pub SilenceIsNoSuccess : Type 0
SilenceIsNoSuccess = (e : Option LoadEnd) → ending_of_machine e ≡ None → e ≡ Some end.Done

-- ---- what was refused

-- where something was refused, an entry is named, and the number of those that were refused is not 0
abbrev pub RefusedIsNamed : Type 0
RefusedIsNamed =
    (entries : List Subject) (answers : List Answered) → length entries ≡ length answers
    → some_refused answers ≡ true → refusals (λ s. s) entries answers ≢ []

abbrev pub RefusedIsCounted : Type 0
RefusedIsCounted =
    (answers : List Answered) → some_refused answers ≡ true → (with_answers nothing answers).refused ≢ 0

-- ---- copies

abbrev pub CopiesAreApart : Type 0
CopiesAreApart =
    (stem : List ℕ) (j k : ℕ) → j < 2 ^ 32 → k < 2 ^ 32 → kept_name stem j ≡ kept_name stem k → j ≡ k

abbrev pub CopiesAreFound : Type 0
CopiesAreFound = (stem : List ℕ) (k : ℕ) → k < 2 ^ 32 → IsStem (kept_name stem k) stem

-- it is called like a copy of this one
abbrev pub IsCopy : (path stem : List ℕ) → Type 0
IsCopy path stem = (bare : List ℕ) × IsWithout toml path bare × IsCopyOf stem bare

abbrev pub NoCopyIsTheFile : Type 0
NoCopyIsTheFile =
    (path stem : List ℕ) (k : ℕ) → IsStem path stem → kept_name stem k ≡ path → IsCopy path stem
