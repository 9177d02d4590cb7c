-- The lists within a line: devices that failed, and attempts that were live when `serve` began.
use Rattle.std.specs.Prelude.{◌≡◌, ℕ, List, [], ◌∷◌, ◌++◌, codes, decimal, Option, Some, None, IsTrue, find, nat_eq}
use Rattle.std.specs.List.{flat_map, starts_with}
use Rattle.cue_log_lines.specs.declared.line.Try.{Try}
use Rattle.cue_log_lines.specs.declared.listed.Cause.{Cause}
use Rattle.cue_log_lines.specs.declared.listed.Cause.TheVariants as cause
use Rattle.cue_log_lines.specs.declared.listed.Failure.{Failure}
use Rattle.cue_log_lines.specs.declared.listed.Found.{Found}
use Rattle.cue_log_lines.specs.declared.listed.Found.TheVariants as found
use Rattle.cue_show.specs.DeviceNumber.{is_device}
use Rattle.cue_log_lines.specs.Lines.{try_text}
use Rattle.cue_log_lines.specs.Pieces.{◌>>=◌, after, device_at}
use Rattle.cue_log_lines.specs.Reading.{try_at}

-- how a device failed
abbrev pub cause_words : Cause → List ℕ
cause_words cause.Aborted = codes " aborted"
cause_words cause.Released = codes " was released"
cause_words cause.Unseen = codes " failed"

-- a device that failed
unfoldable pub failure_text : Failure → List ℕ
failure_text f = codes ", device " ++ (decimal f.device ++ cause_words f.cause)

-- the devices that failed
abbrev pub failures_text : List Failure → List ℕ
failures_text fs = flat_map failure_text fs

-- each of the causes
abbrev pub causes : List Cause
causes = cause.Aborted ∷ cause.Released ∷ cause.Unseen ∷ []

-- a cause, and what follows it
unfoldable pub cause_at : List ℕ → Option (Cause × List ℕ)
cause_at text =
    find (λ c. starts_with nat_eq text (cause_words c)) causes
    >>= λ c. after (cause_words c) text >>= λ rest. Some (c, rest)

-- the first of the devices that failed, and the others
unfoldable pub failure_at : List ℕ → Option (Failure × List ℕ)
failure_at text =
    after (codes ", device ") text >>= λ rest. device_at rest >>= λ d. cause_at d.1
    >>= λ c. Some (record { device = d.0; cause = c.0 }, c.1)

-- what a recovery found
abbrev pub found_words : Found → List ℕ
found_words found.Preparing = codes " is preparing"
found_words found.Given = codes " was given, GO is sent again"
found_words found.Lost = codes " was preparing, given up"
found_words found.GivenUp = codes " was given up, CANCEL is sent again"

-- an attempt that a recovery found
abbrev pub found_text : Try → Found → List ℕ
found_text t f = try_text t ++ found_words f

-- all that it can find
abbrev pub all_found : List Found
all_found = found.Preparing ∷ found.Given ∷ found.Lost ∷ found.GivenUp ∷ []

-- the attempt that a recovery found
unfoldable pub found_at : List ℕ → Option (Try × Found)
found_at text =
    try_at text >>= λ t. find (λ f. starts_with nat_eq t.1 (found_words f)) all_found >>= λ f. Some (t.0, f)

-- a list goes on after its first device as it was written
abbrev pub FailuresAreReadBack : Type 0
FailuresAreReadBack =
    (f : Failure) (others : List Failure) → IsTrue (is_device f.device)
    → failure_at (failures_text (f ∷ others)) ≡ Some (f, failures_text others)
