-- What a text says of what a desk kept.
use Rattle.std.specs.Prelude.{ℕ, zero, suc, ◌==◌, if◌then◌else◌, List, [], ◌∷◌, length, codes, decimal, Option, Some}
use Rattle.std.specs.Prelude.{None}
use Rattle.std.specs.Prelude.{find, nat_eq, nat_le}
use Rattle.std.specs.Cmp.Lexicographic.{pointwise}
use Rattle.cue_exchange.specs.declared.attempt.Outcome.{Outcome}
use Rattle.cue_exchange.specs.declared.attempt.Outcome.TheVariants as outcome
use Rattle.cue_exchange.specs.declared.attempt.Reason.{Reason}
use Rattle.cue_exchange.specs.declared.attempt.Reason.TheVariants as reason
use Rattle.cue_kept.specs.declared.TheConstants.{MOST, VERSION}
use Rattle.cue_log_lines.specs.Pieces.{◌>>=◌, after, below, number_of}
use Rattle.cue_show.specs.DeviceNumber.{device_of_byte}
use Rattle.cue_show.specs.Number.{is_cue_number}
use Rattle.cue_view.specs.declared.view.Told.{Told}
use Rattle.cue_words.specs.Answered.{outcome_words, reason_words}
use Rattle.cue_kept.specs.Alarms.{Alarms}

-- a byte before what was found
abbrev pub longer : ℕ → Option (List ℕ × List ℕ) → Option (List ℕ × List ℕ)
longer b None = None
longer b (Some cut) = Some (b ∷ cut.0, cut.1)

-- the first line without its line feed, and what follows it; none if the text has no line feed
unfoldable pub line_at : List ℕ → Option (List ℕ × List ℕ)
line_at [] = None
line_at (b ∷ bs) = if b == 10 then Some ([], bs) else longer b (line_at bs)

-- what the first line says after these words, and what follows the line
unfoldable pub said_at : List ℕ → List ℕ → Option (List ℕ × List ℕ)
said_at words text = line_at text >>= λ l. after words l.0 >>= λ said. Some (said, l.1)

-- what it means
unfoldable pub value_at : {A : Type 0} → (List ℕ → Option A) → List ℕ → List ℕ → Option (A × List ℕ)
value_at meaning words text = said_at words text >>= λ s. meaning s.0 >>= λ v. Some (v, s.1)

-- a number of 32 bits, in the digits that are written of it and no others
unfoldable pub number : List ℕ → Option ℕ
number said = below 4294967296 (number_of said) >>= λ n. if pointwise nat_eq (decimal n) said then Some n else None

-- a count that is not more than a desk keeps
unfoldable pub few : List ℕ → Option ℕ
few said = number said >>= λ n. if nat_le n MOST then Some n else None

-- the version of the text, and no other
unfoldable pub version : List ℕ → Option ℕ
version said = number said >>= λ n. if n == VERSION then Some n else None

-- a device
unfoldable pub device : List ℕ → Option ℕ
device said = number said >>= λ n. below 256 n >>= λ byte. device_of_byte byte

-- a cue, if nobody has forgotten it
unfoldable pub cue : List ℕ → Option (Option (List ℕ))
cue said =
    if is_cue_number said then Some (Some said) else (if pointwise nat_eq said (codes "none") then Some None else None)

-- how attempts end
abbrev pub outcomes : List Outcome
outcomes = outcome.Complete ∷ outcome.Cancelled ∷ outcome.Failed ∷ []

-- the outcome in these words
abbrev pub ending : List ℕ → Option Outcome
ending said = find (λ o. pointwise nat_eq said (outcome_words o)) outcomes

-- why preparations are given up
abbrev pub reasons : List Reason
reasons = reason.Operator ∷ reason.Deadline ∷ reason.Abort ∷ reason.Power ∷ reason.Release ∷ []

-- the reason in these words, if it is said
unfoldable pub why : List ℕ → Option (Option Reason)
why said =
    if pointwise nat_eq said (codes "none") then Some None
    else (find (λ r. pointwise nat_eq said (reason_words r)) reasons >>= λ r. Some (Some r))

-- one before those that were found
abbrev pub before : {A : Type 0} → A → Option (List A × List ℕ) → Option (List A × List ℕ)
before item None = None
before item (Some found) = Some (item ∷ found.0, found.1)

-- so many, one after the other
abbrev pub items_at : {A : Type 0} → (List ℕ → Option (A × List ℕ)) → ℕ → List ℕ → Option (List A × List ℕ)
items_at item zero text = Some ([], text)
items_at item (suc n) text = item text >>= λ i. before i.0 (items_at item n i.1)

-- an attempt
abbrev pub attempt_at : List ℕ → Option (ℕ × List ℕ)
attempt_at text = value_at number (codes "attempt ") text

-- a device
abbrev pub device_at : List ℕ → Option (ℕ × List ℕ)
device_at text = value_at device (codes "device ") text

-- devices, under these words
unfoldable pub devices_at : List ℕ → List ℕ → Option (List ℕ × List ℕ)
devices_at words text = value_at number words text >>= λ n. items_at device_at n.0 n.1

-- the devices that failed, and those that were excused
unfoldable pub parts_at : List ℕ → Option ((List ℕ × List ℕ) × List ℕ)
parts_at text =
    devices_at (codes "failed ") text >>= λ f. devices_at (codes "excused ") f.1 >>= λ e. Some ((f.0, e.0), e.1)

-- how an attempt ended, and why
unfoldable pub end_at : List ℕ → Option ((Outcome × Option Reason) × List ℕ)
end_at text =
    value_at ending (codes "outcome ") text >>= λ o. value_at why (codes "reason ") o.1 >>= λ r. Some ((o.0, r.0), r.1)

-- an attempt and its cue
unfoldable pub head_at : List ℕ → Option ((ℕ × Option (List ℕ)) × List ℕ)
head_at text = attempt_at text >>= λ a. value_at cue (codes "cue ") a.1 >>= λ c. Some ((a.0, c.0), c.1)

-- the attempt with this head, end and parts
abbrev pub told_of : ℕ × Option (List ℕ) → Outcome × Option Reason → List ℕ × List ℕ → Told
told_of head end parts = record {
  seq = head.0;
  cue = head.1;
  outcome = end.0;
  reason = end.1;
  failed = parts.0;
  excused = parts.1;
}

-- an attempt that ended
unfoldable pub told_at : List ℕ → Option (Told × List ℕ)
told_at text = head_at text >>= λ h. end_at h.1 >>= λ e. parts_at e.1 >>= λ p. Some (told_of h.0 e.0 p.0, p.1)

-- the attempts that were seen
unfoldable pub seen_at : List ℕ → Option (List ℕ × List ℕ)
seen_at text = value_at few (codes "seen ") text >>= λ n. items_at attempt_at n.0 n.1

-- the failures
unfoldable pub failures_at : List ℕ → Option (List Told × List ℕ)
failures_at text = value_at few (codes "failures ") text >>= λ n. items_at told_at n.0 n.1

-- all but what may follow
unfoldable pub alarms_at : List ℕ → Option (Alarms × List ℕ)
alarms_at text =
    value_at version (codes "alarms ") text >>= λ v. seen_at v.1 >>= λ s. failures_at s.1
    >>= λ f. Some (record { seen = s.0; failed = f.0 }, f.1)

-- what was found, if nothing follows
abbrev pub whole : Alarms × List ℕ → Option Alarms
whole found = if length found.1 == 0 then Some found.0 else None

-- what a text says; none if it is no such text
unfoldable pub read : List ℕ → Option Alarms
read text = alarms_at text >>= whole
