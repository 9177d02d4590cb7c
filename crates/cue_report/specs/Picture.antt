-- What the report tells of all attempts, and what a line makes of it.
use Rattle.std.specs.Prelude.{◌≡◌, ℕ, Bool, false, drop, not, ◌&&◌, ◌++◌, if◌then◌else◌, List, [], ◌∷◌, zero, suc, length, map}
use Rattle.std.specs.Prelude.{Option, Some, None, is_some, nat_eq, nat_lt, option_and_then, slice_get, slice_set}
use Rattle.std.specs.Prelude.{unwrap_or}
use Rattle.std.specs.Prelude.{replicate}
use Rattle.std.specs.BTreeMap.{insert_entry, is_at}
use Rattle.std.specs.Map.{lookup}
use Rattle.std.specs.List.{AllByRecursion}
use Rattle.cue_log_lines.specs.Reading.{read}
use Rattle.cue_report.specs.Reading.{IsEndOf}
use Rattle.cue_report.specs.declared.reading.Said.{Said}
use Rattle.cue_report.specs.declared.reading.Said.TheVariants as said
use Rattle.std.specs.Ordering.{nat_cmp}
use Rattle.cue_exchange.specs.declared.attempt.Reason.TheVariants as reason
use Rattle.cue_log_lines.specs.declared.line.Ended.{Ended as LineOfEnd}
use Rattle.cue_log_lines.specs.declared.line.Line.{Line}
use Rattle.cue_log_lines.specs.declared.line.Line.TheVariants as line
use Rattle.cue_log_lines.specs.declared.line.Ordered.{Ordered}
use Rattle.cue_log_lines.specs.declared.line.Try.{Try}
use Rattle.cue_log_lines.specs.declared.line.Why.{Why}
use Rattle.cue_log_lines.specs.declared.line.Why.TheVariants as why
use Rattle.cue_log_lines.specs.declared.listed.Found.{Found}
use Rattle.cue_log_lines.specs.declared.listed.Found.TheVariants as found
use Rattle.cue_operator.specs.declared.method.DeviceVerb.{DeviceVerb}
use Rattle.cue_show.specs.Number.{same_text}
use Rattle.cue_show.specs.declared.limits.TheConstants.{MAX_DEVICES}
use Rattle.cue_report.specs.Seen.{Seen, after_end, after_give_up, after_ordered, after_word, new_of, seen, why_words}
use Rattle.cue_report.specs.declared.attempt.Ended.{Ended}
use Rattle.cue_report.specs.declared.attempt.Who.{Who}
use Rattle.cue_report.specs.declared.attempt.Who.TheVariants as who
use Rattle.cue_report.specs.declared.attempts.Attempts.{Attempts}

-- the attempts in the order of their first lines; the place of the newest one with each number; and for each device the
-- place of the one that it is in, or was in last
pub record Picture : Type 0 where
  pub attempts : List Seen
  pub newest : List (ℕ × ℕ)
  pub holders : List (Option ℕ)

-- what the code has of it
abbrev pub picture : Attempts → Picture
picture p = record {
  attempts = map seen p.list.items;
  newest = p.newest.entries;
  holders = p.holders;
}

-- it had ended before this second
abbrev pub is_over : ℕ → Option Ended → Bool
is_over at None = false
is_over at (Some ended) = nat_lt ended.at at

-- both have a cue, and not the same one
abbrev pub is_other : Option (List ℕ) → Option (List ℕ) → Bool
is_other None cue = false
is_other (Some one) None = false
is_other (Some one) (Some other) = not (same_text one other)

-- a line of this second names the attempt: that has its number, had not ended before, and has no other cue
abbrev pub is_named : ℕ → Try → Seen → Bool
is_named at t a = nat_eq a.number t.number && (not (is_over at a.ended) && not (is_other a.cue t.cue))

-- this place, if a line of this second names the attempt there
abbrev pub place_if : ℕ → Try → ℕ → Option Seen → Option ℕ
place_if at t place None = None
place_if at t place (Some a) = if is_named at t a then Some place else None

-- the place of the newest attempt with a number
abbrev pub newest_with : ℕ → Picture → Option ℕ
newest_with number p = lookup (is_at (nat_cmp number)) p.newest

-- the place of the attempt that a line of this second names, if it is there
unfoldable pub named_place : ℕ → Try → Picture → Option ℕ
named_place at t p =
    option_and_then (λ place. place_if at t place (slice_get p.attempts place)) (newest_with t.number p)

-- its place; that of a new one, if it is not there
abbrev pub place_of : ℕ → Try → Picture → ℕ
place_of at t p = unwrap_or (named_place at t p) (length p.attempts)

-- an attempt is added
abbrev pub with_new : Try → Picture → Picture
with_new t p = record p {
  attempts = p.attempts ++ new_of t ∷ [];
  newest = insert_entry nat_cmp p.newest t.number (length p.attempts);
}

-- the attempt that a line of this second names is there
abbrev pub with_named : ℕ → Try → Picture → Picture
with_named at t p = if is_some (named_place at t p) then p else with_new t p

-- the thing at a place is changed so
abbrev pub changed_at : {A : Type 0} → ℕ → (A → A) → List A → List A
changed_at place change [] = []
changed_at zero change (x ∷ xs) = change x ∷ xs
changed_at (suc place) change (x ∷ xs) = x ∷ changed_at place change xs

-- the attempt at a place is changed so
abbrev pub changed : ℕ → (Seen → Seen) → Picture → Picture
changed place change p = record p { attempts = changed_at place change p.attempts }

-- a line of this second says this of an attempt
abbrev pub said_of : ℕ → Try → (Seen → Seen) → Picture → Picture
said_of at t change p = changed (place_of at t p) change (with_named at t p)

-- a device is in the attempt at this place
abbrev pub held : ℕ → ℕ → Picture → Picture
held device place p = record p { holders = slice_set p.holders device (Some place) }

-- an order was sent
abbrev pub after_order_line : ℕ → Who → Ordered → Picture → Picture
after_order_line at by o p = held o.device (place_of at o.attempt p) (said_of at o.attempt (after_ordered at by o) p)

-- the place of the attempt that a device is in
abbrev pub holder : ℕ → Picture → Option ℕ
holder device p = option_and_then (λ place. place) (slice_get p.holders device)

-- the attempt at a place is changed so, if there is one
abbrev pub changed_if : Option ℕ → (Seen → Seen) → Picture → Picture
changed_if None change p = p
changed_if (Some place) change p = changed place change p

-- a device has answered, or was released: that counts for the attempt that it is in
abbrev pub after_answer : ℕ → DeviceVerb → ℕ → Picture → Picture
after_answer at word device p = changed_if (holder device p) (after_word at word device) p

-- a preparation was given up
abbrev pub after_give_up_line : ℕ → Who → Try → Why → Picture → Picture
after_give_up_line at by t why p = said_of at t (after_give_up at by (why_words why)) p

-- an attempt has ended
abbrev pub after_end_line : ℕ → LineOfEnd → Picture → Picture
after_end_line at e p = said_of at e.attempt (after_end at e) p

-- what a start found of an attempt: what was preparing is given up, since the power was lost, and nobody asked for that
abbrev pub found_so : ℕ → Try → Found → Picture → Picture
found_so at t found.Preparing p = with_named at t p
found_so at t found.Given p = with_named at t p
found_so at t found.Lost p = after_give_up_line at who.Unseen t (why.Said reason.Power) p
found_so at t found.GivenUp p = with_named at t p

-- what it found of an attempt, if its words can be read
abbrev pub after_found : ℕ → Option (Try × Found) → Picture → Picture
after_found at None p = p
after_found at (Some f) p = found_so at f.0 f.1 p

-- a reply that says that a device has answered
abbrev pub after_reply : ℕ → Option (DeviceVerb × ℕ) → Picture → Picture
after_reply at None p = p
after_reply at (Some answer) p = after_answer at answer.0 answer.1 p

-- what a line of this second makes of the picture: `by` asked for what it says. In a reply stands what a device has
-- answered, in the line of a start what that found of an attempt
abbrev pub after_line : ℕ → Who → Option (DeviceVerb × ℕ) → Option (Try × Found) → Line → Picture → Picture
after_line at by answer found (line.Ready dir port) p = p
after_line at by answer found line.Stopped p = p
after_line at by answer found (line.Own said) p = p
after_line at by answer found (line.Recovered text) p = after_found at found p
after_line at by answer found (line.HeldUp span) p = p
after_line at by answer found (line.Replied asked count) p = after_reply at answer p
after_line at by answer found (line.Kinds count) p = p
after_line at by answer found (line.Ordered o) p = after_order_line at by o p
after_line at by answer found (line.Alone t device) p = with_named at t p
after_line at by answer found (line.GivenUp t why) p = after_give_up_line at by t why p
after_line at by answer found (line.Ended e) p = after_end_line at e p

-- a line as it is heard. One that a start wrote is heard once for each attempt that it names
pub record Heard : Type 0 where
  pub at : ℕ
  pub by : Who
  pub answer : Option (DeviceVerb × ℕ)
  pub found : Option (Try × Found)
  pub line : Line

-- what lines make of the picture, one after the other
abbrev pub heard : List Heard → Picture → Picture
heard [] p = p
heard (l ∷ ls) p = heard ls (after_line l.at l.by l.answer l.found l.line p)

-- it was heard at this second, and says this
abbrev pub IsOf : ℕ → Line → Heard → Type 0
IsOf at x l = (l.at ≡ at) × (l.line ≡ x)

-- what became of the picture is what this line says of attempts, and no other
abbrev pub Says : ℕ → Line → Picture → Picture → Type 0
Says at x p q = (ls : List Heard) × AllByRecursion (IsOf at x) ls × (q ≡ heard ls p)

-- the same of what a line of the journal says: beside the lines of the log nothing is said of attempts
abbrev pub SaysSo : ℕ → Said → Picture → Picture → Type 0
SaysSo at (said.Line l) p q = Says at l p q
SaysSo at (said.Ended words) p q = q ≡ p

-- the same at some second
abbrev pub Told : Said → Picture → Picture → Type 0
Told s p q = (at : ℕ) × SaysSo at s p q

-- what a text says, with its date before it
abbrev pub IsIn : List ℕ → Heard → Type 0
IsIn text l = read (drop 21 text) ≡ Some l.line

-- what became of the picture is what this text says of attempts, if it is a line of the log, and nothing else
abbrev pub Reads : List ℕ → Picture → Picture → Type 0
Reads text p q = (ls : List Heard) × AllByRecursion (IsIn text) ls × (q ≡ heard ls p)

-- the same of a text whose end may be a line of its own, since the one before was cut off
abbrev pub ReadsEnd : List ℕ → Picture → Picture → Type 0
ReadsEnd text p q = (rest : List ℕ) × IsEndOf text rest × Reads rest p q

-- what became of the picture is what some lines say, one after the other
abbrev pub Hears : Picture → Picture → Type 0
Hears p q = (ls : List Heard) × (q ≡ heard ls p)

-- no line was heard
abbrev pub nothing : Picture
nothing = record { attempts = []; newest = []; holders = replicate MAX_DEVICES None }
