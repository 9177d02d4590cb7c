-- What is known of one message of a load.
use Rattle.std.specs.Prelude.{ℕ, ℤ, pos, ◌+◌, ◌-◌, ◌^◌, min, Bool, true, false, if◌then◌else◌, List, [], ◌∷◌}
use Rattle.std.specs.Prelude.{Option, Some, None}
use Rattle.std.specs.Ordering.{int_eq}
use Rattle.cue_desk.specs.declared.answered.Answered.TheVariants as answered
use Rattle.cue_desk.specs.declared.replying.Replied.{Replied}
use Rattle.cue_desk.specs.declared.replying.Replied.TheVariants as replied
use Rattle.cue_desk.specs.Answered.{refusal_of_removal}
use Rattle.cue_load_machine.specs.declared.asks.Ask.{Ask}
use Rattle.cue_load_machine.specs.declared.asks.Form.{Form}
use Rattle.cue_load_machine.specs.declared.asks.Form.TheVariants as form
use Rattle.cue_load_machine.specs.declared.asks.Refusal.{Refusal}
use Rattle.cue_load_machine.specs.declared.asks.Refusal.TheVariants as refusal

-- it asks one thing
abbrev pub is_alone : Form → Bool
is_alone form.Alone = true
is_alone (form.Together count) = false

-- what asks one thing may be sent four times, and what asks several once
abbrev pub sendings : Form → ℕ
sendings form.Alone = 4
sendings (form.Together count) = 1

-- each thing is replied to
abbrev pub replies : Form → ℕ
replies form.Alone = 1
replies (form.Together count) = count

-- how long the next reply is waited for: a quarter of a second, or a second, in milliseconds
abbrev pub patience : Form → ℕ
patience form.Alone = 250
patience (form.Together count) = 1000

-- what asks several stands before those that ask them one by one
abbrev pub covers : Form → ℕ
covers form.Alone = 0
covers (form.Together count) = count

-- how many of these ask one thing
abbrev pub alone_in : List Ask → ℕ
alone_in [] = 0
alone_in (a ∷ asks) = if is_alone a.form then min (alone_in asks + 1) (2 ^ 64 - 1) else alone_in asks

-- the code, if something was refused
abbrev pub code_of : Replied → Option ℤ
code_of (replied.Reply made known refused code) = if int_eq refused (pos 0) then None else Some code
code_of (replied.Status status) = None

-- unless it is the code of what is not there
abbrev pub unless_gone : Option ℤ → Option ℤ
unless_gone None = None
unless_gone (Some code) = refusal_of_removal (answered.Refused code)

abbrev pub code_unless_gone : Replied → Option ℤ
code_unless_gone r = unless_gone (code_of r)

-- the code by which this reply stops a load
abbrev pub stops_by : Refusal → Replied → Option ℤ
stops_by refusal.GoesOn r = None
stops_by refusal.Stops r = code_of r
stops_by refusal.StopsUnlessGone r = code_unless_gone r
