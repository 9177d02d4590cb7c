-- How cues are stood by together, with one message, and what its one reply says.
use Rattle.std.specs.Prelude.{ℕ, ℤ, pos, ◌+ℤ◌, Bool, not, ◌&&◌, ◌||◌, if◌then◌else◌, List, [], ◌∷◌, ◌++◌}
use Rattle.std.specs.Prelude.{codes, int_lt, Option, None, Some}
use Rattle.std.specs.Ordering.{int_eq}
use Rattle.cue_core.specs.Codes.{code_number}
use Rattle.cue_core.specs.declared.command.Code.TheVariants.{NoMethod}
use Rattle.cue_osc.specs.Content.{Content, message}
use Rattle.cue_operator.specs.Methods.{address_of, under}
use Rattle.cue_operator.specs.declared.method.CueVerb.{CueVerb}
use Rattle.cue_operator.specs.declared.method.CueVerb.TheVariants as verb
use Rattle.cue_operator.specs.declared.method.Method.TheVariants as method
use Rattle.cue_show_file.specs.declared.together.Group.{Group}
use Rattle.cue_show_file.specs.Together.{others_of}
use Rattle.cue_desk.specs.declared.orders.DeskCommand.{DeskCommand}
use Rattle.cue_desk.specs.declared.orders.DeskCommand.TheVariants as order
use Rattle.cue_desk.specs.declared.replying.Replied.{Replied}
use Rattle.cue_desk.specs.declared.replying.Replied.TheVariants as replied
use Rattle.cue_desk.specs.Asks.{method_of}
use Rattle.cue_desk.specs.Loading.{message_of}
use Rattle.cue_desk.specs.Orders.{asked_of}

-- ---- the message

-- the numbers of the cues, with a comma before each
abbrev pub after_commas : List (List ℕ) → List ℕ
after_commas [] = []
after_commas (c ∷ cs) = codes "," ++ (c ++ after_commas cs)

-- what names a cue and these others in a pattern: {12,13,14}
abbrev pub braced : List ℕ → List (List ℕ) → List ℕ
braced c others = codes "{" ++ (c ++ (after_commas others ++ codes "}"))

-- the address at which these cues are stood by: /cue/{12,13,14}/standby
abbrev pub together_address : List ℕ → List (List ℕ) → List ℕ
together_address c others = under (codes "/cue/") (braced c others) (codes "standby")

-- the cue that a verb stands by
abbrev pub verb_standby : CueVerb → List ℕ → Option (List ℕ)
verb_standby verb.Standby c = Some c
verb_standby v c = None

-- the cue that a command stands by
abbrev pub standby_of : DeskCommand → Option (List ℕ)
standby_of (order.OfCue v c) = verb_standby v c
standby_of o = None

-- the address at which it is asked alone: /cue/12/standby
abbrev pub alone_address : DeskCommand → List ℕ
alone_address o = address_of (method_of (asked_of o))

-- the address at which it is asked with these others, if it stands a cue by
abbrev pub address_by : Option (List ℕ) → DeskCommand → List (List ℕ) → List ℕ
address_by None o others = alone_address o
address_by (Some c) o others = together_address c others

-- the address at which it is asked, which stands these others by, too, if it stands a cue by
abbrev pub address_with : DeskCommand → List (List ℕ) → List ℕ
address_with o [] = alone_address o
address_with o (d ∷ others) = address_by (standby_of o) o (d ∷ others)

-- the message: it has no arguments
abbrev pub message_with : DeskCommand → List (List ℕ) → Content
message_with o others = message (address_with o others) []

-- those that are stood by with a cue, if there is one, by the groups of a show file
abbrev pub companions_by : Option (List ℕ) → List Group → List (List ℕ)
companions_by None groups = []
companions_by (Some c) groups = others_of groups c

-- those that a command stands by, too
abbrev pub companions_of : List Group → DeskCommand → List (List ℕ)
companions_of groups o = companions_by (standby_of o) groups

-- ---- the reply

-- a reply to one command
abbrev pub reply_of : ℤ → ℤ → ℤ → ℤ → Replied
reply_of made known refused code = replied.Reply made known refused code

-- these are numbers of a reply: each is 0 or more, and not all are 0
abbrev pub are_numbers : ℤ → ℤ → ℤ → Bool
are_numbers made known refused =
    not (int_lt made (pos 0)) && (not (int_lt known (pos 0)) && (not (int_lt refused (pos 0))
    && (int_lt (pos 0) made || (int_lt (pos 0) known || int_lt (pos 0) refused))))

-- the code by which one was refused; if the controller refused none, a cue is not there
abbrev pub code_by : ℤ → ℤ → ℤ
code_by refused code = if int_lt (pos 0) refused then code else pos (code_number NoMethod)

-- none was carried out
abbrev pub is_none_made : ℤ → ℤ → Bool
is_none_made made known = int_eq made (pos 0) && int_eq known (pos 0)

-- all of so many were carried out
abbrev pub are_all : ℕ → ℤ → ℤ → Bool
are_all count made known = int_eq (made +ℤ known) (pos count)

-- What the reply to one message for so many cues says, as a reply to one command has it: refused if none was carried
-- out; made, or known, if all were; and if some were and others not, both made and refused.
abbrev pub condensed_by : ℕ → ℤ → ℤ → ℤ → ℤ → Replied
condensed_by count made known refused code =
    if is_none_made made known then reply_of (pos 0) (pos 0) (pos 1) code
    else if are_all count made known then
    if int_lt (pos 0) made then reply_of (pos 1) (pos 0) (pos 0) (pos 0)
    else reply_of (pos 0) (pos 1) (pos 0) (pos 0)
    else reply_of (pos 1) (pos 0) (pos 1) (code_by refused code)

-- the same of a reply; none if it says nothing of any
abbrev pub condensed : ℕ → Replied → Option Replied
condensed count (replied.Reply made known refused code) =
    if are_numbers made known refused then Some (condensed_by count made known refused code) else None
condensed count (replied.Status u) = None
