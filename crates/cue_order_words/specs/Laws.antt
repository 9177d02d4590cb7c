-- What a person may rely on who reads what is told of a command: over each life of its question, whatever is heard.
use Rattle.std.specs.Prelude.{◌≡◌, ◌⊎◌, ℤ, pos, ◌+ℤ◌, ◌<ℤ◌, true, false, List, [], ◌∷◌, ◌++◌, Some, None}
use Rattle.cue_osc.specs.Reading.{datagram_at}
use Rattle.cue_machine.specs.declared.ears.Input.TheVariants as input
use Rattle.cue_machine.specs.Living.{Turn}
use Rattle.cue_desk.specs.declared.replying.Replied.{Replied}
use Rattle.cue_desk.specs.declared.replying.Replied.TheVariants as replied
use Rattle.cue_desk.specs.declared.replying.Status.{Status}
use Rattle.cue_desk.specs.Replies.{replied_in}
use Rattle.cue_desk.specs.Together.{is_none_made}
use Rattle.cue_ask_machine.specs.declared.machine.AskMachine.{AskMachine}
use Rattle.cue_ask_machine.specs.declared.question.Question.{Question}
use Rattle.cue_ask_machine.specs.declared.stage.AskEnd.{AskEnd}
use Rattle.cue_ask_machine.specs.Letters.{count_of, is_status, shown_of}
use Rattle.cue_ask_machine.specs.Lives.{IsTold}
use Rattle.cue_ask_machine.specs.Steps.{home}
use Rattle.cue_order_words.specs.declared.told.Told.TheVariants as told
use Rattle.cue_order_words.specs.Told.{ending_of, told_of}

-- what was heard last is this reply: it came from the controller's port of this machine, and names what was asked
pub record Came (q : Question) (ts : List Turn) (r : Replied) : Type 0 where
  pub before : List Turn
  pub last : Turn
  pub all : ts ≡ before ++ last ∷ []
  pub from : last.heard.input ≡ input.Datagram 0 (home q.port)
  pub says : replied_in (shown_of q.order q.others.now) (datagram_at last.heard.bytes) ≡ Some r

-- it says how many commands were made, known and refused, and by which code the first one that was refused
pub record Counted (q : Question) (ts : List Turn) : Type 0 where
  pub made : ℤ
  pub known : ℤ
  pub refused : ℤ
  pub code : ℤ
  pub came : Came q ts (replied.Reply made known refused code)

-- as many were made or known as were asked for: one, or each of the cues that are stood by together
pub record CountedAll (q : Question) (ts : List Turn) : Type 0 where
  pub counted : Counted q ts
  pub all : counted.made +ℤ counted.known ≡ pos (count_of q.others.now)

-- and one of them at least was made
pub record CountedMade (q : Question) (ts : List Turn) : Type 0 where
  pub counted : CountedAll q ts
  pub some : pos 0 <ℤ counted.counted.made

-- none was made or known, and the first one that was refused was by this code
pub record CountedNone (q : Question) (ts : List Turn) (code : ℤ) : Type 0 where
  pub counted : Counted q ts
  pub none : is_none_made counted.made counted.known ≡ true
  pub some : pos 0 <ℤ counted.refused
  pub by : counted.code ≡ code

-- some were made or known, and not as many as were asked for
pub record CountedSome (q : Question) (ts : List Turn) : Type 0 where
  pub counted : Counted q ts
  pub some : is_none_made counted.made counted.known ≡ false
  pub others : counted.made +ℤ counted.known ≡ pos (count_of q.others.now) → ⊥

-- the status was asked, and came
pub record CameStatus (q : Question) (ts : List Turn) : Type 0 where
  pub asked : is_status q.order ≡ true
  pub status : Status
  pub came : Came q ts (replied.Status status)

-- what was heard last is that the system says that nobody listens at that port
pub record Unheard (ts : List Turn) : Type 0 where
  pub before : List Turn
  pub last : Turn
  pub all : ts ≡ before ++ last ∷ []
  pub refused : last.heard.input ≡ input.Refused 0

-- ---- laws

-- of the life of a question that ended so
abbrev pub EachEnd : ((q : Question) → List Turn → AskEnd → Type 0) → Type 0
EachEnd P =
    (q : Question) (m : AskMachine) (ts : List Turn) (e : AskEnd) → IsTold q m ts (Some e) → P q ts e

abbrev pub MadeIsReplied : Type 0
MadeIsReplied = EachEnd (λ q ts e. told_of e ≡ told.Made → CountedMade q ts)

abbrev pub RefusedIsReplied : Type 0
RefusedIsReplied = EachEnd (λ q ts e. (code : ℤ) → told_of e ≡ told.Refused code → CountedNone q ts code)

abbrev pub PartlyIsReplied : Type 0
PartlyIsReplied = EachEnd (λ q ts e. (code : ℤ) → told_of e ≡ told.Partly code → CountedSome q ts)

abbrev pub DoneIsReplied : Type 0
DoneIsReplied = EachEnd (λ q ts e. ending_of (told_of e) ≡ None → CountedAll q ts ⊎ CameStatus q ts)

abbrev pub NobodyIsSaid : Type 0
NobodyIsSaid = EachEnd (λ q ts e. told_of e ≡ told.Nobody → Unheard ts)

abbrev pub EachIsClear : Type 0
EachIsClear = EachEnd (λ q ts e. told_of e ≡ told.Unclear → ⊥)
