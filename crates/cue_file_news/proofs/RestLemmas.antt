-- A reading that counts came right after two looks that agree.
use Rattle.std.proofs.Common.{◌≡◌, Bool, true, List, [], ◌∷◌, ◌++◌, ap, ◌∙◌}
use Rattle.cue_desk.specs.declared.stamps.Stamp.{Stamp}
use Rattle.cue_file_news.specs.Laws.{AreLawful, IsAsked, IsAtRest, KeepsLaw, ReadAtRest, counts}
use Rattle.cue_file_news.specs.Turns.{Start, Turn, looked, was_read, was_shown}
use Rattle.cue_file_news.specs.declared.looking.Look.{Look}
use Rattle.cue_file_news.specs.declared.looking.Look.TheVariants as look
use Rattle.cue_file_news.specs.declared.watching.Became.{Became}
use Rattle.cue_file_news.specs.declared.watching.Became.TheVariants as became
use Rattle.cue_file_news.specs.declared.watching.FileReading.{FileReading}

-- what is asked for was found so by two looks
at_rest : (stamp : Stamp) (past : List Turn) → IsAsked stamp past → IsAtRest stamp past
at_rest stamp [] a = absurd a
at_rest stamp (looked found live ∷ past) a = record {
  before = past;
  looked_last = ap (λ (x : Look). looked x live ∷ past) a.there
      ∙ ap (λ (x : Bool). looked (look.There stamp) x ∷ past) a.idle;
  looked_before = a.to_read.agrees;
}
at_rest stamp (was_read r b ∷ past) a = absurd a
at_rest stamp (was_shown at ∷ past) a = absurd a

-- what counts was asked for
asked_by : (start : Start) (past : List Turn) (r : FileReading) (b : Became) → KeepsLaw start past r b
    → counts b ≡ true → IsAsked r.begun.stamp past
asked_by start past r became.Ignored h c = cc
asked_by start past r became.Unreadable h c = h.0
asked_by start past r became.Same h c = h.1.is_asked
asked_by start past r (became.Wrong line) h c = h.1.is_asked
asked_by start past r (became.Taken file l) h c = h.1.is_asked

law_of : (start : Start) (later past : List Turn) (r : FileReading) (b : Became)
    → AreLawful start (later ++ was_read r b ∷ past) → KeepsLaw start past r b
law_of start [] past r b h = h.0
law_of start (looked found live ∷ later) past r b h = law_of start later past r b h
law_of start (was_read s a ∷ later) past r b h = law_of start later past r b h.1
law_of start (was_shown at ∷ later) past r b h = law_of start later past r b h

pub read-at-rest : ReadAtRest
read-at-rest start later past r b h c =
    at_rest r.begun.stamp past (asked_by start past r b (law_of start later past r b h) c)
