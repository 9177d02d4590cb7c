-- A reading.
use Rattle.std.proofs.Common.{◌≡◌, ℕ, if◌then◌else◌, List, Option, Some, None, sym, ap, ◌∙◌, subst, string_bytes}
use Rattle.std.specs.declared.alloc.Global.{Global}
use Rattle.std.specs.Prelude.{String, ◌↔◌}
use Rattle.cue_desk.specs.declared.stamps.Stamp.{Stamp}
use Rattle.cue_file_news.specs.Keeping.{Keeping, kept_in}
use Rattle.cue_file_news.specs.Laws.{BecomesSo, IsAsked, IsWhole, KeepsLaw, ReadingBecomes}
use Rattle.cue_file_news.specs.Turns.{Start, Turn, has_text, kept_by, news_after, newest_text, text_or, trouble_after}
use Rattle.cue_file_news.specs.Watching.{BecomesNow, IsAfter, KeepsReading, TakeKeeps}
use Rattle.cue_file_news.specs.declared.watching.Became.{Became}
use Rattle.cue_file_news.specs.declared.watching.Became.TheVariants as became
use Rattle.cue_file_news.specs.declared.watching.FileReading.{FileReading}
use Rattle.cue_file_news.specs.declared.watching.FileWatch.{FileWatch}

-- a text that was had whole
pub becomes_whole : (asked : Type 0) (before : List ℕ) (said : Option ℕ) (kept : Keeping) (r : FileReading)
    (text : String Global) (b : Became) → IsWhole asked r text → BecomesSo before said kept (string_bytes text) b
    → ReadingBecomes asked before said kept r b
becomes_whole asked before said kept r text became.Ignored w so = absurd so
becomes_whole asked before said kept r text became.Unreadable w so = absurd so
becomes_whole asked before said kept r text became.Same w so = (text, w, so)
becomes_whole asked before said kept r text (became.Wrong line) w so = (text, w, so)
becomes_whole asked before said kept r text (became.Taken file l) w so = (text, w, so)

whole_by : (P Q : Type 0) (r : FileReading) (text : String Global) → (P → Q) → IsWhole P r text → IsWhole Q r text
whole_by P Q r text to w = record { is_asked = to w.is_asked; had = w.had; agrees = w.agrees }

-- the same, where it is asked for by other words
becomes_by : (P Q : Type 0) (before : List ℕ) (said : Option ℕ) (kept : Keeping) (r : FileReading) (b : Became)
    → (P → Q) → (Q → P) → ReadingBecomes P before said kept r b → ReadingBecomes Q before said kept r b
becomes_by P Q before said kept r became.Ignored to back h = λ q. h (back q)
becomes_by P Q before said kept r became.Unreadable to back h = (to h.0, h.1)
becomes_by P Q before said kept r became.Same to back h = (h.0, whole_by P Q r h.0 to h.1, h.2)
becomes_by P Q before said kept r (became.Wrong line) to back h = (h.0, whole_by P Q r h.0 to h.1, h.2)
becomes_by P Q before said kept r (became.Taken file l) to back h = (h.0, whole_by P Q r h.0 to h.1, h.2)

law_after : (old : FileWatch) (r : FileReading) (b : Became) (start : Start) (past : List Turn)
    → BecomesNow old r b → IsAfter start past old → KeepsLaw start past r b
law_after old r b start past h a =
    becomes_by (old.asked ≡ Some r.begun.stamp) (IsAsked r.begun.stamp past) (newest_text start past) start.said
    (kept_by start) r b (a.asked r.begun.stamp).0 (a.asked r.begun.stamp).1
    (subst (λ (x : Keeping). ReadingBecomes (old.asked ≡ Some r.begun.stamp) (newest_text start past) start.said x r b)
    a.kept
    (subst (λ (x : Option ℕ). ReadingBecomes (old.asked ≡ Some r.begun.stamp) (newest_text start past) x
    (kept_in old.kept) r b) a.said
    (subst (λ (x : List ℕ). ReadingBecomes (old.asked ≡ Some r.begun.stamp) x old.said (kept_in old.kept) r b) a.text
    h)))

none_asked : (asked : Option Stamp) (stamp : Stamp) → asked ≡ None → (asked ≡ Some stamp) ↔ ⊥
none_asked asked stamp e = (λ f. no (sym e ∙ f), λ x. absurd x)
  where
    no : None ≡ Some stamp → ⊥
    no f = cc

pub after_reading : (old : FileWatch) (r : FileReading) (b : Became) (new : FileWatch)
    → BecomesNow old r b → KeepsReading old r b new → TakeKeeps old r new b
after_reading old r b new h k start past a = record {
  said = k.said ∙ a.said;
  kept = ap kept_in k.kept ∙ a.kept;
  look = k.look ∙ a.look;
  reading = k.reading ∙ ap (λ x. if has_text b then Some r.begun else x) a.reading;
  asked = λ stamp. none_asked new.asked stamp k.asked;
  text = k.text ∙ ap (λ x. if has_text b then text_or x r.text else x) a.text;
  news = k.news ∙ ap (λ x. news_after b x) a.news;
  trouble = k.trouble ∙ ap (λ x. trouble_after b x) a.trouble;
  lawful = (law_after old r b start past h a, a.lawful);
}
