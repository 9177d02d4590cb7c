-- What the watch keeps is what the turns say.
use Rattle.std.specs.Prelude.{◌≡◌, ◌↔◌, ℕ, Bool, if◌then◌else◌, List, ◌∷◌, Option, None, Some, String, string_bytes}
use Rattle.std.specs.Prelude.{option_map}
use Rattle.std.specs.declared.alloc.Global.{Global}
use Rattle.cue_desk.specs.declared.stamps.Stamp.{Stamp}
use Rattle.cue_show_file.specs.declared.file.ShowFile.{ShowFile}
use Rattle.cue_file_news.specs.Keeping.{kept_in}
use Rattle.cue_file_news.specs.Laws.{AreLawful, IsAsked, ReadingBecomes, told_of}
use Rattle.cue_file_news.specs.Turns.{Start, Turn, has_text, kept_by, looked, newest_look, newest_reading, newest_text}
use Rattle.cue_file_news.specs.Turns.{news_after, news_of, text_or, trouble_after, trouble_of, was_read, was_shown}
use Rattle.cue_file_news.specs.declared.looking.Look.{Look}
use Rattle.cue_file_news.specs.declared.watching.Became.{Became}
use Rattle.cue_file_news.specs.declared.watching.FileReading.{FileReading}
use Rattle.cue_file_news.specs.declared.watching.FileWatch.{FileWatch}

-- what a desk starts with, whose file had this text
abbrev pub start_of : Option ℕ → ShowFile → String Global → Start
start_of said file text = record { said = said; file = file; text = string_bytes text }

-- The watch of a desk that started so, after these turns: each reading kept the law.
pub record IsAfter (start : Start) (turns : List Turn) (w : FileWatch) : Type 0 where
  pub said : w.said ≡ start.said
  pub kept : kept_in w.kept ≡ kept_by start
  pub look : w.looks.last ≡ newest_look turns
  pub reading : w.looks.read ≡ newest_reading turns
  pub asked : (stamp : Stamp) → (w.asked ≡ Some stamp) ↔ IsAsked stamp turns
  pub text : string_bytes w.text ≡ newest_text start turns
  pub news : w.news ≡ news_of turns
  pub trouble : w.trouble ≡ trouble_of turns
  pub lawful : AreLawful start turns

-- The contract of a look: whatever came before, it is a turn, and it asks exactly for what is to be read.
abbrev pub LookKeeps : FileWatch → Look → Bool → FileWatch → Option Stamp → Type 0
LookKeeps old found live new asked =
    (start : Start) (past : List Turn) → IsAfter start past old
    → IsAfter start (looked found live ∷ past) new
    × ((stamp : Stamp) → (asked ≡ Some stamp) ↔ IsAsked stamp (looked found live ∷ past))

-- The contract of a reading: whatever came before, it is a turn, and so keeps the law.
abbrev pub TakeKeeps : FileWatch → FileReading → FileWatch → Became → Type 0
TakeKeeps old r new b =
    (start : Start) (past : List Turn) → IsAfter start past old
    → IsAfter start (was_read r b ∷ past) new

-- The contract of a file that is shown: it is a turn.
abbrev pub ShowKeeps : FileWatch → ℕ → FileWatch → Type 0
ShowKeeps old at new =
    (start : Start) (past : List Turn) → IsAfter start past old → IsAfter start (was_shown at ∷ past) new

-- The contract of what is told: whatever came before, it is what the turns say.
abbrev pub Tells : FileWatch → ℕ → Option (String Global) → Type 0
Tells w now words =
    (start : Start) (past : List Turn) → IsAfter start past w → option_map string_bytes words ≡ told_of past now

-- The contract of the port: whatever came since, it is that of the start.
abbrev pub KeepsPort : FileWatch → ℕ → Type 0
KeepsPort w port = (start : Start) (past : List Turn) → IsAfter start past w → port ≡ (kept_by start).port

-- ---- by what is kept

-- what becomes of a reading
abbrev pub BecomesNow : FileWatch → FileReading → Became → Type 0
BecomesNow w r b =
    ReadingBecomes (w.asked ≡ Some r.begun.stamp) (string_bytes w.text) w.said (kept_in w.kept) r b

-- What is kept of it, and nothing else changes.
pub record KeepsReading (old : FileWatch) (r : FileReading) (b : Became) (new : FileWatch) : Type 0 where
  pub said : new.said ≡ old.said
  pub kept : new.kept ≡ old.kept
  pub look : new.looks.last ≡ old.looks.last
  pub reading : new.looks.read ≡ (if has_text b then Some r.begun else old.looks.read)
  pub asked : new.asked ≡ None
  pub text : string_bytes new.text
      ≡ (if has_text b then text_or (string_bytes old.text) r.text else string_bytes old.text)
  pub news : new.news ≡ news_after b old.news
  pub trouble : new.trouble ≡ trouble_after b old.trouble
