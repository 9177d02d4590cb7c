-- The law of the watch of a show file: what holds of each turn, whatever turns came before it.
--
-- What it cannot say: that a file system gives each change another time; that the moments are those of the clocks; what
-- is wrong with a text in which `cue_show_file` finds a mistake; and that names, notes and addresses of a file are
-- those of its text, which that crate does not state.
use Rattle.std.specs.Prelude.{◌≡◌, ◌≢◌, ℕ, Bool, true, false, List, [], ◌∷◌, ◌++◌, Option, None, Some, ⊤}
use Rattle.std.specs.Prelude.{String, string_bytes}
use Rattle.std.specs.declared.alloc.Global.{Global}
use Rattle.cue_desk.specs.declared.stamps.Stamp.{Stamp}
use Rattle.cue_show_file.specs.declared.file.ShowFile.{ShowFile}
use Rattle.cue_file_news.specs.Judging.{HasMistake, IsShown}
use Rattle.cue_file_news.specs.Keeping.{IsLater, Keeping, kept_of}
use Rattle.cue_file_news.specs.Looks.{IsAskedBy}
use Rattle.cue_file_news.specs.Told.{read_words, told_words, wrong_words}
use Rattle.cue_file_news.specs.Turns.{AreQuiet, Start, Turn, kept_by, looked, newest_look, newest_reading, newest_text}
use Rattle.cue_file_news.specs.Turns.{news_of, trouble_of, was_read, was_shown}
use Rattle.cue_file_news.specs.declared.keeping.Later.{Later}
use Rattle.cue_file_news.specs.declared.looking.Look.TheVariants as look
use Rattle.cue_file_news.specs.declared.watching.Became.{Became}
use Rattle.cue_file_news.specs.declared.watching.Became.TheVariants as became
use Rattle.cue_file_news.specs.declared.watching.FileReading.{FileReading}

-- NOTHING IS READ WHILE AN ATTEMPT IS LIVE, OR WHILE THE FILE STILL CHANGES: it is to be read only right after a look,
-- with nothing live, that found what the look before it found.
abbrev pub IsAsked : Stamp → List Turn → Type 0
IsAsked stamp [] = ⊥
IsAsked stamp (looked found live ∷ past) = IsAskedBy (newest_look past) (newest_reading past) found live stamp
IsAsked stamp (was_read r b ∷ past) = ⊥
IsAsked stamp (was_shown at ∷ past) = ⊥

-- A FILE IS TAKEN ONLY IF IT IS NEW AND HAS NO MISTAKE; and then it is what its text says. Port and relay stay those of
-- the start, and what of the file differs from them is said to count later.
pub record IsTaken (before : List ℕ) (said : Option ℕ) (kept : Keeping) (text : List ℕ) (file : ShowFile) (l : Later)
    : Type 0 where
  pub new : text ≢ before
  pub shown : IsShown text file
  pub later : IsLater kept (kept_of said file) l

-- what becomes of a whole text: `before` is the one that was read last
abbrev pub BecomesSo : (before : List ℕ) (said : Option ℕ) (kept : Keeping) (text : List ℕ) → Became → Type 0
BecomesSo before said kept text became.Ignored = ⊥
BecomesSo before said kept text became.Unreadable = ⊥
BecomesSo before said kept text became.Same = text ≡ before
BecomesSo before said kept text (became.Wrong line) = (text ≢ before) × HasMistake text
BecomesSo before said kept text (became.Taken file l) = IsTaken before said kept text file l

-- A TEXT COUNTS ONLY IF IT WAS READ WHOLE: asked for, and between two looks that agree.
pub record IsWhole (asked : Type 0) (r : FileReading) (text : String Global) : Type 0 where
  pub is_asked : asked
  pub had : r.text ≡ Some text
  pub agrees : r.after ≡ look.There r.begun.stamp

-- a text was had, but the file changed while it was read
pub record HasChanged (r : FileReading) : Type 0 where
  pub text : String Global
  pub had : r.text ≡ Some text
  pub changed : r.after ≢ look.There r.begun.stamp

-- what becomes of a reading: of one that was asked for nothing is ignored but what has changed
abbrev pub ReadingBecomes : (asked : Type 0) (before : List ℕ) (said : Option ℕ) (kept : Keeping) (r : FileReading)
    → Became → Type 0
ReadingBecomes asked before said kept r became.Ignored = asked → HasChanged r
ReadingBecomes asked before said kept r became.Unreadable = asked × (r.text ≡ None)
ReadingBecomes asked before said kept r b =
    (text : String Global) × IsWhole asked r text × BecomesSo before said kept (string_bytes text) b

-- the law of a reading
abbrev pub KeepsLaw : Start → List Turn → FileReading → Became → Type 0
KeepsLaw start past r b =
    ReadingBecomes (IsAsked r.begun.stamp past) (newest_text start past) start.said (kept_by start) r b

-- each reading of these turns kept the law
abbrev pub AreLawful : Start → List Turn → Type 0
AreLawful start [] = ⊤
AreLawful start (looked found live ∷ past) = AreLawful start past
AreLawful start (was_read r b ∷ past) = KeepsLaw start past r b × AreLawful start past
AreLawful start (was_shown at ∷ past) = AreLawful start past

-- WHAT IS TOLD after these turns: the trouble that there is, else what became of the newest new text.
abbrev pub told_of : List Turn → ℕ → Option (List ℕ)
told_of past now = told_words (trouble_of past) (news_of past) now

-- ---- nothing is read but at rest

-- something became of it
abbrev pub counts : Became → Bool
counts became.Ignored = false
counts became.Unreadable = true
counts became.Same = true
counts (became.Wrong line) = true
counts (became.Taken file l) = true

-- The newest turn is a look, with nothing live, that found this stamp, and the look before found it, too.
pub record IsAtRest (stamp : Stamp) (past : List Turn) : Type 0 where
  pub before : List Turn
  pub looked_last : past ≡ looked (look.There stamp) false ∷ before
  pub looked_before : newest_look before ≡ Some (look.There stamp)

-- Whatever turns there are, each reading that counts came right after two looks that found what it was begun with, the
-- last one with nothing live.
abbrev pub ReadAtRest : Type 0
ReadAtRest =
    (start : Start) (later past : List Turn) (r : FileReading) (b : Became)
    → AreLawful start (later ++ was_read r b ∷ past) → counts b ≡ true → IsAtRest r.begun.stamp past

-- ---- each change is told once

-- That a file was read is told for ten seconds from the moment at which it was first shown, whatever comes without a
-- new text, as long as there is no trouble.
abbrev pub ToldTenSeconds : Type 0
ToldTenSeconds =
    (past more : List Turn) (r : FileReading) (file : ShowFile) (l : Later) (at now : ℕ)
    → let turns : List Turn = more ++ was_shown at ∷ was_read r (became.Taken file l) ∷ past in
    AreQuiet more → trouble_of turns ≡ None → told_of turns now ≡ read_words at l now

-- That it has mistakes is told until a new text comes, as long as there is no trouble.
abbrev pub ToldUntilMended : Type 0
ToldUntilMended =
    (past more : List Turn) (r : FileReading) (line : Option ℕ) (now : ℕ)
    → let turns : List Turn = more ++ was_read r (became.Wrong line) ∷ past in
    AreQuiet more → trouble_of turns ≡ None → told_of turns now ≡ Some (wrong_words line)
