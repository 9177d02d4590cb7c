-- What happened to a show file since a desk started, as turns: the newest stands first.
use Rattle.std.specs.Prelude.{ℕ, Bool, true, false, if◌then◌else◌, List, [], ◌∷◌, Option, None, Some, String}
use Rattle.std.specs.Prelude.{IsTrue, string_bytes, ⊤}
use Rattle.std.specs.declared.alloc.Global.{Global}
use Rattle.cue_show_file.specs.declared.file.ShowFile.{ShowFile}
use Rattle.cue_file_news.specs.Keeping.{Keeping, kept_of}
use Rattle.cue_file_news.specs.declared.looking.Look.{Look}
use Rattle.cue_file_news.specs.declared.looking.Look.TheVariants as look
use Rattle.cue_file_news.specs.declared.looking.Reading.{Reading}
use Rattle.cue_file_news.specs.declared.telling.News.{News}
use Rattle.cue_file_news.specs.declared.telling.News.TheVariants as news
use Rattle.cue_file_news.specs.declared.telling.Trouble.{Trouble}
use Rattle.cue_file_news.specs.declared.telling.Trouble.TheVariants as trouble
use Rattle.cue_file_news.specs.declared.watching.Became.{Became}
use Rattle.cue_file_news.specs.declared.watching.Became.TheVariants as became
use Rattle.cue_file_news.specs.declared.watching.FileReading.{FileReading}

pub data Turn : Type 0 where
  -- a look found this, while an attempt was live or not
  looked : (found : Look) (live : Bool) → Turn
  -- the file was read, and this became of it
  was_read : (r : FileReading) (b : Became) → Turn
  -- the file that was taken last is shown since this moment
  was_shown : (at : ℕ) → Turn

-- What a desk starts with: the port that was said, its show file, and the text that the file had then.
pub record Start : Type 0 where
  pub said : Option ℕ
  pub file : ShowFile
  pub text : List ℕ

-- what it keeps as long as it runs
abbrev pub kept_by : Start → Keeping
kept_by start = kept_of start.said start.file

-- ---- what the looks found

-- what the newest look found
abbrev pub newest_look : List Turn → Option Look
newest_look [] = None
newest_look (looked found live ∷ past) = Some found
newest_look (was_read r b ∷ past) = newest_look past
newest_look (was_shown at ∷ past) = newest_look past

-- ---- what was read

-- a whole text was had
abbrev pub has_text : Became → Bool
has_text became.Ignored = false
has_text became.Unreadable = false
has_text became.Same = true
has_text (became.Wrong line) = true
has_text (became.Taken file l) = true

-- the newest reading that gave a whole text
abbrev pub newest_reading : List Turn → Option Reading
newest_reading [] = None
newest_reading (looked found live ∷ past) = newest_reading past
newest_reading (was_read r b ∷ past) = if has_text b then Some r.begun else newest_reading past
newest_reading (was_shown at ∷ past) = newest_reading past

-- the text of a reading; else that before it
abbrev pub text_or : List ℕ → Option (String Global) → List ℕ
text_or before None = before
text_or before (Some text) = string_bytes text

-- the text that was read last
abbrev pub newest_text : Start → List Turn → List ℕ
newest_text start [] = start.text
newest_text start (looked found live ∷ past) = newest_text start past
newest_text start (was_read r b ∷ past) =
    if has_text b then text_or (newest_text start past) r.text else newest_text start past
newest_text start (was_shown at ∷ past) = newest_text start past

-- ---- what is told

-- what became of the text: of the newest one that was new
abbrev pub news_after : Became → News → News
news_after became.Ignored before = before
news_after became.Unreadable before = before
news_after became.Same before = before
news_after (became.Wrong line) before = news.Wrong line
news_after (became.Taken file l) before = news.Taken l

-- no new text came in these turns
abbrev pub is_quiet : Became → Bool
is_quiet became.Ignored = true
is_quiet became.Unreadable = true
is_quiet became.Same = true
is_quiet (became.Wrong line) = false
is_quiet (became.Taken file l) = false

abbrev pub AreQuiet : List Turn → Type 0
AreQuiet [] = ⊤
AreQuiet (looked found live ∷ turns) = AreQuiet turns
AreQuiet (was_read r b ∷ turns) = IsTrue (is_quiet b) × AreQuiet turns
AreQuiet (was_shown at ∷ turns) = AreQuiet turns

-- a file that was taken is shown first at this moment
abbrev pub news_shown : ℕ → News → News
news_shown at news.Old = news.Old
news_shown at (news.Taken l) = news.Shown at l
news_shown at (news.Shown first l) = news.Shown first l
news_shown at (news.Wrong line) = news.Wrong line

abbrev pub news_of : List Turn → News
news_of [] = news.Old
news_of (looked found live ∷ past) = news_of past
news_of (was_read r b ∷ past) = news_after b (news_of past)
news_of (was_shown at ∷ past) = news_shown at (news_of past)

-- a file that is there is not missing
abbrev pub unless_missing : Option Trouble → Option Trouble
unless_missing None = None
unless_missing (Some trouble.Unreadable) = Some trouble.Unreadable
unless_missing (Some trouble.Missing) = None

-- a file that two looks in a row do not find is missing
abbrev pub trouble_found : Option Look → Look → Option Trouble → Option Trouble
trouble_found (Some look.Gone) look.Gone before = Some trouble.Missing
trouble_found (Some (look.There stamp)) look.Gone before = before
trouble_found None look.Gone before = before
trouble_found last (look.There stamp) before = unless_missing before

-- a text that was had ends the trouble
abbrev pub trouble_after : Became → Option Trouble → Option Trouble
trouble_after became.Ignored before = before
trouble_after became.Unreadable before = Some trouble.Unreadable
trouble_after became.Same before = None
trouble_after (became.Wrong line) before = None
trouble_after (became.Taken file l) before = None

-- why the text cannot be had now
abbrev pub trouble_of : List Turn → Option Trouble
trouble_of [] = None
trouble_of (looked found live ∷ past) = trouble_found (newest_look past) found (trouble_of past)
trouble_of (was_read r b ∷ past) = trouble_after b (trouble_of past)
trouble_of (was_shown at ∷ past) = trouble_of past
