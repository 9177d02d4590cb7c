-- What is told of a show file that has changed.
use Rattle.std.specs.Prelude.{ℕ, ◌-◌, nat_lt, List, [], ◌++◌, codes, Option, None, Some}
use Rattle.std.specs.Prelude.{if◌then◌else◌}
use Rattle.std.specs.Fmt.{decimal}
use Rattle.cue_file_news.specs.declared.keeping.Later.{Later}
use Rattle.cue_file_news.specs.declared.keeping.Later.TheVariants as later
use Rattle.cue_file_news.specs.declared.telling.News.{News}
use Rattle.cue_file_news.specs.declared.telling.News.TheVariants as news
use Rattle.cue_file_news.specs.declared.telling.TheConstants.{TOLD}
use Rattle.cue_file_news.specs.declared.telling.Trouble.{Trouble}
use Rattle.cue_file_news.specs.declared.telling.Trouble.TheVariants as trouble

-- what follows after the words that the file was read
abbrev pub later_words : Later → List ℕ
later_words later.Nothing = []
later_words later.Port = codes "; its port counts from the next start"
later_words later.Relay = codes "; its relay counts from the next start"
later_words later.Both = codes "; port and relay count from the next start"

-- a file with mistakes is not taken, and it is said where the first one is
abbrev pub wrong_words : Option ℕ → List ℕ
wrong_words None = codes "the show file has mistakes: the one before is shown"
wrong_words (Some line) =
    codes "the show file has mistakes (line " ++ (decimal line ++ codes "): the one before is shown")

-- that it was read is told for ten seconds from the moment at which it was first shown
abbrev pub read_words : ℕ → Later → ℕ → Option (List ℕ)
read_words at l now =
    if nat_lt (now - at) TOLD then Some (codes "the show file was read again" ++ later_words l) else None

-- what is told of its text: a mistake is told until it is mended
abbrev pub news_words : News → ℕ → Option (List ℕ)
news_words news.Old now = None
news_words (news.Taken l) now = None
news_words (news.Shown at l) now = read_words at l now
news_words (news.Wrong line) now = Some (wrong_words line)

-- why its text cannot be had
abbrev pub trouble_words : Trouble → List ℕ
trouble_words trouble.Unreadable = codes "the show file cannot be read: the one before is shown"
trouble_words trouble.Missing = codes "the show file is not there: the one before is shown"

-- what is told of the file: a trouble before what became of its text
abbrev pub told_words : Option Trouble → News → ℕ → Option (List ℕ)
told_words (Some t) n now = Some (trouble_words t)
told_words None n now = news_words n now
