-- What is said of a show file, byte for byte.
use Rattle.std.specs.Prelude.{ℕ, ◌==◌, if◌then◌else◌, List, [], ◌++◌, codes, decimal, Option, None, Some}
use Rattle.std.specs.declared.io.ErrorKind.{ErrorKind}
use Rattle.std.specs.declared.io.ErrorKind.TheVariants as error
use Rattle.cue_findings.specs.declared.lines.Kind.{Kind}
use Rattle.cue_findings.specs.declared.lines.Kind.TheVariants as kind
use Rattle.cue_saying.specs.Shown.{shown_name}
use Rattle.cue_show_file.specs.declared.mistake.Finding.{Finding}
use Rattle.cue_show_file.specs.declared.mistake.Subject.{Subject}
use Rattle.cue_show_file.specs.declared.mistake.Subject.TheVariants as subject

-- what an entry of a show file is called: a device or a cue by its number, or by its place in the file
abbrev pub subject_words : Subject → List ℕ
subject_words subject.File = codes "the file"
subject_words (subject.Device d) = codes "device " ++ decimal d
subject_words (subject.Cue c) = codes "cue " ++ c
subject_words (subject.DeviceAt n) = codes "device entry " ++ decimal n
subject_words (subject.CueAt n) = codes "cue entry " ++ decimal n

-- the file, and the line in it if it is known
abbrev pub place_words : List ℕ → Option ℕ → List ℕ
place_words path (Some line) = shown_name path ++ (codes ":" ++ (decimal line ++ codes ": "))
place_words path None = shown_name path ++ codes ":"

abbrev pub kind_words : Kind → List ℕ
kind_words kind.Mistake = []
kind_words kind.Hint = codes "hint: "

-- all that stands before the words of a mistake
abbrev pub head_words : List ℕ → Kind → Finding → List ℕ
head_words path k x = place_words path x.line ++ (kind_words k ++ (subject_words x.subject ++ codes ": "))

-- what a word ends with of which there are so many
abbrev pub plural_end : ℕ → List ℕ
plural_end count = if count == 1 then [] else codes "s"

-- what is said of a file without a mistake
abbrev pub sound_words : (devices cues : ℕ) → List ℕ
sound_words devices cues =
    codes "no mistake: " ++ (decimal devices ++ (codes " device" ++ (plural_end devices ++ (codes ", " ++ (decimal cues
    ++ (codes " cue" ++ (plural_end cues ++ codes "\n")))))))

-- what is said of a file that is no text; the system has words for all else
abbrev pub unread_words : ErrorKind → Option (List ℕ)
unread_words error.InvalidData = Some (codes "this is no text in UTF-8: save it as UTF-8")
unread_words _ = None
