-- What `edit` is to change, by the words of the command line.
use Rattle.std.specs.Prelude.{◌≡◌, ℕ, List, [], ◌∷◌, codes, Option, Some, None, option_map, string_bytes, ⊤}
use Rattle.clap.specs.Words.{first_value, found_of}
use Rattle.clap.specs.declared.parser.matches.ArgMatches.{ArgMatches}
use Rattle.cue_show_file.specs.Marks.{color_of, flag_of}
use Rattle.cue_show_file.specs.declared.marks.Color.{Color}
use Rattle.cue_show_file.specs.declared.marks.Flag.{Flag}
use Rattle.cue_edit.specs.declared.edit.Change.{Change}
use Rattle.cue_edit.specs.declared.edit.Change.TheVariants as change
use Rattle.cue_edit.specs.declared.edit.Sign.{Sign}
use Rattle.cue_edit.specs.declared.edit.Sign.TheVariants as sign
use Rattle.cue_desk_line.specs.Orders.{cue_word}
use Rattle.cue_desk_line.specs.declared.reading.editing.Editing.{Editing}
use Rattle.cue_desk_line.specs.declared.reading.editing.Editing.TheVariants as editing
use Rattle.cue_desk_line.specs.declared.reading.words.Line.{Line}
use Rattle.cue_desk_line.specs.declared.reading.words.Line.TheVariants as line

-- the word after an option
abbrev pub word_after : List ℕ → ArgMatches → Option (List ℕ)
word_after option m = first_value (found_of m) option

-- an empty text takes a text away
abbrev pub text_said : List ℕ → Option (List ℕ)
text_said [] = None
text_said (b ∷ bs) = Some (b ∷ bs)

-- the colour is that of the word; none is said by the word `none`
abbrev pub IsColorBy : List ℕ → Option Color → Type 0
IsColorBy word None = codes "none" ≡ word
IsColorBy word (Some c) = color_of word ≡ Some c

-- the same of a flag
abbrev pub IsFlagBy : List ℕ → Option Flag → Type 0
IsFlagBy word None = codes "none" ≡ word
IsFlagBy word (Some f) = flag_of word ≡ Some f

-- the option is there, and this holds of the word after it
abbrev pub IsSaid : ArgMatches → List ℕ → (List ℕ → Type 0) → Type 0
IsSaid m option P = (word : List ℕ) × ((word_after option m ≡ Some word) × P word)

-- a sign is set by the option with its name, to what the word after it says
abbrev pub IsSetBy : ArgMatches → Sign → Type 0
IsSetBy m (sign.Name t) = IsSaid m (codes "name") (λ w. option_map string_bytes t ≡ text_said w)
IsSetBy m (sign.Note t) = IsSaid m (codes "note") (λ w. option_map string_bytes t ≡ text_said w)
IsSetBy m (sign.Color c) = IsSaid m (codes "color") (λ w. IsColorBy w c)
IsSetBy m (sign.Flag f) = IsSaid m (codes "flag") (λ w. IsFlagBy w f)

-- the same, if one is set
abbrev pub IsSignBy : ArgMatches → Option Sign → Type 0
IsSignBy m None = ⊤
IsSignBy m (Some s) = IsSetBy m s

-- a change is the one that its option asks for
abbrev pub IsChangeBy : ArgMatches → Change → Type 0
IsChangeBy m (change.Sign s) = IsSetBy m s
IsChangeBy m (change.Before None) = word_after (codes "before") m ≡ None
IsChangeBy m (change.Before (Some c)) = word_after (codes "before") m ≡ Some c
IsChangeBy m (change.Copy n) = word_after (codes "copy") m ≡ Some n

-- the change is of the cue that is written
abbrev pub IsEditingBy : ArgMatches → Editing → Type 0
IsEditingBy m (editing.Change e) = (cue_word m ≡ Some e.cue) × IsChangeBy m e.change
IsEditingBy m editing.Undo = ⊤

-- what is carried out is such an edit
abbrev pub IsEditBy : ArgMatches → Line → Type 0
IsEditBy m (line.Edit file editing) = IsEditingBy m editing
IsEditBy m _ = ⊥
