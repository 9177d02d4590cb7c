-- What a load says, byte for byte.
use Rattle.std.specs.Prelude.{ℕ, ℤ, List, [], ◌++◌, codes, decimal}
use Rattle.std.specs.Fmt.{signed_decimal}
use Rattle.cue_loading.specs.declared.comparing.Difference.{Difference}
use Rattle.cue_loading.specs.declared.comparing.Difference.TheVariants as difference
use Rattle.cue_saying.specs.Shown.{shown_name}
use Rattle.cue_show_file.specs.declared.mistake.Subject.{Subject}
use Rattle.cue_show_file.specs.declared.mistake.Subject.TheVariants as subject
use Rattle.cue_words.specs.CodeWords.{number_words}
use Rattle.cue_load_words.specs.declared.copies.TheConstants.{MAX_KEPT}
use Rattle.cue_load_words.specs.declared.said.About.{About}
use Rattle.cue_load_words.specs.declared.said.Said.{Said}
use Rattle.cue_load_words.specs.declared.said.Said.TheVariants as said

-- what an entry of a show file is called: a device or a cue by its number, or by its place in the file
abbrev pub subject_words : Subject → List ℕ
subject_words subject.File = codes "the file"
subject_words (subject.Device d) = codes "device " ++ decimal d
subject_words (subject.Cue c) = codes "cue " ++ c
subject_words (subject.DeviceAt n) = codes "device entry " ++ decimal n
subject_words (subject.CueAt n) = codes "cue entry " ++ decimal n

-- ---- what became of an entry

-- it was refused by this code
abbrev pub refused_words : Subject → ℤ → List ℕ
refused_words s code =
    subject_words s
    ++ (codes ": refused, code " ++ (signed_decimal code ++ (codes ": " ++ number_words code)))

-- nobody replied: what became of it is not known
abbrev pub unanswered_words : Subject → ℕ → List ℕ
unanswered_words s port =
    subject_words s
    ++ (codes ": not acknowledged by the controller at 127.0.0.1:" ++ (decimal port
    ++ codes ": it was carried out whole, or not at all; look whether serve runs there, and load again"))

abbrev pub no_status_words : ℕ → List ℕ
no_status_words port =
    codes "the status: no reply from the controller at 127.0.0.1:" ++ (decimal port
    ++ codes ": look whether serve runs there, and load again")

abbrev pub place_words : List ℕ → List ℕ
place_words cue = codes "the place was cue " ++ cue

abbrev pub other_store_words : List ℕ → ℕ → List ℕ
other_store_words dir port =
    shown_name dir
    ++ (codes " is not the store that is served at port " ++ (decimal port
    ++ codes ": give the folder of that one, or its port"))

-- ---- in what the store is not what the file says

-- the name of a file with what stands before and after it
abbrev pub around : (before name after : List ℕ) → List ℕ
around before name after = before ++ (shown_name name ++ after)

abbrev pub where_words : Subject → (before path after : List ℕ) → List ℕ
where_words s before path after = subject_words s ++ around before path after

abbrev pub left_words : Subject → List ℕ → List ℕ
left_words s path = where_words s (codes " is in the store and not in ") path []

abbrev pub missing_words : Subject → List ℕ → List ℕ
missing_words s path = where_words s (codes " is in ") path (codes " and not in the store")

abbrev pub port_words : (device port : ℕ) → List ℕ → List ℕ
port_words device port path =
    codes "device " ++ (decimal device ++ (codes " has port " ++ (decimal port
    ++ (codes " in the store, and another one in " ++ shown_name path))))

abbrev pub parts_words : List ℕ → List ℕ → List ℕ
parts_words cue path = codes "cue " ++ (cue ++ (codes " has other parts in the store than in " ++ shown_name path))

abbrev pub order_words : (cue other path : List ℕ) → List ℕ
order_words cue other path =
    codes "the stack has another order than " ++ (shown_name path ++ (codes ": cue " ++ (cue
    ++ (codes " is where the file has cue " ++ other))))

abbrev pub otherwise_words : List ℕ → List ℕ
otherwise_words path = around (codes "the store is not what ") path (codes " says")

abbrev pub difference_words : Difference → List ℕ → List ℕ
difference_words (difference.LeftDevice d) path = left_words (subject.Device d) path
difference_words (difference.MissingDevice d) path = missing_words (subject.Device d) path
difference_words (difference.LeftCue c) path = left_words (subject.Cue c) path
difference_words (difference.MissingCue c) path = missing_words (subject.Cue c) path
difference_words (difference.OtherPort d port) path = port_words d port path
difference_words (difference.OtherParts c) path = parts_words c path
difference_words (difference.OtherOrder c other) path = order_words c other path
difference_words difference.Otherwise path = otherwise_words path

-- ---- what to do

-- the command that loads this file into the store of this folder
abbrev pub load_words : (path dir : List ℕ) → List ℕ
load_words path dir = codes "cuedesk load " ++ (shown_name path ++ (codes " " ++ shown_name dir))

-- what is had by a load with a flag
abbrev pub advice_words : List ℕ → About → List ℕ → List ℕ
advice_words what a flag =
    codes "to " ++ (what ++ (codes ":  " ++ (load_words a.path.now a.dir.now ++ (codes " --" ++ flag))))

abbrev pub to_replace_words : About → List ℕ
to_replace_words a = advice_words (codes "have what the file says") a (codes "replace")

abbrev pub to_remove_words : About → List ℕ
to_remove_words a = advice_words (codes "take out what is not in the file") a (codes "exact")

-- ---- what the store had is not kept

abbrev pub no_name_words : List ℕ → List ℕ
no_name_words path =
    codes "what the store had is NOT kept: " ++ (decimal MAX_KEPT ++ (codes " such files stand beside "
    ++ (shown_name path ++ codes "; take old ones away")))

abbrev pub not_kept_words : List ℕ → List ℕ
not_kept_words path = around (codes "what the store had is NOT kept beside ") path []

-- ---- lines

abbrev pub said_words : Said → About → List ℕ
said_words said.NoStatus a = no_status_words a.port
said_words (said.Refused s code) a = refused_words s code
said_words (said.Unanswered s) a = unanswered_words s a.port
said_words said.NotWhole a = codes "the stack is not whole: load again with --replace"
said_words (said.PlaceWas cue) a = place_words cue
said_words said.OtherOrder a =
    codes "the stack may have another order than the file: load with the folder of the store to see it"
said_words said.NoRoom a =
    codes "the stack has no room for all cues of the file beside those that it does not have: nothing is replaced. "
    ++ codes "Load with --exact"
said_words said.OtherStore a = other_store_words a.dir.now a.port
said_words said.NotReplaced a =
    codes "so nothing is replaced: make room there, or load a copy of the show file from another folder"
said_words (said.Differs d) a = difference_words d a.path.now
said_words said.ToReplace a = to_replace_words a
said_words said.ToRemove a = to_remove_words a
said_words said.NoName a = no_name_words a.path.now
said_words said.NotKept a = not_kept_words a.path.now
said_words said.NoSocket a = codes "no socket"
