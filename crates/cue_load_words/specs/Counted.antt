-- What a load prints, byte for byte.
use Rattle.std.specs.Prelude.{ℕ, List, ◌++◌, codes, decimal}
use Rattle.cue_load_machine.specs.declared.becoming.Counts.{Counts}
use Rattle.cue_saying.specs.Shown.{shown_name}
use Rattle.cue_load_words.specs.declared.printed.Kind.{Kind}
use Rattle.cue_load_words.specs.declared.printed.Kind.TheVariants as kind
use Rattle.cue_load_words.specs.declared.printed.Printed.{Printed}
use Rattle.cue_load_words.specs.declared.printed.Printed.TheVariants as printed
use Rattle.cue_load_words.specs.declared.said.About.{About}
use Rattle.cue_load_words.specs.Words.{load_words}

abbrev pub kind_words : Kind → List ℕ
kind_words kind.Devices = codes "devices"
kind_words kind.Cues = codes "cues"

-- how many are new, were there already, and were refused
abbrev pub added_words : Kind → Counts → List ℕ
added_words k c =
    kind_words k
    ++ (codes ": " ++ (decimal c.added ++ (codes " new, " ++ (decimal c.known ++ (codes " known, " ++ (decimal c.refused
    ++ codes " refused"))))))

-- how many are new, were there already, were replaced, and were removed
abbrev pub replaced_words : Kind → Counts → List ℕ
replaced_words k c =
    kind_words k
    ++ (codes ": " ++ (decimal c.added ++ (codes " new, " ++ (decimal c.known ++ (codes " known, "
    ++ (decimal c.replaced ++ (codes " replaced, " ++ (decimal c.removed ++ codes " removed"))))))))

abbrev pub not_compared_words : List ℕ → List ℕ
not_compared_words path =
    codes "not compared with what else the store has, nor with its order: cuedesk load " ++ (shown_name path
    ++ codes " FOLDER does, with its folder")

abbrev pub printed_words : Printed → About → List ℕ
printed_words (printed.Added k c) a = added_words k c
printed_words (printed.Replaced k c) a = replaced_words k c
printed_words printed.NotCompared a = not_compared_words a.path.now

-- the copy is named twice: where it is, and in the command that takes the load back
abbrev pub kept_words : (copy dir : List ℕ) → List ℕ
kept_words copy dir =
    codes "what the store had is in " ++ (shown_name copy ++ (codes "; back: " ++ (load_words copy dir
    ++ codes " --exact")))
