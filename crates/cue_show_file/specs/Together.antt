-- The cues that stand by together, with one press.
use Rattle.std.specs.Prelude.{ℕ, ◌==◌, Bool, true, not, ◌&&◌, List, [], ◌∷◌, filter, find, length, map, nat_le}
use Rattle.std.specs.Prelude.{Option, None, Some, is_some}
use Rattle.std.specs.List.{list_all, list_any}
use Rattle.cue_show.specs.declared.part.Part.{Part}
use Rattle.cue_show.specs.Number.{same_text}
use Rattle.cue_show.specs.Parts.{uses}
use Rattle.cue_show_file.specs.declared.file.CueEntry.{CueEntry}
use Rattle.cue_show_file.specs.declared.file.ShowFile.{ShowFile}
use Rattle.cue_show_file.specs.declared.together.Group.{Group}
use Rattle.cue_show_file.specs.declared.together.TheConstants.{MAX_COMPANIONS}

-- the first entry of a cue
abbrev pub entry_in : List CueEntry → List ℕ → Option CueEntry
entry_in entries c = find (λ (e : CueEntry). same_text e.number c) entries

-- the parts of an entry, if there is one
abbrev pub parts_of : Option CueEntry → List Part
parts_of None = []
parts_of (Some e) = e.parts

-- some of these parts are for devices of those
abbrev pub are_shared : List Part → List Part → Bool
are_shared ps qs = list_any (λ (p : Part). uses p.device qs) ps

-- two cues can be live at once: they are not one cue, and have no device in common
abbrev pub are_apart : List CueEntry → List ℕ → List ℕ → Bool
are_apart entries c d =
    not (same_text c d) && not (are_shared (parts_of (entry_in entries c)) (parts_of (entry_in entries d)))

-- each two of these cues
abbrev pub all_apart : List CueEntry → List (List ℕ) → Bool
all_apart entries [] = true
all_apart entries (c ∷ cs) = list_all (are_apart entries c) cs && all_apart entries cs

-- a cue can be stood by with its companions: they are few, the file has each, and all of them can be live at once
abbrev pub is_group : List CueEntry → CueEntry → Bool
is_group entries e =
    nat_le (length e.companions) MAX_COMPANIONS
    && (list_all (λ c. is_some (entry_in entries c)) e.companions && all_apart entries (e.number ∷ e.companions))

-- ---- what a desk takes of a file

-- it stands by with others, and can
abbrev pub is_accompanied : List CueEntry → CueEntry → Bool
is_accompanied entries e = not (length e.companions == 0) && is_group entries e

abbrev pub group_of : CueEntry → Group
group_of e = record { first = e.number; others = e.companions }

-- each cue with those that stand by with it
abbrev pub groups_in : ShowFile → List Group
groups_in f = map group_of (filter (is_accompanied f.cues.items) f.cues.items)

-- those that stand by with a cue; none if it stands by alone
abbrev pub others_by : Option Group → List (List ℕ)
others_by None = []
others_by (Some g) = g.others

abbrev pub others_of : List Group → List ℕ → List (List ℕ)
others_of groups c = others_by (find (λ (g : Group). same_text g.first c) groups)
