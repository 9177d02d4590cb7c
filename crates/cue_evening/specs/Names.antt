-- Devices and cues in words.
use Rattle.std.specs.Prelude.{ℕ, ◌==◌, ◌&&◌, if◌then◌else◌, List, [], ◌∷◌, ◌++◌, codes, decimal, drop, length, take}

-- what stands before the next of a list, if so many come after it by name, and so many more without
abbrev pub mark_before : ℕ → ℕ → List ℕ
mark_before rest more = if rest == 0 && more == 0 then codes " and " else codes ", "

-- how many there are beside those that are named
abbrev pub more_text : ℕ → List ℕ
more_text more = if more == 0 then [] else codes " and " ++ (decimal more ++ codes " more")

-- the others of a list after its first one, and how many more there are
abbrev pub others_text : {A : Type 0} → (A → List ℕ) → List A → ℕ → List ℕ
others_text text [] more = more_text more
others_text text (x ∷ xs) more = mark_before (length xs) more ++ (text x ++ others_text text xs more)

-- a list, and how many more there are
abbrev pub named_text : {A : Type 0} → (A → List ℕ) → List A → ℕ → List ℕ
named_text text [] more = more_text more
named_text text (x ∷ xs) more = text x ++ others_text text xs more

-- a list: the first sixteen by name, and how many more there are
unfoldable pub list_text : {A : Type 0} → (A → List ℕ) → List A → List ℕ
list_text text list = named_text text (take 16 list) (length (drop 16 list))

-- devices
unfoldable pub devices_text : List ℕ → List ℕ
devices_text devices = (if length devices == 1 then codes "device " else codes "devices ") ++ list_text decimal devices

-- cues
unfoldable pub cues_text : List (List ℕ) → List ℕ
cues_text cues = (if length cues == 1 then codes "cue " else codes "cues ") ++ list_text (λ cue. cue) cues
