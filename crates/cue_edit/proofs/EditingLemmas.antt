-- What each change keeps of the cues.
use Rattle.std.proofs.Common.{◌≡◌, ◌∙◌, ℕ, ◌+◌, suc, Bool, true, false, if◌then◌else◌, List, [], ◌∷◌, length, map}
use Rattle.std.proofs.Common.{Option, None, Some, refl, ap, sym, arith}
use Rattle.std.specs.Prelude.{find, option_map, IsTrue}
use Rattle.std.specs.Option.{option_map_or}
use Rattle.cue_show.proofs.TextLemmas.{same_text-true}
use Rattle.cue_show.specs.Number.{same_text}
use Rattle.cue_show_file.specs.declared.file.CueEntry.{CueEntry}
use Rattle.cue_edit.specs.Editing.{SeenCue, carried, copied, is_at, placed, renumbered, seen, signed}
use Rattle.cue_edit.specs.Editing.{signed_at, without}
use Rattle.cue_edit.specs.Laws.{count, is_number, one_if, told}
use Rattle.cue_edit.specs.declared.edit.Sign.{Sign}
use Rattle.cue_edit.specs.declared.edit.Sign.TheVariants as sign

-- ---- signs

told-signed : (s : Sign) (c : SeenCue) → told (signed s c) ≡ told c
told-signed (sign.Name t) c = refl
told-signed (sign.Note t) c = refl
told-signed (sign.Color x) c = refl
told-signed (sign.Flag x) c = refl

told-at : (n : List ℕ) (s : Sign) (c : SeenCue) → told (signed_at n s c) ≡ told c
told-at n s c =
    elim (same_text c.number n) as (λ b. told (if b then signed s c else c) ≡ told c)
    [ true ↦ told-signed s c | false ↦ refl ]

pub told-all : (n : List ℕ) (s : Sign) (cs : List SeenCue) → map told (map (signed_at n s) cs) ≡ map told cs
told-all n s [] = refl
told-all n s (c ∷ cs) =
    ap (λ t. t ∷ map told (map (signed_at n s) cs)) (told-at n s c) ∙ ap (λ ts. told c ∷ ts) (told-all n s cs)

-- ---- order

count-placed : (is_such : SeenCue → Bool) (b : Option (List ℕ)) (m : SeenCue) (cs : List SeenCue)
    → count is_such (placed b m cs) ≡ one_if (is_such m) + count is_such cs
count-placed is_such b m [] = refl
count-placed is_such b m (c ∷ cs) =
    let rest : count is_such (placed b m cs) ≡ one_if (is_such m) + count is_such cs = count-placed is_such b m cs in
    elim (is_at b c)
    as (λ t. count is_such (if t then m ∷ (c ∷ cs) else c ∷ placed b m cs)
    ≡ one_if (is_such m) + (one_if (is_such c) + count is_such cs))
    [ true ↦ refl | false ↦ omega arith ]

-- without a cue that has the number nothing is left out
without-none : (n : List ℕ) (cs : List SeenCue) → count (is_number n) cs ≡ 0 → without n cs ≡ cs
without-none n [] h = refl
without-none n (c ∷ cs) h =
    elim (same_text c.number n)
    as (λ b. one_if b + count (is_number n) cs ≡ 0 → (if b then without n cs else c ∷ without n cs) ≡ c ∷ cs)
    [ true ↦ (λ h. grind arith) | false ↦ (λ h. ap (λ xs. c ∷ xs) (without-none n cs (omega arith))) ] h

-- the cue that is carried, and the others
kept : (is_such : SeenCue → Bool) (n : List ℕ) (cs : List SeenCue) → count (is_number n) cs ≡ 1
    → (m : SeenCue) × ((find (λ (c : SeenCue). same_text c.number n) cs ≡ Some m)
    × (one_if (is_such m) + count is_such (without n cs) ≡ count is_such cs))
kept is_such n [] h = grind arith
kept is_such n (c ∷ cs) h =
    elim (same_text c.number n)
    as (λ b. one_if b + count (is_number n) cs ≡ 1
    → (m : SeenCue) × (((if b then Some c else find (λ (d : SeenCue). same_text d.number n) cs) ≡ Some m)
    × (one_if (is_such m) + count is_such (if b then without n cs else c ∷ without n cs)
    ≡ one_if (is_such c) + count is_such cs))) [
      | true ↦ (λ h. (c, (refl, ap (λ xs. one_if (is_such c) + count is_such xs) (without-none n cs (omega arith)))))
      | false ↦ (λ h. let k = kept is_such n cs (omega arith) in (k.0, (k.1.0, omega (arith, k.1.1))))
    ] h

pub carrying-keeps : (b : Option (List ℕ)) (n : List ℕ) (cs : List SeenCue) (is_such : SeenCue → Bool)
    → count (is_number n) cs ≡ 1 → count is_such (carried b n cs) ≡ count is_such cs
carrying-keeps b n cs is_such h =
    let k = kept is_such n cs h in
    ap (λ f. count is_such (option_map_or (λ m. placed b m (without n cs)) f cs)) k.1.0
    ∙ (count-placed is_such b k.0 (without n cs) ∙ k.1.1)

-- ---- comparing

-- two numbers that are the same text are one
pub one_number : (a b : List ℕ) → IsTrue (same_text a b) → a ≡ b
one_number a b h = same_text-true a b h

-- the first cue with the number, as people see it
pub found_seen : (n : List ℕ) (es : List CueEntry)
    → find (λ (c : SeenCue). same_text c.number n) (map seen es)
    ≡ option_map seen (find (λ (e : CueEntry). same_text e.number n) es)
found_seen n [] = refl
found_seen n (e ∷ es) =
    elim (same_text e.number n)
    as (λ b. (if b then Some (seen e) else find (λ (c : SeenCue). same_text c.number n) (map seen es))
    ≡ option_map seen (if b then Some e else find (λ (d : CueEntry). same_text d.number n) es))
    [ true ↦ refl | false ↦ found_seen n es ]

-- what is carried is the first that has the number
pub carried_found : (before : Option (List ℕ)) (n : List ℕ) (es : List CueEntry) (e : CueEntry)
    → find (λ (d : CueEntry). same_text d.number n) es ≡ Some e
    → carried before n (map seen es) ≡ placed before (seen e) (without n (map seen es))
carried_found before n es e h =
    ap (λ f. option_map_or (λ m. placed before m (without n (map seen es))) f (map seen es))
    (found_seen n es ∙ ap (λ f. option_map seen f) h)

-- ---- copies

pub copy-adds : (n new : List ℕ) (cs : List SeenCue) → count (is_number n) cs ≡ 1
    → length (copied n new cs) ≡ suc (length cs)
copy-adds n new [] h = grind arith
copy-adds n new (c ∷ cs) h =
    elim (same_text c.number n)
    as (λ b. one_if b + count (is_number n) cs ≡ 1
    → length (if b then c ∷ (renumbered new c ∷ cs) else c ∷ copied n new cs) ≡ suc (suc (length cs)))
    [ true ↦ (λ h. refl) | false ↦ (λ h. ap suc (copy-adds n new cs (omega arith))) ] h
