-- The order of entry: what follows a cue, and what a removal leaves.
use Rattle.std.proofs.Common.{◌≡◌, ℕ, Bool, true, false, not, if◌then◌else◌, List, [], ◌∷◌, ◌++◌, Option, None, Some}
use Rattle.std.proofs.Common.{filter, nat_eq, refl, sym, ap, ◌∙◌}
use Rattle.std.specs.Cmp.{IsEquivalence, nat_eq_equiv}
use Rattle.std.specs.List.{list_any}
use Rattle.std.specs.Map.{remove_entry, keys_of}
use Rattle.std.proofs.lemmas.Bool.{and_parts, not-true}
use Rattle.cue_show.specs.Distinct.{are_distinct}
use Rattle.cue_show.specs.Laws.{ComesNext, FollowingComesNext, RemovalsKeepTheOrder}
use Rattle.cue_show.specs.Number.{same_text}
use Rattle.cue_show.specs.Show.{Cues, first_cue, cue_after, following}
use Rattle.cue_show.specs.declared.part.Part.{Part}
use Rattle.cue_show.proofs.ListLemmas.{neither}
use Rattle.cue_show.proofs.ShowLemmas.{show_rules, stack_parts}
use Rattle.cue_show.proofs.TableLemmas.{table_parts}
use Rattle.cue_show.proofs.TextLemmas.{same_text_equiv, same_text-true, same_text-itself}

same_place : (a f : List ℕ) → ◌≡◌ {A = Option (List ℕ)} (Some a) (Some f) → a ≡ f
same_place a f h = cc

no_number : {P : Type 0} (f : List ℕ) → ◌≡◌ {A = Option (List ℕ)} None (Some f) → P
no_number f h = cc

-- what is found behind a cue stands there
found_behind : (c f : List ℕ) (es : Cues) → cue_after c es ≡ Some f → ComesNext es c f
found_behind c f [] found = no_number f found
found_behind c f (e ∷ es) found = by (same_text c e.0) refl found (found_behind c f es)
  where
    first : (gs : Cues) → c ≡ e.0 → first_cue gs ≡ Some f → ComesNext (e ∷ gs) c f
    first [] same h = no_number f h
    first (g ∷ gs) same h = ([], gs, e.1, g.1, λ i. (sym same i, e.1) ∷ (same_place g.0 f h i, g.1) ∷ gs)

    by : (b : Bool) → same_text c e.0 ≡ b → cue_after c (e ∷ es) ≡ Some f
        → (cue_after c es ≡ Some f → ComesNext es c f) → ComesNext (e ∷ es) c f
    by true same h later = first es (same_text-true c e.0 same)
        (sym (ap (λ b. if b then first_cue es else cue_after c es) same) ∙ h)
    by false same h later =
        let rest = later (sym (ap (λ b. if b then first_cue es else cue_after c es) same) ∙ h) in
        (e ∷ rest.0, rest.1, rest.2, rest.3, ap (λ es. e ∷ es) rest.4)

-- a test that no key passes fails at each key
fails_at : (test : List ℕ → Bool) (before : Cues) (c : List ℕ) (parts : List Part) (after : Cues)
    → list_any test (keys_of (before ++ (c, parts) ∷ after)) ≡ false → test c ≡ false
fails_at test [] c parts after none = (neither (test c) (list_any test (keys_of after)) none).0
fails_at test (b ∷ bs) c parts after none =
    fails_at test bs c parts after (neither (test b.0) (list_any test (keys_of (bs ++ (c, parts) ∷ after))) none).1

-- and what stands behind a cue is found there, since no cue stands twice
behind_found : (c f : List ℕ) (parts others : List Part) (before after : Cues)
    → are_distinct same_text (keys_of (before ++ (c, parts) ∷ (f, others) ∷ after)) ≡ true
    → cue_after c (before ++ (c, parts) ∷ (f, others) ∷ after) ≡ Some f
behind_found c f parts others [] after distinct = rw (same_text-itself c)
behind_found c f parts others (b ∷ bs) after distinct =
    let rest : Cues = bs ++ (c, parts) ∷ (f, others) ∷ after in
    let here = and_parts (not (list_any (λ y. same_text y b.0) (keys_of rest))) (are_distinct same_text (keys_of rest))
    distinct in
    let other = fails_at (λ y. same_text y b.0) bs c parts ((f, others) ∷ after)
    (not-true (list_any (λ y. same_text y b.0) (keys_of rest)) here.0) in
    rw other (behind_found c f parts others bs after here.1)

pub following_next : FollowingComesNext
following_next s c f show = (found_behind c f s.cues, back)
  where
    back : ComesNext s.cues c f → following s c ≡ Some f
    back h =
        let k = stack_parts s s.cues (show_rules s show).stack in
        ap (cue_after c) h.4 ∙ behind_found c f h.2 h.3 h.0 h.1
        (sym (ap (λ es. are_distinct same_text (keys_of es)) h.4) ∙ k.distinct)

module _ {K V : Type 0} (same : K → K → Bool) where
  -- entries of which none passes are all kept
  filter-none : (k : K) (es : List (K × V)) → list_any (same k) (keys_of es) ≡ false
      → filter (λ e. not (same k e.0)) es ≡ es
  filter-none k [] none = refl
  filter-none k (e ∷ es) none =
      let apart = neither (same k e.0) (list_any (same k) (keys_of es)) none in
      rw (apart.0) (ap (λ fs. e ∷ fs) (filter-none k es apart.1))

  -- with distinct keys, to take the first entry of a key out is to keep the others
  remove_entry-filter : IsEquivalence same → (k : K) (es : List (K × V)) → are_distinct same (keys_of es) ≡ true
      → remove_entry (same k) es ≡ filter (λ e. not (same k e.0)) es
  remove_entry-filter laws k [] distinct = refl
  remove_entry-filter laws k (e ∷ es) distinct =
      let here = and_parts (not (list_any (λ y. same y e.0) (keys_of es))) (are_distinct same (keys_of es)) distinct in
      by (same k e.0) refl (not-true (list_any (λ y. same y e.0) (keys_of es)) here.0) (filter-none k es)
      (remove_entry-filter laws k es here.1)
    where
      by : (b : Bool) → same k e.0 ≡ b → list_any (λ y. same y e.0) (keys_of es) ≡ false
          → (list_any (same k) (keys_of es) ≡ false → filter (λ x. not (same k x.0)) es ≡ es)
          → remove_entry (same k) es ≡ filter (λ x. not (same k x.0)) es
          → remove_entry (same k) (e ∷ es) ≡ filter (λ x. not (same k x.0)) (e ∷ es)
      by true h once kept later =
          rw h (sym (kept ((λ i. list_any (λ y. (laws.congr k e.0 y h ∙ laws.symm e.0 y) i) (keys_of es)) ∙ once)))
      by false h once kept later = rw h (ap (λ fs. e ∷ fs) later)

pub removals_in_order : RemovalsKeepTheOrder
removals_in_order s show =
    let r = show_rules s show in (
      λ d. remove_entry-filter nat_eq nat_eq_equiv d s.devices (table_parts s.devices r.table).distinct,
      λ c.
          remove_entry-filter same_text same_text_equiv c s.cues (stack_parts s s.cues r.stack).distinct,
    )
