-- Which devices stood in the parts so far, as a mark for each number.
use Rattle.std.proofs.Common.{◌≡◌, ℕ, ◌<◌, ◌≤◌, ◌+◌, zero, suc, Bool, true, false, ◌||◌, ◌⊎◌, inl, inr, List, [], ◌∷◌}
use Rattle.std.proofs.Common.{◌++◌, length, get_or, set, take, drop, replicate, nat_eq, refl, sym, ap, subst, ◌∙◌}
use Rattle.std.proofs.Common.{arith, get_or-set_same, get_or-set_other, length-set, drop-cons}
use Rattle.std.specs.Cmp.{nat_eq_equiv}
use Rattle.std.specs.List.{list_any}
use Rattle.std.proofs.lemmas.Bool.{eq-eqb, ne_eqb, cases_eq}
use Rattle.std.proofs.lemmas.List.{map-append, take-append-drop, take_more}
use Rattle.std.proofs.lemmas.List.Folds.{list_any-append}
use Rattle.cue_show.specs.declared.limits.TheConstants.{MAX_DEVICE_NUMBER, MAX_DEVICES}
use Rattle.cue_show.specs.Devices.{is_among, distinct, devices_in}
use Rattle.cue_show.specs.declared.part.Part.{Part}
use Rattle.cue_show.proofs.ListLemmas.{or_right, are_distinct-push, are_distinct-twice}

-- the marks are at the numbers of the list, and no number stood twice
pub record IsSeen (seen : List Bool) (ds : List ℕ) : Type 0 where
  pub room : length seen ≡ MAX_DEVICES
  pub marks : (d : ℕ) → d < MAX_DEVICES → get_or seen d false ≡ is_among d ds
  pub distinct : distinct ds ≡ true

no_mark : (n d : ℕ) → get_or (replicate n false) d false ≡ false
no_mark zero d = refl
no_mark (suc n) zero = refl
no_mark (suc n) (suc d) = no_mark n d

-- at the start there is no mark
pub IsSeen-none : IsSeen (replicate MAX_DEVICES false) []
IsSeen-none = record { room = refl; marks = λ d within. no_mark MAX_DEVICES d; distinct = refl }

is_among-swapped : (d : ℕ) (ds : List ℕ) → list_any (nat_eq d) ds ≡ is_among d ds
is_among-swapped d ds = λ i. list_any (λ e. nat_eq_equiv.symm d e i) ds

or_false : (b : Bool) → (b || false) ≡ b
or_false true = refl
or_false false = refl

-- a number is among a list with one more where it is among the list, or is that one
is_among-push : (d e : ℕ) (ds : List ℕ) → is_among e (ds ++ d ∷ []) ≡ (is_among e ds || nat_eq d e)
is_among-push d e ds = list_any-append (λ x. nat_eq x e) ds (d ∷ [])
    ∙ ap (λ b. is_among e ds || b) (or_false (nat_eq d e))

-- a new number is marked
pub IsSeen-push : (seen : List Bool) (ds : List ℕ) (d : ℕ) → IsSeen seen ds → d < MAX_DEVICES
    → get_or seen d false ≡ false → IsSeen (set seen d true) (ds ++ d ∷ [])
IsSeen-push seen ds d s within new = record {
  room = length-set seen d true ∙ s.room;
  marks = λ e below. by e below (cases_eq e d) ∙ sym (is_among-push d e ds);
  distinct = are_distinct-push nat_eq ds d s.distinct (is_among-swapped d ds ∙ sym (s.marks d within) ∙ new);
}
  where
    by : (e : ℕ) → e < MAX_DEVICES → (e ≡ d) ⊎ (e ≡ d → ⊥)
        → get_or (set seen d true) e false ≡ (is_among e ds || nat_eq d e)
    by e below (inl same) =
        ap (λ k. get_or (set seen d true) k false) same
        ∙ get_or-set_same seen d true false (omega (arith, s.room))
        ∙ sym (or_right (is_among e ds) (nat_eq d e) (eq-eqb d e (sym same)))
    by e below (inr other) =
        get_or-set_other seen d e true false other
        ∙ s.marks e below
        ∙ sym (ap (λ b. is_among e ds || b) (ne_eqb d e (λ same. other (sym same))) ∙ or_false (is_among e ds))

-- the parts up to the next one
pub devices_in-next : (parts : List Part) (i : ℕ) (p : Part) → i < length parts → p ≡ get_or parts i p
    → devices_in (take (i + 1) parts) ≡ devices_in (take i parts) ++ p.device ∷ []
devices_in-next parts i p within here =
    ap devices_in (take_more parts i p within)
    ∙ map-append (λ (q : Part). q.device) (take i parts) (get_or parts i p ∷ [])
    ∙ ap (λ (q : Part). devices_in (take i parts) ++ q.device ∷ []) (sym here)

-- the next part goes on with the marks
pub IsSeen-next : (seen : List Bool) (parts : List Part) (i : ℕ) (p : Part) (d : ℕ)
    → IsSeen seen (devices_in (take i parts)) → i < length parts → p ≡ get_or parts i p
    → d ≡ p.device → d ≤ MAX_DEVICE_NUMBER → get_or seen d false ≡ false
    → IsSeen (set seen d true) (devices_in (take (i + 1) parts))
IsSeen-next seen parts i p d s within here number in_range new =
    let next = devices_in-next parts i p within here ∙ ap (λ e. devices_in (take i parts) ++ e ∷ []) (sym number) in
    subst (IsSeen (set seen d true)) (sym next) (IsSeen-push seen (devices_in (take i parts)) d s (omega arith) new)

-- a device that is marked stands twice
pub distinct-marked : (seen : List Bool) (parts : List Part) (i : ℕ) (p : Part) (d : ℕ)
    → IsSeen seen (devices_in (take i parts)) → i < length parts → p ≡ get_or parts i p
    → d ≡ p.device → d ≤ MAX_DEVICE_NUMBER → get_or seen d false ≡ true → distinct (devices_in parts) ≡ false
distinct-marked seen parts i p d s within here number in_range marked =
    let halves : parts ≡ take i parts ++ p ∷ drop (suc i) parts =
    sym (take-append-drop i parts)
    ∙ ap (λ rest. take i parts ++ rest) (drop-cons parts i p within
    ∙ ap (λ q. q ∷ drop (suc i) parts) (sym here)) in
    let among : is_among p.device (devices_in (take i parts)) ≡ true =
    ap (λ e. is_among e (devices_in (take i parts))) (sym number) ∙ sym (s.marks d (omega arith)) ∙ marked in
    ap (λ ps. distinct (devices_in ps)) halves
    ∙ ap distinct (map-append (λ (q : Part). q.device) (take i parts) (p ∷ drop (suc i) parts))
    ∙ are_distinct-twice nat_eq nat_eq_equiv (devices_in (take i parts)) p.device (devices_in (drop (suc i) parts))
    among
