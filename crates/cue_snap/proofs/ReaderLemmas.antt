-- The reader of pairs, and what a pair may be.
use Rattle.std.proofs.Common.{◌≡◌, ◌⊎◌, inl, inr, ℕ, zero, suc, ◌<◌, Bool, true, false, nat_lt, ◌==◌, if◌then◌else◌}
use Rattle.std.proofs.Common.{List, [], ◌∷◌, length, take, drop, Some, None, refl, sym, ◌∙◌, ap, subst, arith}
use Rattle.std.proofs.lemmas.Bool.{cases_Bool, cases_lt}
use Rattle.std.proofs.lemmas.Bool.Decides.{nat_tests}
use Rattle.cue_log.specs.declared.area.TheConstants.{MAX_AREA}
use Rattle.cue_log.specs.Area.{Area, IsArea, IsAbsent}
use Rattle.cue_log.specs.Log.{IsDamaged}
use Rattle.cue_log.specs.Reading.{area_at, area_after, eight_at, frame_at, read_area, area_in}
use Rattle.cue_log.proofs.CompleteLemmas.{complete, area_in_is}
use Rattle.cue_log.proofs.SoundLemmas.{area_not_absent, any_bytes}
use Rattle.cue_snap.specs.Pair.{PairReads, NeitherHas, OneGeneration, IsSpoiled}
use Rattle.cue_snap.specs.Reading.{pair_in, newer_of, newer, only, is_absent}
use Rattle.cue_snap.proofs.PairLemmas.{swapped}
use Rattle.cue_snap.specs.Laws.{OneAreaOfAPair, ReaderFindsEachPair, AnyPairAnswers, PairThatReadsIsGood}

take_none : (n : ℕ) → take {A = ℕ} n [] ≡ []
take_none zero = refl
take_none (suc n) = refl

-- a single byte is no area
one_byte : (gate : ℕ) → area_at (gate ∷ []) ≡ None
one_byte gate = elim (cases_Bool (gate == 1)) [
  | inl opened ↦ ap (λ (b : Bool). if b then None else None) opened
  | inr shut ↦ ap (λ (b : Bool). if b then None else None) shut
]

-- absent bytes are read as no area, wherever they are cut
none_at : (n : ℕ) (bytes : List ℕ) → IsAbsent bytes → area_at (take n bytes) ≡ None
none_at zero bytes absent = refl
none_at (suc n) [] absent = refl
none_at (suc n) (gate ∷ []) absent = ap (λ (l : List ℕ). area_at (gate ∷ l)) (take_none n) ∙ one_byte gate
none_at (suc n) (gate ∷ byte ∷ bytes) absent =
    let shut : (gate == 1) ≡ false = grind (arith, nat_tests, absent) in
    let rest : List ℕ = take n (byte ∷ bytes) in
    ap (λ (b : Bool). if b then (if nat_lt (length rest) 8 then None else area_after (eight_at rest)
    (frame_at MAX_AREA (drop 8 rest))) else None) shut

read_none : (bytes : List ℕ) → IsAbsent bytes → read_area bytes ≡ None
unfolding read_area
read_none bytes absent = none_at MAX_AREA bytes absent

-- the test of absence
tested : (bytes : List ℕ) → IsAbsent bytes → is_absent bytes ≡ true
tested [] absent = refl
tested (gate ∷ []) absent = refl
tested (gate ∷ byte ∷ bytes) absent =
    let shut : (gate == 1) ≡ false = grind (arith, nat_tests, absent) in
    ap (λ (b : Bool). if b then false else true) shut

newer_first : (a b : Area) → b.generation < a.generation → newer a b ≡ Some a
newer_first a b lower =
    let test : nat_lt b.generation a.generation ≡ true = grind (arith, nat_tests, lower) in
    ap (λ (t : Bool). if t then Some a else if nat_lt a.generation b.generation then Some b else None) test

newer_second : (a b : Area) → a.generation < b.generation → newer a b ≡ Some b
newer_second a b lower =
    let no_first : nat_lt b.generation a.generation ≡ false = grind (arith, nat_tests, lower) in
    let test : nat_lt a.generation b.generation ≡ true = grind (arith, nat_tests, lower) in
    (λ i. if no_first i then Some a else if test i then Some b else None)

pub pair_found : ReaderFindsEachPair
unfolding pair_in
pair_found area x y (inl (is, inl absent)) =
    (λ i. newer_of x y (complete area x is i) (read_none y absent i))
    ∙ ap (λ (t : Bool). only t (Some area)) (tested y absent)
pair_found area x y (inl (is, inr (other, there, lower))) =
    (λ i. newer_of x y (complete area x is i) (complete other y there i)) ∙ newer_first area other lower
pair_found area x y (inr (is, inl absent)) =
    (λ i. newer_of x y (read_none x absent i) (complete area y is i))
    ∙ ap (λ (t : Bool). only t (Some area)) (tested x absent)
pair_found area x y (inr (is, inr (other, there, lower))) =
    (λ i. newer_of x y (complete other x there i) (complete area y is i)) ∙ newer_second other area lower

pub one_of_a_pair : OneAreaOfAPair
one_of_a_pair a b x y is_a is_b = cc (pair_found a x y is_a, pair_found b x y is_b)

-- two areas: the one is newer, or both have one generation
two_areas : (x y : List ℕ) (a b : Area) → IsArea a x → IsArea b y → ((area : Area) × PairReads area x y) ⊎ IsSpoiled x y
two_areas x y a b is_a is_b = elim (cases_lt a.generation b.generation) [
  | inl lower ↦ inl (b, inr (is_b, inr (a, is_a, lower)))
  | inr above ↦ elim (cases_lt b.generation a.generation) [
    | inl lower ↦ inl (a, inl (is_a, inr (b, is_b, lower)))
    | inr below ↦
        let same_a : area_in x ≡ a = area_in_is a x is_a in
        let same_b : area_in y ≡ b = area_in_is b y is_b in
        let one : (area_in x).generation ≡ (area_in y).generation =
        omega (
          arith,
          above,
          below,
          ap (λ (it : Area). it.generation) same_a,
          ap (λ (it : Area). it.generation)
              same_b,
        ) in
        inr (inr (inr (
          subst (λ (it : Area). IsArea it x) (sym same_a) is_a,
          subst (λ (it : Area). IsArea it y)
              (sym same_b) is_b,
          one,
        )))
  ]
]

any_of : (x y : List ℕ) → IsAbsent x ⊎ ((area : Area) × IsArea area x) ⊎ IsDamaged x
    → IsAbsent y ⊎ ((area : Area) × IsArea area y) ⊎ IsDamaged y → NeitherHas x y ⊎ ((area : Area) × PairReads area x y)
    ⊎ IsSpoiled x y
any_of x y (inl none_x) (inl none_y) = inl (none_x, none_y)
any_of x y (inl none_x) (inr (inl (b, is_b))) = inr (inl (b, inr (is_b, inl none_x)))
any_of x y (inl none_x) (inr (inr damaged)) = inr (inr (inr (inl damaged)))
any_of x y (inr (inl (a, is_a))) (inl none_y) = inr (inl (a, inl (is_a, inl none_y)))
any_of x y (inr (inl (a, is_a))) (inr (inl (b, is_b))) = inr (two_areas x y a b is_a is_b)
any_of x y (inr (inl (a, is_a))) (inr (inr damaged)) = inr (inr (inr (inl damaged)))
any_of x y (inr (inr damaged)) found = inr (inr (inl damaged))

pub any_pair : AnyPairAnswers
any_pair x y are_x are_y = any_of x y (any_bytes x are_x) (any_bytes y are_y)

not_none : (area : Area) (x y : List ℕ) → PairReads area x y → NeitherHas x y → ⊥
not_none area x y (inl (is, older)) none = area_not_absent area x is none.0
not_none area x y (inr (is, older)) none = area_not_absent area y is none.1

-- no damage in either
not_damaged : (area : Area) (x y : List ℕ) → PairReads area x y → IsDamaged x → ⊥
not_damaged area x y (inl (is, older)) damaged = damaged.1 area is
not_damaged area x y (inr (is, inl absent)) damaged = damaged.0 absent
not_damaged area x y (inr (is, inr (other, there, lower))) damaged = damaged.1 other there

-- and two areas have two generations
not_one : (area : Area) (x y : List ℕ) → PairReads area x y → OneGeneration x y → ⊥
not_one area x y (inl (is, inl absent)) one = area_not_absent (area_in y) y one.1 absent
not_one area x y (inl (is, inr (other, there, lower))) one =
    absurd (omega (
      arith,
      lower,
      one.2,
      ap (λ (it : Area). it.generation) (area_in_is area x is),
      ap (λ (it : Area). it.generation) (area_in_is other y there),
    ))
not_one area x y (inr (is, inl absent)) one = area_not_absent (area_in x) x one.0 absent
not_one area x y (inr (is, inr (other, there, lower))) one =
    absurd (omega (
      arith,
      lower,
      one.2,
      ap (λ (it : Area). it.generation) (area_in_is area y is),
      ap (λ (it : Area). it.generation) (area_in_is other x there),
    ))

not_spoiled : (area : Area) (x y : List ℕ) → PairReads area x y → IsSpoiled x y → ⊥
not_spoiled area x y reads (inl damaged) = not_damaged area x y reads damaged
not_spoiled area x y reads (inr (inl damaged)) = not_damaged area y x (swapped area x y reads) damaged
not_spoiled area x y reads (inr (inr one)) = not_one area x y reads one

pub good_pair : PairThatReadsIsGood
good_pair area x y reads = (not_none area x y reads, not_spoiled area x y reads)
