-- Rows of clap: a use with good values leaves each row with values that its rule takes.
use Rattle.std.proofs.Common.{◌≡◌, ℕ, ◌<◌, ◌&&◌, ◌||◌, Bool, true, false, List, [], ◌∷◌, ◌++◌, length, Some, cond, refl}
use Rattle.std.proofs.Common.{sym, ap, ◌∙◌, subst, arith, inl, inr, length-append}
use Rattle.std.specs.Prelude.{◌⊎◌, find, nat_lt}
use Rattle.std.specs.Str.{bytes_eq}
use Rattle.std.proofs.lemmas.Slice.Eq.{bytes_eq-Decides}
use Rattle.clap.specs.Walk.{Row, Rule, Text, action_of, arg_by_id, at_row, more_values, most_values, reading_by, used}
use Rattle.clap.specs.Walk.{used_as, values_or_missing, with_values, without}
use Rattle.clap.specs.Facts.{parser_of_value, unwrap_or_range}
use Rattle.clap.specs.Kinds.{Kinds, or_else, range_kinds, value_kinds, values_kinds}
use Rattle.clap.specs.Faults.{action_fault, use_fault, values_fault}
use Rattle.clap.specs.declared.builder.action.ArgAction.{ArgAction}
use Rattle.clap.specs.declared.builder.action.ArgAction.TheVariants as action
use Rattle.clap.specs.declared.builder.value_parser.ValueParser.{ValueParser}
use Rattle.clap.specs.declared.parser.matches.ValueSource.TheVariants.{CommandLine}
use Rattle.clap.specs.declared.error.kind.ErrorKind.TheVariants.{InvalidValue}

-- ---- kinds

pub both_empty : (a b : Kinds) → or_else a b ≡ [] → (a ≡ []) × (b ≡ [])
both_empty [] b h = (refl, h)
both_empty (k ∷ ks) b h = cc

values_more : (i : Bool) (p : ValueParser) (xs ys : List Text) → values_kinds i p xs ≡ [] → values_kinds i p ys ≡ []
    → values_kinds i p (xs ++ ys) ≡ []
values_more i p [] ys h k = k
values_more i p (x ∷ xs) ys h k =
    let parts = both_empty (value_kinds i p x) (values_kinds i p xs) h in
    ap (λ (a : Kinds). or_else a (values_kinds i p (xs ++ ys))) parts.0 ∙ values_more i p xs ys parts.1 k

-- ---- what is found

abbrev pub Each : {X : Type 0} → (X → Type 0) → List X → Type 0
Each P [] = Unit {0}
Each P (x ∷ xs) = P x × Each P xs

-- what was found was among them, and passed the test
pub each_found : {X : Type 0} (P : X → Type 0) (test : X → Bool) (xs : List X) (x : X) → Each P xs
    → find test xs ≡ Some x → P x × (test x ≡ true)
each_found P test [] x h e = cc
each_found {X} P test (y ∷ ys) x h e = go (test y) refl e (each_found P test ys x h.1)
  where
    go : (b : Bool) → test y ≡ b → cond b (Some y) (find test ys) ≡ Some x
        → (find test ys ≡ Some x → P x × (test x ≡ true)) → P x × (test x ≡ true)
    go true passes is others =
        let same : y ≡ x = cc in
        (subst P same h.0, subst (λ (z : X). test z ≡ true) same passes)
    go false fails is others = others is

-- ---- rows

-- the action takes a value
abbrev is_set : ArgAction → Bool
is_set action.Set = true
is_set _ = false

-- the action asks for the help or the version
abbrev is_ask : ArgAction → Bool
is_ask action.Help = true
is_ask action.HelpShort = true
is_ask action.HelpLong = true
is_ask action.Version = true
is_ask _ = false

-- the rule takes a value at each use, or asks for the help or the version
abbrev is_usual : Rule → Bool
is_usual a = (is_set (action_of a) && nat_lt 0 (unwrap_or_range a.range).start_inclusive) || is_ask (action_of a)

-- a rule among others: no other has its name, and it has no default
pub record IsUsual (c : List Rule) (a : Rule) : Type 0 where
  pub first : arg_by_id c a.id ≡ Some a
  pub usual : is_usual a ≡ true
  pub bare : a.defaults ≡ []

-- the row has values that the rule takes
pub record Fits (a : Rule) (r : Row) : Type 0 where
  pub some : 0 < length r.values
  pub good : values_fault a r.values ≡ []
  pub reading : r.reading ≡ reading_by a

abbrev pub RowFits : List Rule → Row → Type 0
RowFits c r = (a : Rule) → arg_by_id c r.id ≡ Some a → Fits a r

abbrev pub Sound : List Rule → List Row → Type 0
Sound c rows = Each (RowFits c) rows

sound_both : (c : List Rule) (xs ys : List Row) → Sound c xs → Sound c ys → Sound c (xs ++ ys)
sound_both c [] ys h k = k
sound_both c (x ∷ xs) ys h k = (h.0, sound_both c xs ys h.1 k)

-- one row changed, or one more
row_changed : (c : List Rule) (id : Text) (change : Row → List Row) (missing rows : List Row)
    → ((r : Row) → r.id ≡ id → RowFits c r → Sound c (change r)) → Sound c missing → Sound c rows
    → Sound c (at_row id change missing rows)
row_changed c id change missing [] changes more h = more
row_changed c id change missing (r ∷ rs) changes more h =
    go (bytes_eq r.id id) refl (row_changed c id change missing rs changes more h.1)
  where
    go : (b : Bool) → bytes_eq r.id id ≡ b → Sound c (at_row id change missing rs)
        → Sound c (cond b (change r ++ rs) (r ∷ at_row id change missing rs))
    go true same others = sound_both c (change r) rs (changes r ((bytes_eq-Decides r.id id).0 same) h.0) h.1
    go false other others = (h.0, others)

same_some : {X : Type 0} (x y : X) → Some x ≡ Some y → x ≡ y
same_some x y e = cc

-- a use with good values
set_sound : (c : List Rule) (a : Rule) (v : Text) (vs : List Text) (rows : List Row) → arg_by_id c a.id ≡ Some a
    → values_fault a (v ∷ vs) ≡ [] → Sound c rows
    → Sound c (with_values a.id (reading_by a) CommandLine (v ∷ vs) (without a.id rows))
set_sound c a v vs rows first good h =
    row_changed c a.id (more_values CommandLine (v ∷ vs)) _ (without a.id rows)
    (λ r same fits. (
      λ b found.
          let is_a : a ≡ b = same_some a b (sym first ∙ (ap (arg_by_id c) (sym same) ∙ found)) in
          let old = fits b found in
          let fresh : values_fault b (v ∷ vs) ≡ [] = subst (λ (x : Rule). values_fault x (v ∷ vs) ≡ []) is_a good in
          record {
            some = omega (arith, old.some, length-append r.values (v ∷ vs));
            good = values_more b.ignore_case (parser_of_value b.parser) r.values (v ∷ vs) old.good fresh;
            reading = old.reading;
          },
      tt,
    )) (
      (λ b found.
          let is_a : a ≡ b = same_some a b (sym first ∙ found) in
          record {
            some = omega arith;
            good = subst (λ (x : Rule). values_fault x (v ∷ vs) ≡ []) is_a good;
            reading = ap reading_by is_a;
          }),
      tt,
    )
    (row_changed c a.id (λ _. []) [] rows (λ r same fits. tt) tt h)

-- a use that takes at least one value has one
some_value : (least most : ℕ) (values : List Text) → nat_lt 0 least ≡ true → range_kinds least most (length values) ≡ []
    → 0 < length values
some_value least most [] low h =
    let bad : range_kinds least most 0 ≡ InvalidValue ∷ [] = rw low refl in
    cc
some_value least most (v ∷ vs) low h = omega arith

both_true : (a b : Bool) → (a && b) ≡ true → (a ≡ true) × (b ≡ true)
both_true true true h = (refl, refl)
both_true true false h = (refl, h)
both_true false b h = cc

one_true : (a b : Bool) → (a || b) ≡ true → (a ≡ true) ⊎ (b ≡ true)
one_true true b h = inl refl
one_true false b h = inr h

-- one use of a rule
pub use_sound : (c : List Rule) (again : Bool) (a : Rule) (values : List Text) (rows : List Row) → IsUsual c a
    → use_fault again a values rows ≡ [] → Sound c rows → Sound c (used a values rows)
use_sound c again a values rows is h sound =
    let parts = both_empty (range_kinds (unwrap_or_range a.range).start_inclusive (most_values a) (length values))
    (action_fault (action_of a) again a (values_or_missing a values) rows) h in
    elim (one_true (is_set (action_of a) && nat_lt 0 (unwrap_or_range a.range).start_inclusive) (is_ask (action_of a))
    is.usual) [
      | inl set ↦
          let both = both_true (is_set (action_of a)) (nat_lt 0 (unwrap_or_range a.range).start_inclusive) set in
          by_set (action_of a) values both.0 (some_value _ _ values both.1 parts.0) parts.1
      | inr ask ↦ by_ask (action_of a) ask
    ]
  where
    by_set : (x : ArgAction) (vs : List Text) → is_set x ≡ true → 0 < length vs
        → action_fault x again a (values_or_missing a vs) rows ≡ []
        → Sound c (used_as x a.id (reading_by a) (values_or_missing a vs) rows)
    by_set action.Set [] set some k = absurd (omega (arith, some))
    by_set action.Set (v ∷ vs) set some k =
        set_sound c a v vs rows is.first (both_empty _ (values_fault a (v ∷ vs)) k).1 sound
    by_set action.Append vs set some k = cc
    by_set action.SetTrue vs set some k = cc
    by_set action.SetFalse vs set some k = cc
    by_set action.Count vs set some k = cc
    by_set action.Help vs set some k = cc
    by_set action.HelpShort vs set some k = cc
    by_set action.HelpLong vs set some k = cc
    by_set action.Version vs set some k = cc

    by_ask : (x : ArgAction) → is_ask x ≡ true
        → Sound c (used_as x a.id (reading_by a) (values_or_missing a values) rows)
    by_ask action.Set ask = cc
    by_ask action.Append ask = cc
    by_ask action.SetTrue ask = cc
    by_ask action.SetFalse ask = cc
    by_ask action.Count ask = cc
    by_ask action.Help ask = sound
    by_ask action.HelpShort ask = sound
    by_ask action.HelpLong ask = sound
    by_ask action.Version ask = sound
