-- Where clap takes the words, what stands there is a line, but for the port 0.
use Rattle.std.proofs.Common.{◌≡◌, ℕ, ◌<◌, ◌≤◌, ◌&&◌, ◌||◌, Bool, true, false, not, zero, suc, List, [], ◌∷◌, Option}
use Rattle.std.proofs.Common.{Some, None, cond, refl, sym, ap, ◌∙◌, subst, arith, drop, inl, inr, length}
use Rattle.std.specs.Prelude.{◌⊎◌, find, is_some, slice_get, codes, pos, unwrap_or, option_map, option_and_then}
use Rattle.std.specs.List.{list_any}
use Rattle.std.specs.Option.{option_map_or}
use Rattle.std.specs.Str.{bytes_eq}
use Rattle.std.specs.Str.Parse.{IsNumeral, digits_value, starts_with_minus, without_leading_plus}
use Rattle.std.proofs.Common.{◌==◌}
use Rattle.std.proofs.lemmas.Bool.{ne_eqb}
use Rattle.std.proofs.lemmas.Int.{ints}
use Rattle.std.proofs.lemmas.Slice.Eq.{bytes_eq-Decides}
use Rattle.std.proofs.lemmas.Str.Parse.{digit_from_value}
use Rattle.clap.specs.Lexer.{without_minus}
use Rattle.clap.specs.Facts.{explicit_source, parser_of_value}
use Rattle.clap.specs.Values.{IsSignedIn, IsUnsignedIn, read_as, refused_kind}
use Rattle.clap.specs.ValueTests.{accepts}
use Rattle.clap.specs.Kinds.{check_kinds, value_kinds, values_kinds}
use Rattle.clap.specs.Faults.{entered_fault, fault_of, level_fault}
use Rattle.clap.specs.Takes.{is_given}
use Rattle.clap.specs.Walk.{Row, Rule, Text, answers_to, arg_by_id, first_of, nothing_held, one_of, reading_by}
use Rattle.clap.specs.Walk.{row_text, rows_after, stop_after}
use Rattle.clap.specs.Simple.{Shape, argument_words, built, built_leaf, entered, inherited, label_of, marked_built}
use Rattle.clap.specs.Simple.{names_of, rows_at, subcommand_of, with_leaf_noted}
use Rattle.clap.proofs.ValueTestLemmas.{accepts-Accepts}
use Rattle.clap.specs.declared.builder.value_parser.ValueParser.{ValueParser}
use Rattle.clap.specs.declared.builder.value_parser.ValueParser.TheVariants.{Signed, Unsigned}
use Rattle.cue_command_line.specs.Lines.{HasPortZero, IsNumberIn, cuectl_app, form_app, script_app, serve_app, show_app}
use Rattle.cue_command_line.specs.Unread.{IsNoLine, LacksPort}
use Rattle.cue_command_line.proofs.ClapRowLemmas.{Each, Fits, IsUsual, RowFits, Sound, both_empty, each_found}
use Rattle.cue_command_line.proofs.ClapWalkLemmas.{IsNoHelp, taken}

-- ---- what a required argument has

-- the last check has nothing to say
none_wanted : (a b c : Bool) → check_kinds a b c ≡ [] → c ≡ false
none_wanted true b c h = cc
none_wanted false true c h = cc
none_wanted false false true h = cc
none_wanted false false false h = refl

given_each : (rows : List Row) (xs : List Rule) → list_any (λ a. a.required && not (is_given a.id rows)) xs ≡ false
    → Each (λ a. a.required ≡ true → is_given a.id rows ≡ true) xs
given_each rows [] h = tt
given_each rows (a ∷ more) h = go a.required (is_given a.id rows) h (given_each rows more)
  where
    go : (r g : Bool) → ((r && not g) || list_any (λ a. a.required && not (is_given a.id rows)) more) ≡ false
        → (list_any (λ a. a.required && not (is_given a.id rows)) more ≡ false
        → Each (λ a. a.required ≡ true → is_given a.id rows ≡ true) more)
        → (r ≡ true → g ≡ true) × Each (λ a. a.required ≡ true → is_given a.id rows ≡ true) more
    go true true k others = (λ e. refl, others k)
    go true false k others = cc
    go false g k others = (λ e. cc, others k)

-- the row of an argument that was given
pub row_of_given : (c : List Rule) (a : Rule) (rows : List Row) → IsUsual c a → Sound c rows → is_given a.id rows ≡ true
    → (r : Row) × (find (λ r. bytes_eq r.id a.id) rows ≡ Some r) × Fits a r
row_of_given c a rows usual sound given = go (find (λ r. bytes_eq r.id a.id) rows) refl given
  where
    go : (o : Option Row) → find (λ r. bytes_eq r.id a.id) rows ≡ o
        → option_map_or (λ r. explicit_source r.source) o false ≡ true
        → (r : Row) × (find (λ r. bytes_eq r.id a.id) rows ≡ Some r) × Fits a r
    go None e k = cc
    go (Some r) e k =
        let found = each_found (RowFits c) (λ (x : Row). bytes_eq x.id a.id) rows r sound e in
        let same : r.id ≡ a.id = (bytes_eq-Decides r.id a.id).0 found.1 in
        (r, e, found.0 a (ap (arg_by_id c) same ∙ usual.first))

-- its first value
pub first_there : (a : Rule) (rows : List Row) → ((r : Row) × (find (λ r. bytes_eq r.id a.id) rows ≡ Some r) × Fits a r)
    → first_of a.id rows ≡ None → ⊥
first_there a rows h none =
    let there : first_of a.id rows ≡ slice_get h.0.values 0 =
    ap (option_and_then (λ (r : Row). slice_get r.values 0)) h.1 in
    go h.0.values h.2.some (sym there ∙ none)
  where
    go : (values : List Text) → 0 < length values → slice_get values 0 ≡ None → ⊥
    go [] some e = absurd (omega (arith, some))
    go (v ∷ vs) some e = cc

value_good : (i : Bool) (p : ValueParser) (v : Text) → value_kinds i p v ≡ [] → accepts i p v ≡ true
value_good i p v h = go (accepts i p v) h
  where
    go : (b : Bool) → cond b [] (refused_kind p ∷ []) ≡ [] → b ≡ true
    go true k = refl
    go false k = cc

-- the text that a number is read from passed the parser
pub text_there : (a : Rule) (rows : List Row) → ((r : Row) × (find (λ r. bytes_eq r.id a.id) rows ≡ Some r) × Fits a r)
    → (v : Text) × (one_of a.id rows ≡ Some (read_as (reading_by a) v))
    × (accepts a.ignore_case (parser_of_value a.parser) v ≡ true)
text_there a rows h =
    let there : one_of a.id rows ≡ option_map (read_as h.0.reading) (slice_get h.0.values 0) =
    ap (option_and_then row_text) h.1 in
    go h.0.values h.2.some h.2.good (there ∙ ap (λ how. option_map (read_as how) (slice_get h.0.values 0)) h.2.reading)
  where
    go : (values : List Text) → 0 < length values → values_kinds a.ignore_case (parser_of_value a.parser) values ≡ []
        → one_of a.id rows ≡ option_map (read_as (reading_by a)) (slice_get values 0)
        → (v : Text) × (one_of a.id rows ≡ Some (read_as (reading_by a) v))
        × (accepts a.ignore_case (parser_of_value a.parser) v ≡ true)
    go [] some good is = absurd (omega (arith, some))
    go (v ∷ vs) some good is = (
      v,
      is,
      value_good a.ignore_case (parser_of_value a.parser) v
          (both_empty _ (values_kinds a.ignore_case (parser_of_value a.parser) vs) good).0,
    )

-- ---- numbers

without_minus-cond : (t : List ℕ) → without_minus t ≡ cond (starts_with_minus t) (drop 1 t) t
without_minus-cond [] = refl
without_minus-cond (x ∷ xs) = go (x == 45)
  where
    go : (b : Bool) → unwrap_or (cond b (Some xs) None) (x ∷ xs) ≡ cond b xs (x ∷ xs)
    go true = refl
    go false = refl

no_plus : (ds : List ℕ) → IsNumeral 10 ds → without_leading_plus ds ≡ ds
no_plus [] h = refl
no_plus (d ∷ ds) h =
    let plus : (d == 43) ≡ false = ne_eqb _ _ (λ e. omega (arith, digit_from_value d h.1.0)) in
    ap (λ (b : Bool). drop (cond b 1 0) (d ∷ ds)) plus

-- a text that passed a range from 0 on is a numeral in it, read without its minus
signed_number : (high : ℕ) (t : Text) → IsSignedIn (pos 0) (pos high) t
    → IsNumeral 10 (without_leading_plus (without_minus t))
    × (digits_value 10 (without_leading_plus (without_minus t)) ≤ high)
signed_number high t passed =
    subst (λ (u : List ℕ). IsNumeral 10 (without_leading_plus u) × (digits_value 10 (without_leading_plus u) ≤ high))
    (sym (without_minus-cond t)) (go (starts_with_minus t) refl)
  where
    go : (b : Bool) → starts_with_minus t ≡ b → IsNumeral 10 (without_leading_plus (cond b (drop 1 t) t))
        × (digits_value 10 (without_leading_plus (cond b (drop 1 t) t)) ≤ high)
    go true minus =
        let low_ok = rw minus at passed.2 in
        let numeral : IsNumeral 10 (drop 1 t) = rw minus at passed.0 in
        let same = no_plus (drop 1 t) numeral in
        rw same (numeral, omega (arith, ints))
    go false minus =
        let high_ok = rw minus at passed.3 in
        let numeral = rw minus at passed.0 in
        (numeral, omega (arith, ints))

-- ---- the commands, as they are built

abbrev above : Shape
above = with_leaf_noted (marked_built cuectl_app.top)

abbrev leaf_of : Shape → Shape
leaf_of s = built_leaf (inherited above s)

-- what clap found for a command is a line, or has the port 0
record IsLeaf (s : Shape) : Type 0 where
  usual : Each (IsUsual s.rules) s.rules
  line : (rows : List Row) → Sound s.rules rows → Each (λ a. a.required ≡ true → is_given a.id rows ≡ true) s.rules
      → IsNoLine (s.name, rows) → HasPortZero (Some (s.name, rows))

form_usual : Each (IsUsual (leaf_of form_app.top).rules) (leaf_of form_app.top).rules
form_usual = (
  record { first = refl; usual = refl; bare = refl },
  (record { first = refl; usual = refl; bare = refl }, tt),
)

serve_usual : Each (IsUsual (leaf_of serve_app.top).rules) (leaf_of serve_app.top).rules
serve_usual = (
  record { first = refl; usual = refl; bare = refl },
  (
    record { first = refl; usual = refl; bare = refl },
    (record { first = refl; usual = refl; bare = refl }, (record { first = refl; usual = refl; bare = refl }, tt)),
  ),
)

show_usual : Each (IsUsual (leaf_of show_app.top).rules) (leaf_of show_app.top).rules
show_usual = (
  record { first = refl; usual = refl; bare = refl },
  (record { first = refl; usual = refl; bare = refl }, tt),
)

script_usual : Each (IsUsual (leaf_of script_app.top).rules) (leaf_of script_app.top).rules
script_usual = (record { first = refl; usual = refl; bare = refl }, tt)

top_usual : Each (IsUsual (built cuectl_app).top.rules) (built cuectl_app).top.rules
top_usual = (
  record { first = refl; usual = refl; bare = refl },
  (record { first = refl; usual = refl; bare = refl }, tt),
)

form_leaf : IsLeaf (leaf_of form_app.top)
form_leaf = record {
  usual = form_usual;
  line = λ rows sound given unread. absurd (first_there _ rows (row_of_given _ _ rows form_usual.0 sound (given.0 refl))
      (unread.form refl));
}

show_leaf : IsLeaf (leaf_of show_app.top)
show_leaf = record {
  usual = show_usual;
  line = λ rows sound given unread. absurd (first_there _ rows (row_of_given _ _ rows show_usual.0 sound (given.0 refl))
      (unread.show refl));
}

script_leaf : IsLeaf (leaf_of script_app.top)
script_leaf = record { usual = script_usual; line = λ rows sound given unread. absurd (unread.script refl) }

port_zero : (rows : List Row) (n : ℕ) → IsNumberIn (codes "port") rows n → n ≤ 65535 → LacksPort rows
    → IsNumberIn (codes "port") rows 0
port_zero rows zero is low lacks = is
port_zero rows (suc n) is low lacks = absurd (lacks (suc n) (is, omega arith, omega (arith, low)))

serve_leaf : IsLeaf (leaf_of serve_app.top)
serve_leaf = record { usual = serve_usual; line = serve_line }
  where
    serve_line : (rows : List Row) → Sound (leaf_of serve_app.top).rules rows
        → Each (λ a. a.required ≡ true → is_given a.id rows ≡ true) (leaf_of serve_app.top).rules
        → IsNoLine (codes "serve", rows) → HasPortZero (Some (codes "serve", rows))
    serve_line rows sound given unread = elim (unread.serve refl) [
      | inl dir ↦ absurd (first_there _ rows (row_of_given _ _ rows serve_usual.0 sound (given.0 refl)) dir)
      | inr (inl lacks) ↦
          let text = text_there _ rows (row_of_given _ _ rows serve_usual.1.0 sound (given.1.0 refl)) in
          let number =
          signed_number 65535 text.0 (accepts-Accepts false (Signed (pos 0) (pos 65535)) text.0 text.2) in (
            refl,
            port_zero rows _ (record {
              text = without_minus text.0;
              stands = text.1;
              numeral = number.0;
              value =
                  refl;
            }) number.1 lacks,
          )
      | inr (inr lacks) ↦
          let text = text_there _ rows (row_of_given _ _ rows serve_usual.1.1.0 sound (given.1.1.0 refl)) in
          let number : IsUnsignedIn 0 18446744073709551615 text.0 =
          accepts-Accepts false (Unsigned 0 18446744073709551615) text.0 text.2 in
          absurd (lacks _ (record { text = text.0; stands = text.1; numeral = number.0; value = refl }, number.1))
    ]

-- a subcommand of the program is one of the four, or `help`
abbrev Known : Shape → Type 0
Known s = IsLeaf s ⊎ (label_of s ≡ (codes "help", []))

each_known : Each Known (built cuectl_app).subs
each_known = (inl form_leaf, (inl serve_leaf, (inl show_leaf, (inl script_leaf, (inr refl, tt)))))

not_given : (negates x : Bool) → (not (negates && false) && x) ≡ false → x ≡ false
not_given true x h = h
not_given false x h = h

-- where clap takes the words, what they name is a line, but for the port 0
pub but_port_zero : (words : List Text) (found : Text × List Row) → fault_of cuectl_app words ≡ []
    → subcommand_of cuectl_app words ≡ Some found → IsNoLine found → HasPortZero (Some found)
but_port_zero words found e is unread =
    let stop = stop_after (built cuectl_app).top.rules (names_of (built cuectl_app))
    (argument_words cuectl_app words) in
    let top = taken (built cuectl_app).top (names_of (built cuectl_app)) (argument_words cuectl_app words)
    (is_some (entered (built cuectl_app) stop)) (entered_fault (built cuectl_app) stop) top_usual e in
    go stop (top.stopped refl) top.none_below is
  where
    by_help : (s : Shape) (p : Text × List Text) → label_of s ≡ (codes "help", []) → answers_to p.0 (label_of s) ≡ true
        → bytes_eq p.0 (codes "help") ≡ false → ⊥
    by_help s p is answers no_help =
        twice (bytes_eq (codes "help") p.0) refl (subst (λ (l : Text × List Text). answers_to p.0 l ≡ true) is answers)
      where
        twice : (b : Bool) → bytes_eq (codes "help") p.0 ≡ b → (b || false) ≡ true → ⊥
        twice true same k =
            let is_help : codes "help" ≡ p.0 = (bytes_eq-Decides (codes "help") p.0).0 same in
            let equal : bytes_eq p.0 (codes "help") ≡ true = (bytes_eq-Decides p.0 (codes "help")).1 (sym is_help) in
            let bad : true ≡ false = sym equal ∙ no_help in
            cc
        twice false same k = cc

    by_sub : (p : Text × List Text) (o : Option Shape)
        → find (λ s. answers_to p.0 (label_of s)) (built cuectl_app).subs ≡ o → bytes_eq p.0 (codes "help") ≡ false
        → option_map_or (λ s. level_fault s [] nothing_held p.1 false []) o [] ≡ []
        → option_map (λ s. rows_at s p.1) o ≡ Some found → HasPortZero (Some found)
    by_sub p None among no_help k same = cc
    by_sub p (Some s) among no_help k same =
        let known = each_found Known (λ (x : Shape). answers_to p.0 (label_of x)) (built cuectl_app).subs s each_known
        among in
        let same_found : rows_at s p.1 ≡ found = cc in
        elim known.0 [
          | inl leaf ↦
              let level = taken s [] p.1 false [] leaf.usual k in
              let given = given_each (rows_after s.rules [] p.1) s.rules
              (not_given s.subcommand_negates_reqs _ (none_wanted _ _ _ level.checked)) in
              subst (λ (f : Text × List Row). HasPortZero (Some f)) same_found
              (leaf.line (rows_after s.rules [] p.1) level.rows given (subst IsNoLine (sym same_found) unread))
          | inr help ↦ absurd (by_help s p help known.1 no_help)
        ]

    go : (o : Option (Text × List Text)) → IsNoHelp o → entered_fault (built cuectl_app) o ≡ []
        → entered (built cuectl_app) o ≡ Some found → HasPortZero (Some found)
    go None no_help k same = cc
    go (Some p) no_help k same = by_sub p (find (λ s. answers_to p.0 (label_of s)) (built cuectl_app).subs) refl no_help
        k same
