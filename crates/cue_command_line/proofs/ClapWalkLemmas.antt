-- What clap found where it takes the words: each row has values that its rule takes.
use Rattle.std.proofs.Common.{◌≡◌, ℕ, ◌&&◌, Bool, true, false, zero, suc, List, [], ◌∷◌, length, Option, Some, None}
use Rattle.std.proofs.Common.{cond, refl, sym, ap, ◌∙◌, subst, drop}
use Rattle.std.specs.Prelude.{is_some, fold, slice_get, codes, encode_utf8}
use Rattle.std.specs.Option.{option_map_or}
use Rattle.std.specs.Str.{bytes_eq, chars}
use Rattle.clap.specs.Lexer.{long_of, short_of}
use Rattle.clap.specs.Walk.{Held, Names, default_rows, has_row, rows_after, stop_after, Outcome, Row, Rule, Step, Text}
use Rattle.clap.specs.Walk.{Waiting, Walk, arg_by_id, arg_by_index, arg_by_long, arg_by_short, attached_value}
use Rattle.clap.specs.Walk.{after_flag, after_step, bundle, bundle_met, bundle_step, done, finished, flag_met, idle}
use Rattle.clap.specs.Walk.{is_pending, long_met, long_or_other, next, nothing_held, option, option_met, option_word}
use Rattle.clap.specs.Walk.{plain, plain_word, positional, pushed, reacted, reading_by, refused, settled, settled_rows}
use Rattle.clap.specs.Walk.{short_met, short_or_plain, subcommand, subcommand_met, subcommand_or_other, takes_several}
use Rattle.clap.specs.Walk.{takes_values, to_positional, trailing, used_by_id, value, waits, walk, walk_from, walked}
use Rattle.clap.specs.Walk.{walked_from, with_default, word_met}
use Rattle.clap.specs.Kinds.{Kinds, or_else}
use Rattle.clap.specs.Faults.{check_fault, defaults_fault, level_fault, stray_fault, bundle_fault, bundle_step_fault}
use Rattle.clap.specs.Faults.{flag_word_fault, flags_fault, long_fault, option_fault, other_fault, positional_fault}
use Rattle.clap.specs.Faults.{react_fault, settle_fault, short_fault, step_fault, turn_fault, use_fault, walk_fault}
use Rattle.clap.specs.Faults.{word_fault}
use Rattle.clap.specs.Simple.{Shape}
use Rattle.cue_command_line.proofs.ClapRowLemmas.{Each, IsUsual, Sound, both_empty, each_found, use_sound}
use Rattle.clap.specs.declared.error.kind.ErrorKind.TheVariants.{DisplayHelp, InvalidSubcommand, TooManyValues}

-- ---- one step

module _ (c : List Rule) (again : Bool) (usual : Each (IsUsual c) c) where
  -- what is pending is used
  settle_sound : (h : Held) → settle_fault c again h ≡ [] → Sound c h.rows → Sound c (settled c h).rows
  settle_sound h e sound = go h.pending e
    where
      by_id : (o : Option Rule) (values : List Text) → ((a : Rule) → o ≡ Some a → IsUsual c a)
          → option_map_or (λ a. use_fault again a values h.rows) o [] ≡ [] → Sound c (used_by_id o values h.rows)
      by_id None values is k = sound
      by_id (Some a) values is k = use_sound c again a values h.rows (is a refl) k sound

      go : (p : Option (Text × List Text))
          → option_map_or (λ p. option_map_or (λ a. use_fault again a p.1 h.rows) (arg_by_id c p.0) []) p [] ≡ []
          → Sound c (settled_rows c p h.rows)
      go None k = sound
      go (Some p) k = by_id (arg_by_id c p.0) p.1 (λ a found. (each_found (IsUsual c) _ c a usual found).0) k

  -- what is pending is used, and then this
  react_sound : (a : Rule) (values : List Text) (h : Held) → IsUsual c a → react_fault c again a values h ≡ []
      → Sound c h.rows → Sound c (reacted c a values h).rows
  react_sound a values h is e sound =
      let parts = both_empty (settle_fault c again h) (use_fault again a values (settled c h).rows) e in
      use_sound c again a values (settled c h).rows is parts.1 (settle_sound h parts.0 sound)

  option_sound : (a : Rule) (v : Option Text) (h : Held) → IsUsual c a → option_fault c again a v h ≡ []
      → Sound c h.rows → Sound c (option_met c a v h).0.rows
  option_sound a (Some v) h is e sound = react_sound a (v ∷ []) h is e sound
  option_sound a None h is e sound = settle_sound h e sound

  long_sound : (o : Option Rule) (v : Option Text) (h : Held) → ((a : Rule) → o ≡ Some a → IsUsual c a)
      → long_fault c again o v h ≡ [] → Sound c h.rows → Sound c (long_met c o v h).0.rows
  long_sound None v h is e sound = sound
  long_sound (Some a) v h is e sound = go (takes_values a) v e
    where
      go : (b : Bool) (v : Option Text)
          → cond b (option_fault c again a v h) (cond (is_some v) (TooManyValues ∷ []) (react_fault c again a [] h))
          ≡ []
          → Sound c (cond b (option_met c a v h) (flag_met c a v h)).0.rows
      go true v k = option_sound a v h (is a refl) k sound
      go false (Some v) k = sound
      go false None k = react_sound a [] h (is a refl) k sound

  short_sound : (o : Option Rule) (rest : Text) (h : Held) (next_fault : Held → Kinds) (next_met : Held
      → Held × Outcome) → ((a : Rule) → o ≡ Some a → IsUsual c a)
      → ((x : Held) → next_fault x ≡ [] → Sound c x.rows → Sound c (next_met x).0.rows)
      → short_fault c again o rest h next_fault ≡ [] → Sound c h.rows → Sound c (short_met c o rest h next_met).0.rows
  short_sound None rest h next_fault next_met is others e sound = sound
  short_sound (Some a) rest h next_fault next_met is others e sound = go (takes_values a) e
    where
      go : (b : Bool) → cond b (option_fault c again a (attached_value rest) h)
          (or_else (react_fault c again a [] h) (next_fault (reacted c a [] h))) ≡ []
          → Sound c (cond b (option_met c a (attached_value rest) h) (next_met (reacted c a [] h))).0.rows
      go true k = option_sound a (attached_value rest) h (is a refl) k sound
      go false k =
          let parts = both_empty (react_fault c again a [] h) (next_fault (reacted c a [] h)) k in
          others (reacted c a [] h) parts.1 (react_sound a [] h (is a refl) parts.0 sound)

  flags_sound : (k : ℕ) (flags : Text) (skip : ℕ) (so_far : Outcome) (h : Held)
      → flags_fault c again k flags skip h ≡ [] → Sound c h.rows → Sound c (bundle_met c k flags skip so_far h).0.rows
  unfolding flags_fault bundle_met
  flags_sound zero flags skip so_far h e sound = sound
  flags_sound (suc k) flags skip so_far h e sound = go (slice_get (chars flags) 0) skip e (flags_sound k)
    where
      go : (o : Option ℕ) (skip : ℕ) → bundle_step_fault c again o flags skip h (flags_fault c again k) ≡ []
          → ((flags : Text) (skip : ℕ) (so_far : Outcome) (h : Held) → flags_fault c again k flags skip h ≡ []
          → Sound c h.rows → Sound c (bundle_met c k flags skip so_far h).0.rows)
          → Sound c (bundle_step c o flags skip so_far h (bundle_met c k)).0.rows
      go None skip e others = sound
      go (Some x) zero e others =
          let rest = drop (length (encode_utf8 x)) flags in
          short_sound (arg_by_short c x) rest h (flags_fault c again k rest 0) (bundle_met c k rest 0 done)
          (λ a found. (each_found (IsUsual c) _ c a usual found).0)
          (λ y z w. others rest 0 done y z w) e sound
      go (Some x) (suc less) e others = others (drop (length (encode_utf8 x)) flags) less so_far h e sound

  -- a word that is no flag leaves the rows as they are
  plain_sound : (waiting : Waiting) (word : Text) (h : Held) → Sound c h.rows
      → Sound c (plain_word c waiting word h).0.rows
  plain_sound idle word h sound = sound
  plain_sound positional word h sound = sound
  plain_sound (option id) word h sound = go (arg_by_id c id)
    where
      go : (o : Option Rule) → Sound c (option_word o id word h).0.rows
      go None = sound
      go (Some a) = sound

  after_sound : (waiting : Waiting) (word : Text) (h : Held) (o : Outcome) → Sound c h.rows
      → Sound c (after_flag c waiting word h o).0.rows
  after_sound waiting word h done sound = sound
  after_sound waiting word h (waits id) sound = sound
  after_sound waiting word h plain sound = plain_sound waiting word h sound
  after_sound waiting word h refused sound = plain_sound waiting word h sound

  flag_word_sound : (o : Option (Text × Option Text)) (waiting : Waiting) (word : Text) (h : Held)
      → flag_word_fault c again o word h ≡ [] → Sound c h.rows → Sound c (long_or_other c waiting word o h).0.rows
  flag_word_sound (Some p) waiting word h e sound =
      after_sound waiting word (long_met c (arg_by_long c p.0) p.1 h).0 (long_met c (arg_by_long c p.0) p.1 h).1
      (long_sound (arg_by_long c p.0) p.1 h (λ a found. (each_found (IsUsual c) _ c a usual found).0) e sound)
  flag_word_sound None waiting word h e sound = go (short_of word) e
    where
      go : (o : Option Text) → option_map_or (λ flags. bundle_fault c again flags h) o [] ≡ []
          → Sound c (short_or_plain c waiting word o h).0.rows
      go None k = plain_sound waiting word h sound
      go (Some flags) k =
          after_sound waiting word (bundle c flags h).0 (bundle c flags h).1
          (flags_sound (length flags) flags h.skip plain (record h { skip = 0 }) k sound)

-- ---- the walk

-- the step is no subcommand
abbrev is_other : Step → Bool
is_other (subcommand name) = false
is_other _ = true

plain_other : (c : List Rule) (waiting : Waiting) (word : Text) (h : Held)
    → is_other (plain_word c waiting word h).1 ≡ true
plain_other c idle word h = refl
plain_other c positional word h = refl
plain_other c (option id) word h = refl

after_other : (c : List Rule) (waiting : Waiting) (word : Text) (h : Held) (o : Outcome)
    → is_other (after_flag c waiting word h o).1 ≡ true
after_other c waiting word h done = refl
after_other c waiting word h (waits id) = refl
after_other c waiting word h plain = plain_other c waiting word h
after_other c waiting word h refused = plain_other c waiting word h

flag_other : (c : List Rule) (o : Option (Text × Option Text)) (waiting : Waiting) (word : Text) (h : Held)
    → is_other (long_or_other c waiting word o h).1 ≡ true
flag_other c (Some p) waiting word h = after_other c waiting word _ _
flag_other c None waiting word h = go (short_of word)
  where
    go : (o : Option Text) → is_other (short_or_plain c waiting word o h).1 ≡ true
    go None = plain_other c waiting word h
    go (Some flags) = after_other c waiting word _ _

-- no walk stops at `help`
abbrev pub IsNoHelp : Option (Text × List Text) → Type 0
IsNoHelp None = Unit {0}
IsNoHelp (Some p) = bytes_eq p.0 (codes "help") ≡ false

-- what is held between two words
pub record Holds (s : Shape) (w : Walk) : Type 0 where
  pub rows : Sound s.rules w.held.rows
  pub stopped : s.disable_help_subcommand ≡ false → IsNoHelp w.stopped

module _ (s : Shape) (names : Names) (usual : Each (IsUsual s.rules) s.rules) where
  -- the word of a positional
  positional_sound : (position : ℕ) (word : Text) (w : Walk) (h : Held) → step_fault s position h value ≡ []
      → Sound s.rules h.rows → Sound s.rules (to_positional s.rules (arg_by_index s.rules position) word w h).held.rows
  positional_sound position word w h e sound = go (arg_by_index s.rules position) e
    where
      pick : (a : Rule) (b : Bool) → cond b [] (settle_fault s.rules s.args_override_self h) ≡ []
          → Sound s.rules (pushed a.id word (cond b h (settled s.rules h))).rows
      pick a true j = sound
      pick a false j = settle_sound s.rules s.args_override_self usual h j sound

      go : (o : Option Rule) → option_map_or (λ a. positional_fault s.rules s.args_override_self a h) o (stray_fault s)
          ≡ [] → Sound s.rules (to_positional s.rules o word w h).held.rows
      go None k = sound
      go (Some a) k = pick a (is_pending a h.pending && takes_several a) k

  -- a step that is no subcommand
  other_holds : (word : Text) (w : Walk) (h : Held) (step : Step)
      → (s.disable_help_subcommand ≡ false → IsNoHelp w.stopped) → is_other step ≡ true
      → step_fault s w.position h step ≡ [] → Sound s.rules h.rows → Holds s (after_step s.rules word w h step)
  other_holds word w h (next waiting) before other e sound = record { rows = sound; stopped = before }
  other_holds word w h (trailing position) before other e sound = record { rows = sound; stopped = before }
  other_holds word w h (subcommand name) before other e sound = cc
  other_holds word w h value before other e sound =
      record { rows = positional_sound w.position word w h e sound; stopped = stays (arg_by_index s.rules w.position) }
    where
      stays : (o : Option Rule) → s.disable_help_subcommand ≡ false
          → IsNoHelp (to_positional s.rules o word w h).stopped
      stays None = before
      stays (Some a) = λ enabled. tt

  -- one word more
  turn_holds : (w : Walk) (word : Text) → Holds s w → turn_fault s names w word ≡ []
      → Holds s (walked s.rules names w word)
  unfolding walked
  turn_holds w word holds e = go w.stopped holds.stopped e
    where
      no_help : (name : Text) (b : Bool) → bytes_eq name (codes "help") ≡ b → other_fault s (Some name) word w.held ≡ []
          → s.disable_help_subcommand ≡ false → bytes_eq name (codes "help") ≡ false
      no_help name false is k enabled = is
      no_help name true is k enabled =
          let bad : other_fault s (Some name) word w.held ≡ DisplayHelp ∷ InvalidSubcommand ∷ [] =
          rw (is, enabled) refl in
          let none : [] ≡ DisplayHelp ∷ InvalidSubcommand ∷ [] = sym k ∙ bad in
          cc

      by_mark : (b : Bool) → cond b [] (flag_word_fault s.rules s.args_override_self (long_of word) word w.held) ≡ []
          → step_fault s w.position
          (cond b (w.held, trailing w.position) (long_or_other s.rules w.waiting word (long_of word) w.held)).0
          (cond b (w.held, trailing w.position) (long_or_other s.rules w.waiting word (long_of word) w.held)).1 ≡ []
          → Holds s (after_step s.rules word w
          (cond b (w.held, trailing w.position) (long_or_other s.rules w.waiting word (long_of word) w.held)).0
          (cond b (w.held, trailing w.position) (long_or_other s.rules w.waiting word (long_of word) w.held)).1)
      by_mark true k step = other_holds word w w.held (trailing w.position) holds.stopped refl step holds.rows
      by_mark false k step =
          other_holds word w (long_or_other s.rules w.waiting word (long_of word) w.held).0
          (long_or_other s.rules w.waiting word (long_of word) w.held).1 holds.stopped
          (flag_other s.rules (long_of word) w.waiting word w.held) step
          (flag_word_sound s.rules s.args_override_self usual (long_of word) w.waiting word w.held k holds.rows)

      by_name : (o : Option Text) → other_fault s o word w.held ≡ []
          → step_fault s w.position (subcommand_or_other s.rules o w.waiting w.position word w.held).0
          (subcommand_or_other s.rules o w.waiting w.position word w.held).1 ≡ []
          → Holds s (after_step s.rules word w (subcommand_or_other s.rules o w.waiting w.position word w.held).0
          (subcommand_or_other s.rules o w.waiting w.position word w.held).1)
      by_name (Some name) k step =
          record { rows = holds.rows; stopped = no_help name (bytes_eq name (codes "help")) refl k }
      by_name None k step = by_mark (bytes_eq word (45 ∷ 45 ∷ [])) k step

      by_trail : (b : Bool) → cond b [] (other_fault s (subcommand_met names w.waiting word) word w.held) ≡ []
          → step_fault s w.position (word_met s.rules names b w.waiting w.position word w.held).0
          (word_met s.rules names b w.waiting w.position word w.held).1 ≡ []
          → Holds s (after_step s.rules word w (word_met s.rules names b w.waiting w.position word w.held).0
          (word_met s.rules names b w.waiting w.position word w.held).1)
      by_trail true k step = other_holds word w w.held value holds.stopped refl step holds.rows
      by_trail false k step = by_name (subcommand_met names w.waiting word) k step

      go : (o : Option (Text × List Text)) → (s.disable_help_subcommand ≡ false → IsNoHelp o)
          → cond (is_some o) [] (or_else (word_fault s names w.is_trailing w.waiting word w.held)
          (step_fault s w.position (word_met s.rules names w.is_trailing w.waiting w.position word w.held).0
          (word_met s.rules names w.is_trailing w.waiting w.position word w.held).1)) ≡ []
          → Holds s (walked_from s.rules names o w word)
      go (Some p) before k = record { rows = holds.rows; stopped = before }
      go None before k =
          let parts = both_empty (word_fault s names w.is_trailing w.waiting word w.held)
          (step_fault s w.position (word_met s.rules names w.is_trailing w.waiting w.position word w.held).0
          (word_met s.rules names w.is_trailing w.waiting w.position word w.held).1) k in
          by_trail w.is_trailing parts.0 parts.1

  -- all the words
  walk_holds : (words : List Text) (w : Walk) → Holds s w → walk_fault s names w words ≡ []
      → Holds s (fold (walked s.rules names) w words)
  unfolding walk_fault
  walk_holds [] w holds e = holds
  walk_holds (word ∷ rest) w holds e =
      let parts = both_empty (turn_fault s names w word) (walk_fault s names (walked s.rules names w word) rest) e in
      walk_holds rest (walked s.rules names w word) (turn_holds w word holds parts.0) parts.1

-- ---- one level

defaults_bare : (c : List Rule) (xs : List Rule) (rows : List Row) → Each (IsUsual c) xs
    → fold with_default rows xs ≡ rows
defaults_bare c [] rows usual = refl
defaults_bare c (a ∷ more) rows usual = ap (λ (r : List Row). fold with_default r more) (one (has_row a.id rows))
    ∙ defaults_bare c more rows usual.1
  where
    one : (b : Bool) → cond b rows (default_rows a.id (reading_by a) a.defaults rows) ≡ rows
    one true = refl
    one false = ap (λ (values : List Text). default_rows a.id (reading_by a) values rows) usual.0.bare

-- what clap holds of a level that it takes
pub record Taken (s : Shape) (names : Names) (words : List Text) (has : Bool) (below : Kinds) : Type 0 where
  pub rows : Sound s.rules (rows_after s.rules names words)
  pub checked : check_fault s (rows_after s.rules names words) has ≡ []
  pub stopped : s.disable_help_subcommand ≡ false → IsNoHelp (stop_after s.rules names words)
  pub none_below : below ≡ []

pub taken : (s : Shape) (names : Names) (words : List Text) (has : Bool) (below : Kinds)
    → Each (IsUsual s.rules) s.rules → level_fault s names nothing_held words has below ≡ []
    → Taken s names words has below
taken s names words has below usual e =
    let end = (walk s.rules names nothing_held words).held in
    let walked = both_empty (walk_fault s names (walk_from nothing_held) words) _ e in
    let under = both_empty below _ walked.1 in
    let settles = both_empty (settle_fault s.rules s.args_override_self end) _ under.1 in
    let defaults = both_empty (defaults_fault (settled s.rules end).rows s.rules)
    (check_fault s (finished s.rules end) has) settles.1 in
    let holds = walk_holds s names usual words (walk_from nothing_held) (record { rows = tt; stopped = λ enabled. tt })
    walked.0 in
    record {
      rows = subst (Sound s.rules) (sym (defaults_bare s.rules s.rules (settled s.rules end).rows usual))
          (settle_sound s.rules s.args_override_self usual end settles.0 holds.rows);
      checked = defaults.1;
      stopped = holds.stopped;
      none_below = under.0;
    }
