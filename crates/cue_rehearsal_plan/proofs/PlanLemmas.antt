-- Who is played, and which devices of a plan a show file does not have.
use Rattle.std.proofs.Common.{◌≡◌, ◌∙◌, ℕ, ◌==◌, Bool, true, false, not, ◌||◌, ◌⊎◌, if◌then◌else◌}
use Rattle.std.proofs.Common.{List, [], ◌∷◌, map, IsTrue, refl, sym, ap, inl, inr, ⊎_elim, subst}
use Rattle.std.specs.List.{list_all, list_any}
use Rattle.std.proofs.lemmas.Bool.{eqb-true, false≢true}
use Rattle.cue_rehearsal.specs.declared.plan.Plan.{Plan}
use Rattle.cue_rehearsal.specs.Plans.{is_among}
use Rattle.cue_rehearsal.specs.declared.manner.Behaviour.TheVariants.{Plays, Silent, Refuses, Fails}
use Rattle.cue_rehearsal_plan.specs.Laws.{EachIsPlayed, EachUnknownIsNamed, NobodyElseIsPlayed, OnlyUnknownIsNamed}
use Rattle.cue_rehearsal_plan.specs.Laws.{UnknownIsNamedOnce, UnnamedPlays, are_single}
use Rattle.cue_rehearsal_plan.specs.Roles.{role_of}
use Rattle.cue_rehearsal_plan.specs.Unknown.{all_noted, has_device, noted, with_last}
use Rattle.cue_show.proofs.TestLemmas.{both, cases, join, neither, not_so, or_left, or_right, same_self}
use Rattle.cue_show_file.proofs.ReadingLemmas.{checked-is_said}
use Rattle.cue_show_file.specs.Reading.{devices_of}
use Rattle.cue_show_file.specs.declared.file.DeviceEntry.{DeviceEntry}
use Rattle.cue_show_file.specs.declared.file.ShowFile.{ShowFile}

-- ---- who is played

ports-roles : (p : Plan) (es : List DeviceEntry)
    → map (λ r. (r.device, r.address.port)) (map (role_of p) es) ≡ devices_of es
ports-roles p [] = refl
ports-roles p (e ∷ es) = ap (λ l. (e.number, e.port) ∷ l) (ports-roles p es)

pub each-is_played : EachIsPlayed
each-is_played file p s e = ports-roles p file.devices.items ∙ ap (λ t. t.0) (checked-is_said file s e)

-- entries that are among all of them
known-roles : (p : Plan) (all es : List DeviceEntry)
    → ((d : ℕ) → IsTrue (list_any (λ e. e.number == d) es) → IsTrue (list_any (λ e. e.number == d) all))
    → IsTrue (list_all (λ r. list_any (λ e. e.number == r.device) all) (map (role_of p) es))
known-roles p all [] within = refl
known-roles p all (e ∷ es) within =
    join (list_any (λ x. x.number == e.number) all)
    (list_all (λ r. list_any (λ x. x.number == r.device) all) (map (role_of p) es))
    (within e.number
    (or_left (e.number == e.number) (list_any (λ x. x.number == e.number) es) (same_self e.number)))
    (known-roles p all es
    (λ d h. within d (or_right (e.number == d) (list_any (λ x. x.number == d) es) h)))

pub nobody-else : NobodyElseIsPlayed
nobody-else file p = known-roles p file.devices.items file.devices.items (λ d h. h)

plays_by : (s r f : Bool) → (s || (r || f)) ≡ false
    → (if s then Silent else (if r then Refuses else (if f then Fails else Plays))) ≡ Plays
plays_by true r f h = cc
plays_by false true f h = cc
plays_by false false true h = cc
plays_by false false false h = refl

pub unnamed-plays : UnnamedPlays
unnamed-plays p d h =
    plays_by (is_among d p.silent.items) (is_among d p.refuses.items) (is_among d p.fails.items) h

-- ---- what is among the devices that were noted

among-with : (d x : ℕ) (xs : List ℕ) → is_among d (with_last xs x) ≡ (is_among d xs || (x == d))
among-with d x [] = at (x == d)
  where
    at : (b : Bool) → (b || false) ≡ b
    at true = refl
    at false = refl
among-with d x (y ∷ ys) = ap (λ b. (y == d) || b) (among-with d x ys) ∙ at (y == d) (is_among d ys) (x == d)
  where
    at : (a b c : Bool) → (a || (b || c)) ≡ ((a || b) || c)
    at true b c = refl
    at false b c = refl

-- none is lost
noted-keeps : (file : ShowFile) (found : List ℕ) (x d : ℕ) → IsTrue (is_among d found)
    → IsTrue (is_among d (noted file found x))
noted-keeps file found x d h = at (has_device file x || is_among x found)
  where
    at : (b : Bool) → IsTrue (is_among d (if b then found else with_last found x))
    at true = h
    at false = among-with d x found ∙ or_left (is_among d found) (x == d) h

all-keeps : (file : ShowFile) (found ds : List ℕ) (d : ℕ) → IsTrue (is_among d found)
    → IsTrue (is_among d (all_noted file found ds))
all-keeps file found [] d h = h
all-keeps file found (x ∷ xs) d h = all-keeps file (noted file found x) xs d (noted-keeps file found x d h)

-- one that the file does not have is noted
noted-has : (file : ShowFile) (found : List ℕ) (d : ℕ) → has_device file d ≡ false
    → IsTrue (is_among d (noted file found d))
noted-has file found d none = at (has_device file d) (is_among d found) refl none
  where
    at : (a b : Bool) → is_among d found ≡ b → a ≡ false
        → IsTrue (is_among d (if a || b then found else with_last found d))
    at true b e h = cc
    at false true e h = e
    at false false e h = among-with d d found ∙ or_right (is_among d found) (d == d) (same_self d)

all-have : (file : ShowFile) (found ds : List ℕ) (d : ℕ) → has_device file d ≡ false → IsTrue (is_among d ds)
    → IsTrue (is_among d (all_noted file found ds))
all-have file found [] d none h = cc
all-have file found (x ∷ xs) d none h =
    at (x == d) refl h (λ g. all-have file (noted file found x) xs d none g)
  where
    at : (b : Bool) → (x == d) ≡ b → IsTrue (b || is_among d xs)
        → (IsTrue (is_among d xs) → IsTrue (is_among d (all_noted file (noted file found x) xs)))
        → IsTrue (is_among d (all_noted file (noted file found x) xs))
    at true e g more =
        all-keeps file (noted file found x) xs d
        (subst (λ n. IsTrue (is_among d (noted file found n))) (sym (eqb-true x d e)) (noted-has file found d none))
    at false e g more = more g

-- nothing else is
noted-only : (file : ShowFile) (found : List ℕ) (x d : ℕ) → IsTrue (is_among d (noted file found x))
    → IsTrue (is_among d found) ⊎ (IsTrue (x == d) × (has_device file d ≡ false))
noted-only file found x d h = at (has_device file x) (is_among x found) refl h
  where
    last : has_device file x ≡ false → (b : Bool) → (x == d) ≡ b → IsTrue (is_among d found || b)
        → IsTrue (is_among d found) ⊎ (IsTrue b × (has_device file d ≡ false))
    last none true e g = inr (refl, ap (has_device file) (sym (eqb-true x d e)) ∙ none)
    last none false e g = ⊎_elim (λ k. inl k) (λ k. absurd (false≢true (sym (off (is_among d found) k) ∙ g)))
        (cases (is_among d found))
      where
        off : (a : Bool) → a ≡ false → (a || false) ≡ false
        off true k = cc
        off false k = refl

    at : (a b : Bool) → has_device file x ≡ a → IsTrue (is_among d (if a || b then found else with_last found x))
        → IsTrue (is_among d found) ⊎ (IsTrue (x == d) × (has_device file d ≡ false))
    at true b e g = inl g
    at false true e g = inl g
    at false false e g = last e (x == d) refl (sym (among-with d x found) ∙ g)

all-only : (file : ShowFile) (found ds : List ℕ) (d : ℕ) → IsTrue (is_among d (all_noted file found ds))
    → IsTrue (is_among d found) ⊎ (IsTrue (is_among d ds) × (has_device file d ≡ false))
all-only file found [] d h = inl h
all-only file found (x ∷ xs) d h =
    ⊎_elim (λ k. first (noted-only file found x d k))
    (λ k. inr (or_right (x == d) (is_among d xs) k.0, k.1))
    (all-only file (noted file found x) xs d h)
  where
    first : IsTrue (is_among d found) ⊎ (IsTrue (x == d) × (has_device file d ≡ false))
        → IsTrue (is_among d found) ⊎ (IsTrue (is_among d (x ∷ xs)) × (has_device file d ≡ false))
    first (inl k) = inl k
    first (inr k) = inr (or_left (x == d) (is_among d xs) k.0, k.1)

-- ---- each once

single-with : (x : ℕ) (xs : List ℕ) → IsTrue (are_single xs) → is_among x xs ≡ false
    → IsTrue (are_single (with_last xs x))
single-with x [] h none = refl
single-with x (y ∷ ys) h none =
    let rest = both (not (is_among y ys)) (are_single ys) h in
    let apart = neither (y == x) (is_among x ys) none in
    join (not (is_among y (with_last ys x))) (are_single (with_last ys x))
    (ap not (among-with y x ys) ∙ off (is_among y ys) (x == y) (not_so (is_among y ys) rest.0) (turned apart.0))
    (single-with x ys rest.1 apart.1)
  where
    off : (a b : Bool) → a ≡ false → b ≡ false → not (a || b) ≡ true
    off true b k l = cc
    off false true k l = cc
    off false false k l = refl

    turned : (y == x) ≡ false → (x == y) ≡ false
    turned k = ⊎_elim (λ same. absurd (false≢true (sym k ∙ at (eqb-true x y same)))) (λ l. l) (cases (x == y))
      where
        at : x ≡ y → (y == x) ≡ true
        at same = subst (λ n. IsTrue (n == x)) same (same_self x)

noted-single : (file : ShowFile) (found : List ℕ) (x : ℕ) → IsTrue (are_single found)
    → IsTrue (are_single (noted file found x))
noted-single file found x h = at (has_device file x) (is_among x found) refl
  where
    at : (a b : Bool) → is_among x found ≡ b → IsTrue (are_single (if a || b then found else with_last found x))
    at true b e = h
    at false true e = h
    at false false e = single-with x found h e

all-single : (file : ShowFile) (found ds : List ℕ) → IsTrue (are_single found)
    → IsTrue (are_single (all_noted file found ds))
all-single file found [] h = h
all-single file found (x ∷ xs) h = all-single file (noted file found x) xs (noted-single file found x h)

-- ---- of a plan

pub each-unknown : EachUnknownIsNamed
each-unknown file p d named none =
    by (is_among d p.silent.items) (is_among d p.refuses.items) refl refl named
  where
    silent : List ℕ
    silent = all_noted file [] p.silent.items

    refuses : List ℕ
    refuses = all_noted file silent p.refuses.items

    by : (a b : Bool) → is_among d p.silent.items ≡ a → is_among d p.refuses.items ≡ b
        → (a || (b || is_among d p.fails.items)) ≡ true
        → is_among d (all_noted file refuses p.fails.items) ≡ true
    by true b ea eb h =
        all-keeps file refuses p.fails.items d
        (all-keeps file silent p.refuses.items d (all-have file [] p.silent.items d none ea))
    by false true ea eb h =
        all-keeps file refuses p.fails.items d (all-have file silent p.refuses.items d none eb)
    by false false ea eb h = all-have file refuses p.fails.items d none h

pub only-unknown : OnlyUnknownIsNamed
only-unknown file p d h = last (all-only file refuses p.fails.items d h)
  where
    silent : List ℕ
    silent = all_noted file [] p.silent.items

    refuses : List ℕ
    refuses = all_noted file silent p.refuses.items

    a : Bool
    a = is_among d p.silent.items

    b : Bool
    b = is_among d p.refuses.items

    c : Bool
    c = is_among d p.fails.items

    first : IsTrue (is_among d []) ⊎ (IsTrue a × (has_device file d ≡ false))
        → ((a || (b || c)) ≡ true) × (has_device file d ≡ false)
    first (inl k) = cc
    first (inr k) = (or_left a (b || c) k.0, k.1)

    second : IsTrue (is_among d silent) ⊎ (IsTrue b × (has_device file d ≡ false))
        → ((a || (b || c)) ≡ true) × (has_device file d ≡ false)
    second (inl k) = first (all-only file [] p.silent.items d k)
    second (inr k) = (or_right a (b || c) (or_left b c k.0), k.1)

    last : IsTrue (is_among d refuses) ⊎ (IsTrue c × (has_device file d ≡ false))
        → ((a || (b || c)) ≡ true) × (has_device file d ≡ false)
    last (inl k) = second (all-only file silent p.refuses.items d k)
    last (inr k) = (or_right a (b || c) (or_right b c k.0), k.1)

pub unknown-once : UnknownIsNamedOnce
unknown-once file p =
    all-single file (all_noted file (all_noted file [] p.silent.items) p.refuses.items) p.fails.items
    (all-single file (all_noted file [] p.silent.items) p.refuses.items (all-single file [] p.silent.items refl))
