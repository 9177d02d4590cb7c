-- A method found by its address alone.
use Rattle.std.proofs.Common.{◌≡◌, ℕ, zero, suc, length, ◌+◌, ◌<◌, ◌^◌, Bool, true, false, not, ◌&&◌, ◌||◌, List, []}
use Rattle.std.proofs.Common.{◌∷◌, ◌++◌, Option, None, Some, map, filter, cond, nat_eq, nat_le, if◌then◌else◌, refl}
use Rattle.std.proofs.Common.{sym, ap, ◌∙◌, subst, arith, append-nil}
use Rattle.std.specs.Prelude.{◌==◌, IsTrue, option_and_then, is_some, codes}
use Rattle.std.specs.Fmt.{decimal}
use Rattle.std.specs.Int.Digits.{digits_of}
use Rattle.std.specs.Option.{option_map, option_map_or}
use Rattle.std.specs.List.{list_all, list_any, flat_map}
use Rattle.std.specs.Map.{lookup, keys_of}
use Rattle.std.specs.Char.{is_ascii_digit}
use Rattle.std.proofs.lemmas.Bool.Decides.{nat_tests}
use Rattle.std.proofs.lemmas.Fmt.{decimal_digit, decimal-digits_of}
use Rattle.std.proofs.lemmas.List.Elements.{filter-append}
use Rattle.cue_show.specs.DeviceNumber.{is_device}
use Rattle.cue_show.specs.Devices.{distinct}
use Rattle.cue_show.specs.Distinct.{are_distinct}
use Rattle.cue_show.specs.Number.{same_text, pieces, onto_first, is_run, is_cue_number}
use Rattle.cue_show.specs.Show.{ShowLists, Cues, is_table, is_stack_of, is_cue_of, is_entry}
use Rattle.cue_pattern.specs.Matching.{matches}
use Rattle.cue_operator.specs.declared.method.CueVerb.{CueVerb}
use Rattle.cue_operator.specs.declared.method.DeviceVerb.{DeviceVerb}
use Rattle.cue_operator.specs.declared.method.Method.{Method}
use Rattle.cue_operator.specs.declared.method.Method.TheVariants as method
use Rattle.cue_operator.specs.Methods.{under, address_of, cue_verb_text, device_verb_text, cue_verbs, device_verbs}
use Rattle.cue_operator.specs.Methods.{fixed_methods, methods_of_cue, methods_of_device, methods, methods_at}
use Rattle.cue_operator.specs.LookUp.{rest_after, cut_at_slash, name_and_verb, cue_verbs_at, device_verbs_at}
use Rattle.cue_operator.specs.LookUp.{cue_methods_at, device_methods_at, LiteralIsLookedUp}
use Rattle.cue_operator.proofs.LiteralLemmas.{literal-matches-itself}
use Rattle.cue_show.proofs.TestLemmas.{neither, not_so}
pub use Rattle.cue_show.proofs.TestLemmas.{both, join, same_number, number_sym}

pub text_sym : (t u : List ℕ) → same_text t u ≡ same_text u t
text_sym [] [] = refl
text_sym [] (b ∷ u) = refl
text_sym (c ∷ t) [] = refl
text_sym (c ∷ t) (b ∷ u) = rw (text_sym t u, number_sym c b) refl

pub equal_text : (t u : List ℕ) → same_text t u ≡ true → t ≡ u
equal_text [] [] h = refl
equal_text [] (b ∷ u) h = cc
equal_text (c ∷ t) [] h = cc
equal_text (c ∷ t) (b ∷ u) h = let p = both (nat_eq c b) (same_text t u) h in let e = same_number c b p.0 in let f =
    equal_text t u p.1 in cc

-- ---- an address, cut into its front, a name and a verb

abbrev pub no_slash : List ℕ → Bool
no_slash t = list_all (λ b. not (b == 47)) t

front-cut : (f a t : List ℕ) → same_text a (f ++ t) ≡ option_map_or (λ r. same_text r t) (rest_after f a) false
front-cut [] a t = refl
front-cut (x ∷ f) [] t = refl
front-cut (x ∷ f) (b ∷ a) t = rw (number_sym b x, front-cut f a t) (at (nat_eq x b))
  where
    at : (c : Bool) → (c && option_map_or (λ r. same_text r t) (rest_after f a) false) ≡ option_map_or
        (λ r. same_text r t) (if c then rest_after f a else None) false
    at true = refl
    at false = refl

abbrev is_named : List ℕ → List ℕ → Option (List ℕ × List ℕ) → Bool
is_named c v None = false
is_named c v (Some p) = same_text p.0 c && same_text p.1 v

name-cut : (c v r : List ℕ) → IsTrue (no_slash c) → same_text r (c ++ 47 ∷ v) ≡ is_named c v (cut_at_slash r)
name-cut [] v [] h = refl
name-cut [] v (b ∷ r) h = at (b == 47) refl (cut_at_slash r)
  where
    at : (t : Bool) → (b == 47) ≡ t → (o : Option (List ℕ × List ℕ))
        → (nat_eq b 47 && same_text r v) ≡ is_named [] v
        (if t then Some ([], r) else option_map (λ (p : List ℕ × List ℕ). (b ∷ p.0, p.1)) o)
    at true e o = rw e refl
    at false e None = rw e refl
    at false e (Some p) = rw e refl
name-cut (x ∷ c) v [] h = refl
name-cut (x ∷ c) v (b ∷ r) h = let k = both (not (x == 47)) (no_slash c) h in
    at (b == 47) refl k.0 (cut_at_slash r) (name-cut c v r k.1)
  where
    apart : (m n : ℕ) → nat_eq m 47 ≡ true → IsTrue (not (nat_eq n 47)) → nat_eq m n ≡ false
    apart m n e g = grind (arith, nat_tests)

    assoc : (p q s : Bool) → (p && (q && s)) ≡ ((p && q) && s)
    assoc true q s = refl
    assoc false q s = refl

    none : (p : Bool) → (p && false) ≡ false
    none true = refl
    none false = refl

    at : (t : Bool) → (b == 47) ≡ t → IsTrue (not (x == 47)) → (o : Option (List ℕ × List ℕ))
        → same_text r (c ++ 47 ∷ v) ≡ is_named c v o
        → (nat_eq b x && same_text r (c ++ 47 ∷ v)) ≡ is_named (x ∷ c) v
        (if t then Some ([], r) else option_map (λ (p : List ℕ × List ℕ). (b ∷ p.0, p.1)) o)
    at true e g o k = rw (apart b x e g) refl
    at false e g None k = rw k (none (nat_eq b x))
    at false e g (Some p) k = rw k (assoc (nat_eq b x) (same_text p.0 c) (same_text p.1 v))

under-cut : (f c v a : List ℕ) → IsTrue (no_slash c) → same_text a (under f c v) ≡ is_named c v (name_and_verb f a)
under-cut f c v a h = front-cut f a (c ++ 47 ∷ v) ∙ at (rest_after f a)
  where
    at : (o : Option (List ℕ))
        → option_map_or (λ r. same_text r (c ++ 47 ∷ v)) o false ≡ is_named c v (option_and_then cut_at_slash o)
    at None = refl
    at (Some r) = name-cut c v r h

-- ---- the methods of one name

pub filter-same : {A : Type 0} (p q : A → Bool) → ((x : A) → p x ≡ q x) → (xs : List A) → filter p xs ≡ filter q xs
filter-same p q e [] = refl
filter-same p q e (x ∷ xs) = rw (e x, filter-same p q e xs) refl

pub filter-none : {A : Type 0} (xs : List A) → filter (λ x. false) xs ≡ []
filter-none [] = refl
filter-none (x ∷ xs) = filter-none xs

pub filter-mapped : {A B : Type 0} (p : B → Bool) (f : A → B) (xs : List A)
    → filter p (map f xs) ≡ map f (filter (λ x. p (f x)) xs)
filter-mapped p f [] = refl
filter-mapped p f (x ∷ xs) = at (p (f x)) (filter-mapped p f xs)
  where
    at : (b : Bool) → filter p (map f xs) ≡ map f (filter (λ y. p (f y)) xs)
        → cond b (f x ∷ filter p (map f xs)) (filter p (map f xs)) ≡ map f
        (cond b (x ∷ filter (λ y. p (f y)) xs) (filter (λ y. p (f y)) xs))
    at true e = ap (λ ys. f x ∷ ys) e
    at false e = e

-- ---- the methods of one cue, and of one device

abbrev for_cue : List ℕ → Option (List ℕ × List ℕ) → List Method
for_cue c None = []
for_cue c (Some p) = if same_text p.0 c then map (method.OfCue c) (cue_verbs_at p.1) else []

abbrev for_device : ℕ → Option (List ℕ × List ℕ) → List Method
for_device d None = []
for_device d (Some p) = if same_text p.0 (decimal d) then map (method.OfDevice d) (device_verbs_at p.1) else []

-- texts that are tested by a name that is there or not
verbs-named : {V : Type 0} (text : V → List ℕ) (c n t : List ℕ) (vs : List V)
    → filter (λ v. same_text n c && same_text t (text v)) vs
    ≡ (if same_text n c then filter (λ v. same_text t (text v)) vs else [])
verbs-named text c n t vs = at (same_text n c)
  where
    at : (b : Bool) → filter (λ v. b && same_text t (text v)) vs
        ≡ (if b then filter (λ v. same_text t (text v)) vs else [])
    at true = refl
    at false = filter-none vs

mapped-if : {A B : Type 0} (f : A → B) (b : Bool) (xs : List A)
    → map f (if b then xs else []) ≡ (if b then map f xs else [])
mapped-if f true xs = refl
mapped-if f false xs = refl

cue-part : (a c : List ℕ) (vs : List CueVerb) → IsTrue (no_slash c) → (o : Option (List ℕ × List ℕ))
    → o ≡ name_and_verb (codes "/cue/") a
    → methods_at (same_text a) (map (method.OfCue c) vs) ≡ option_map_or
    (λ p. if same_text p.0 c then map (method.OfCue c) (filter (λ v. same_text p.1 (cue_verb_text v)) vs) else []) o
    []
cue-part a c vs h o e =
    filter-mapped (λ m. same_text a (address_of m)) (method.OfCue c) vs
    ∙ (ap (map (method.OfCue c)) (filter-same (λ v. same_text a (under (codes "/cue/") c (cue_verb_text v)))
    (λ v. is_named c (cue_verb_text v) o) (λ v. under-cut (codes "/cue/") c (cue_verb_text v) a h
    ∙ ap (is_named c (cue_verb_text v)) (sym e)) vs) ∙ at o)
  where
    at : (x : Option (List ℕ × List ℕ)) → map (method.OfCue c) (filter (λ v. is_named c (cue_verb_text v) x) vs)
        ≡ option_map_or (λ p. if same_text p.0 c then map (method.OfCue c)
        (filter (λ v. same_text p.1 (cue_verb_text v)) vs) else []) x []
    at None = ap (map (method.OfCue c)) (filter-none vs)
    at (Some p) = ap (map (method.OfCue c)) (verbs-named cue_verb_text c p.0 p.1 vs)
        ∙ mapped-if (method.OfCue c) (same_text p.0 c) (filter (λ v. same_text p.1 (cue_verb_text v)) vs)

device-part : (a : List ℕ) (d : ℕ) (vs : List DeviceVerb) → IsTrue (no_slash (decimal d))
    → (o : Option (List ℕ × List ℕ)) → o ≡ name_and_verb (codes "/device/") a
    → methods_at (same_text a) (map (method.OfDevice d) vs) ≡ option_map_or
    (λ p. if same_text p.0 (decimal d) then map (method.OfDevice d)
    (filter (λ v. same_text p.1 (device_verb_text v)) vs) else []) o []
device-part a d vs h o e =
    filter-mapped (λ m. same_text a (address_of m)) (method.OfDevice d) vs
    ∙ (ap (map (method.OfDevice d))
    (filter-same (λ v. same_text a (under (codes "/device/") (decimal d) (device_verb_text v)))
    (λ v. is_named (decimal d) (device_verb_text v) o)
    (λ v. under-cut (codes "/device/") (decimal d) (device_verb_text v) a h
    ∙ ap (is_named (decimal d) (device_verb_text v)) (sym e)) vs) ∙ at o)
  where
    at : (x : Option (List ℕ × List ℕ))
        → map (method.OfDevice d) (filter (λ v. is_named (decimal d) (device_verb_text v) x) vs) ≡ option_map_or
        (λ p. if same_text p.0 (decimal d) then map (method.OfDevice d)
        (filter (λ v. same_text p.1 (device_verb_text v)) vs) else []) x []
    at None = ap (map (method.OfDevice d)) (filter-none vs)
    at (Some p) = ap (map (method.OfDevice d)) (verbs-named device_verb_text (decimal d) p.0 p.1 vs)
        ∙ mapped-if (method.OfDevice d) (same_text p.0 (decimal d))
        (filter (λ v. same_text p.1 (device_verb_text v)) vs)

-- ---- all cues, and all devices

pub filter-flat : {A B : Type 0} (p : B → Bool) (f : A → List B) (xs : List A)
    → filter p (flat_map f xs) ≡ flat_map (λ x. filter p (f x)) xs
filter-flat p f [] = refl
filter-flat p f (x ∷ xs) = filter-append p (f x) (flat_map f xs) ∙ ap (λ ys. filter p (f x) ++ ys) (filter-flat p f xs)

pub flat-same : {A B : Type 0} (ok : A → Bool) (f g : A → List B) → ((x : A) → IsTrue (ok x) → f x ≡ g x)
    → (xs : List A) → IsTrue (list_all ok xs) → flat_map f xs ≡ flat_map g xs
flat-same ok f g e [] h = refl
flat-same ok f g e (x ∷ xs) h = let k = both (ok x) (list_all ok xs) h in rw (e x k.0, flat-same ok f g e xs k.1) refl

pub flat-none : {A B : Type 0} (xs : List A) → flat_map (λ (x : A). let none : List B = [] in none) xs ≡ []
flat-none [] = refl
flat-none (x ∷ xs) = flat-none xs

no-key : (n : List ℕ) (make : List ℕ → List Method) (ks : List (List ℕ)) → list_any (λ y. same_text y n) ks ≡ false
    → flat_map (λ c. if same_text n c then make c else []) ks ≡ []
no-key n make [] h = refl
no-key n make (k ∷ ks) h = at (same_text n k) (text_sym n k) h (no-key n make ks)
  where
    at : (b : Bool) → b ≡ same_text k n → (same_text k n || list_any (λ y. same_text y n) ks) ≡ false
        → (list_any (λ y. same_text y n) ks ≡ false → flat_map (λ c. if same_text n c then make c else []) ks ≡ [])
        → ((if b then make k else []) ++ flat_map (λ c. if same_text n c then make c else []) ks) ≡ []
    at true e g r = let w = neither (same_text k n) (list_any (λ y. same_text y n) ks) g in let f = w.0 in cc
    at false e g r = r (neither (same_text k n) (list_any (λ y. same_text y n) ks) g).1

one-key : (n : List ℕ) (make : List ℕ → List Method) (es : Cues) → IsTrue (are_distinct same_text (keys_of es))
    → flat_map (λ c. if same_text n c then make c else []) (keys_of es)
    ≡ (if is_some (lookup (same_text n) es) then make n else [])
one-key n make [] h = refl
one-key n make (e ∷ es) h = let k =
    both (not (list_any (λ y. same_text y e.0) (keys_of es))) (are_distinct same_text (keys_of es)) h in
    at (same_text n e.0) refl (not_so (list_any (λ y. same_text y e.0) (keys_of es)) k.0) (one-key n make es k.1)
  where
    at : (b : Bool) → same_text n e.0 ≡ b → list_any (λ y. same_text y e.0) (keys_of es) ≡ false
        → flat_map (λ c. if same_text n c then make c else []) (keys_of es)
        ≡ (if is_some (lookup (same_text n) es) then make n else [])
        → ((if b then make e.0 else []) ++ flat_map (λ c. if same_text n c then make c else []) (keys_of es))
        ≡ (if is_some (cond b (Some e.1) (lookup (same_text n) es)) then make n else [])
    at true f g r =
        let same = equal_text n e.0 f in
        let rest : flat_map (λ c. if same_text n c then make c else []) (keys_of es) ≡ [] =
        no-key n make (keys_of es) (subst (λ (t : List ℕ). list_any (λ y. same_text y t) (keys_of es) ≡ false)
        (sym same) g) in
        rw rest (append-nil (make e.0) ∙ ap make (sym same))
    at false f g r = r

-- ---- names have no slash

digit-no_slash : (b : ℕ) → IsTrue (is_ascii_digit b) → IsTrue (not (b == 47))
digit-no_slash b h = grind (arith, nat_tests)

abbrev digits_alone : List (List ℕ) → Bool
digits_alone ts = list_all (λ t. list_all is_ascii_digit t) ts

pieces-no_slash : (t : List ℕ) → IsTrue (digits_alone (pieces t)) → IsTrue (no_slash t)
pieces-no_slash [] h = refl
pieces-no_slash (b ∷ t) h = at (b == 46) refl h (pieces-no_slash t)
  where
    point : (n : ℕ) → nat_eq n 46 ≡ true → IsTrue (not (nat_eq n 47))
    point n e = grind (arith, nat_tests)

    onto : (ps : List (List ℕ)) → IsTrue (digits_alone (onto_first b ps)) → IsTrue (is_ascii_digit b)
        × IsTrue (digits_alone ps)
    onto [] g = ((both (is_ascii_digit b) true (both (is_ascii_digit b && true) true g).0).0, refl)
    onto (q ∷ ps) g = let k = both (is_ascii_digit b && list_all is_ascii_digit q) (digits_alone ps) g in let m =
        both (is_ascii_digit b) (list_all is_ascii_digit q) k.0 in
        (m.0, join (list_all is_ascii_digit q) (digits_alone ps) m.1 k.1)

    at : (p : Bool) → (b == 46) ≡ p → IsTrue (digits_alone (if p then [] ∷ pieces t else onto_first b (pieces t)))
        → (IsTrue (digits_alone (pieces t)) → IsTrue (no_slash t)) → IsTrue (not (b == 47) && no_slash t)
    at true e g f = join (not (b == 47)) (no_slash t) (point b e) (f g)
    at false e g f = let k = onto (pieces t) g in join (not (b == 47)) (no_slash t) (digit-no_slash b k.0) (f k.1)

runs-digits : (ts : List (List ℕ)) → IsTrue (list_all is_run ts) → IsTrue (digits_alone ts)
runs-digits [] h = refl
runs-digits (t ∷ ts) h = let k = both (is_run t) (list_all is_run ts) h in
    join (list_all is_ascii_digit t) (digits_alone ts) (both (nat_le 1 (length t)) (list_all is_ascii_digit t) k.0).1
    (runs-digits ts k.1)

pub cue-no_slash : (c : List ℕ) → IsTrue (is_cue_number c) → IsTrue (no_slash c)
cue-no_slash c h = pieces-no_slash c
    (runs-digits (pieces c) (both (nat_le (length c) 16) (list_all is_run (pieces c)) h).1)

shifted-no_slash : (ds : List ℕ) → IsTrue (no_slash (map (λ d. 48 + d) ds))
shifted-no_slash [] = refl
shifted-no_slash (d ∷ ds) = join (not (48 + d == 47)) (no_slash (map (λ x. 48 + x) ds)) (at d) (shifted-no_slash ds)
  where
    at : (n : ℕ) → IsTrue (not (nat_eq (48 + n) 47))
    at n = grind (arith, nat_tests)

pub decimal-no_slash : (d : ℕ) → d < 2 ^ 64 → IsTrue (no_slash (decimal d))
decimal-no_slash zero h = rw (decimal_digit 0 (omega arith)) refl
decimal-no_slash (suc n) h = rw (decimal-digits_of (suc n) (omega arith) h) (shifted-no_slash (digits_of 10 (suc n)))

pub entries-no_slash : (show : ShowLists) (es : Cues) → IsTrue (list_all (is_cue_of show) es)
    → IsTrue (list_all no_slash (keys_of es))
entries-no_slash show [] h = refl
entries-no_slash show (e ∷ es) h = let k = both (is_cue_of show e) (list_all (is_cue_of show) es) h in
    join (no_slash e.0) (list_all no_slash (keys_of es)) (cue-no_slash e.0 (both (is_cue_number e.0) _ k.0).0)
    (entries-no_slash show es k.1)

pub numbers-no_slash : (es : List (ℕ × ℕ)) → IsTrue (list_all is_entry es)
    → IsTrue (list_all (λ d. no_slash (decimal d)) (keys_of es))
numbers-no_slash [] h = refl
numbers-no_slash (e ∷ es) h = let k = both (is_entry e) (list_all is_entry es) h in
    join (no_slash (decimal e.0)) (list_all (λ d. no_slash (decimal d)) (keys_of es))
    (decimal-no_slash e.0 (small e.0 (both (is_device e.0) _ k.0).0)) (numbers-no_slash es k.1)
  where
    small : (n : ℕ) → IsTrue (is_device n) → n < 2 ^ 64
    small n g = grind (arith, nat_tests)

-- ---- together

pub all-cues : (show : ShowLists) (a : List ℕ) → IsTrue (is_stack_of show show.cues)
    → methods_at (same_text a) (flat_map methods_of_cue (keys_of show.cues)) ≡ cue_methods_at show
    (name_and_verb (codes "/cue/") a)
all-cues show a h =
    let k = both (are_distinct same_text (keys_of show.cues)) (list_all (is_cue_of show) show.cues) (both _ _ h).1 in
    let o : Option (List ℕ × List ℕ) = name_and_verb (codes "/cue/") a in
    filter-flat (λ m. same_text a (address_of m)) methods_of_cue (keys_of show.cues)
    ∙ (flat-same no_slash (λ c. methods_at (same_text a) (methods_of_cue c))
    (λ c. option_map_or (λ p. if same_text p.0 c then map (method.OfCue c) (cue_verbs_at p.1) else []) o [])
    (λ c g. cue-part a c cue_verbs g o refl) (keys_of show.cues) (entries-no_slash show show.cues k.1) ∙ at o k.0)
  where
    at : (o : Option (List ℕ × List ℕ)) → IsTrue (are_distinct same_text (keys_of show.cues))
        → flat_map (λ c. option_map_or (λ p. if same_text p.0 c then map (method.OfCue c) (cue_verbs_at p.1) else []) o
        []) (keys_of show.cues) ≡ cue_methods_at show o
    at None d = flat-none (keys_of show.cues)
    at (Some p) d = one-key p.0 (λ c. map (method.OfCue c) (cue_verbs_at p.1)) show.cues d

pub all-devices : (show : ShowLists) (a : List ℕ) → IsTrue (is_table show.devices)
    → methods_at (same_text a) (flat_map methods_of_device (keys_of show.devices)) ≡ device_methods_at show
    (name_and_verb (codes "/device/") a)
all-devices show a h =
    let k = both (distinct (keys_of show.devices)) (list_all is_entry show.devices)
    (both (nat_le (length show.devices) 112) _ h).1 in
    let o : Option (List ℕ × List ℕ) = name_and_verb (codes "/device/") a in
    filter-flat (λ m. same_text a (address_of m)) methods_of_device (keys_of show.devices)
    ∙ (flat-same (λ d. no_slash (decimal d)) (λ d. methods_at (same_text a) (methods_of_device d))
    (λ d. option_map_or (λ p. if same_text p.0 (decimal d) then map (method.OfDevice d) (device_verbs_at p.1) else
    []) o [])
    (λ d g. device-part a d device_verbs g o refl) (keys_of show.devices) (numbers-no_slash show.devices k.1) ∙ at o)
  where
    at : (o : Option (List ℕ × List ℕ))
        → flat_map (λ d. option_map_or
        (λ p. if same_text p.0 (decimal d) then map (method.OfDevice d) (device_verbs_at p.1) else []) o [])
        (keys_of show.devices) ≡ device_methods_at show o
    at None = flat-none (keys_of show.devices)
    at (Some p) = refl

pub literal-is-looked-up : LiteralIsLookedUp
unfolding methods
literal-is-looked-up show a pattern h lit e =
    let k = both (is_table show.devices) _ h in
    let m = both (is_stack_of show show.cues) _ k.1 in
    let cues : List Method = flat_map methods_of_cue (keys_of show.cues) in
    let devices : List Method = flat_map methods_of_device (keys_of show.devices) in
    filter-same (λ x. matches pattern (address_of x)) (λ x. same_text a (address_of x))
    (λ x. literal-matches-itself a (address_of x) pattern lit e) (methods show)
    ∙ (filter-append (λ x. same_text a (address_of x)) fixed_methods (cues ++ devices)
    ∙ ap (λ xs. methods_at (same_text a) fixed_methods ++ xs)
    (filter-append (λ x. same_text a (address_of x)) cues devices
    ∙ (ap (λ xs. xs ++ methods_at (same_text a) devices) (all-cues show a m.0)
    ∙ ap (λ xs. cue_methods_at show (name_and_verb (codes "/cue/") a) ++ xs) (all-devices show a k.0))))
