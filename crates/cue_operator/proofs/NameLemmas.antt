-- Methods by their texts, and devices by their names: each text is that of one alone.
use Rattle.std.proofs.Common.{◌≡◌, ℕ, ◌+◌, ◌-◌, ◌*◌, ◌/◌, ◌%◌, ◌<◌, ◌≤◌, Bool, true, false, not}
use Rattle.std.proofs.Common.{◌&&◌, List, [], ◌∷◌, ◌++◌, Option, None, Some, map, filter, cond, nat_eq, nat_lt}
use Rattle.std.proofs.Common.{if◌then◌else◌, refl, sym, ap, ◌∙◌, subst, arith, append-nil}
use Rattle.std.specs.Prelude.{IsTrue, option_and_then, is_some, codes}
use Rattle.std.specs.Fmt.{decimal}
use Rattle.std.specs.Option.{option_to_list}
use Rattle.std.specs.List.{list_all, list_any, flat_map, find}
use Rattle.std.specs.Map.{lookup, keys_of}
use Rattle.std.proofs.lemmas.Bool.Decides.{nat_tests}
use Rattle.std.proofs.lemmas.Fmt.{decimal_digit, decimal_step, decimal_injective}
use Rattle.cue_show.specs.DeviceNumber.{is_device}
use Rattle.cue_show.specs.Devices.{distinct}
use Rattle.cue_show.specs.Distinct.{are_distinct}
use Rattle.cue_show.specs.Number.{same_text}
use Rattle.cue_show.specs.Show.{ShowLists, is_show, is_table, is_stack_of, is_entry}
use Rattle.cue_operator.specs.declared.method.Method.{Method}
use Rattle.cue_operator.specs.declared.method.Method.TheVariants as method
use Rattle.cue_operator.specs.Methods.{address_of, cue_verb_text, device_verb_text, cue_verbs, device_verbs}
use Rattle.cue_operator.specs.Methods.{fixed_methods, methods_at}
use Rattle.cue_operator.specs.LookUp.{rest_after, cut_at_slash, name_and_verb, cue_verbs_at, device_verbs_at}
use Rattle.cue_operator.specs.LookUp.{number_at, device_written}
use Rattle.cue_operator.specs.LookUp.{device_named}
use Rattle.cue_operator.proofs.LookUpLemmas.{both, text_sym, equal_text}
use Rattle.cue_show.proofs.TestLemmas.{not_so, neither}

same_itself : (t : List ℕ) → same_text t t ≡ true
same_itself [] = refl
same_itself (b ∷ t) = rw (is b, same_itself t) refl
  where
    is : (n : ℕ) → nat_eq n n ≡ true
    is n = grind (arith, nat_tests)

-- ---- texts that are all different

none-same : {X : Type 0} (text : X → List ℕ) (t : List ℕ) (xs : List X)
    → list_any (λ y. same_text y t) (map text xs) ≡ false → filter (λ x. same_text t (text x)) xs ≡ []
none-same text t [] h = refl
none-same text t (x ∷ xs) h = let w = neither (same_text (text x) t) (list_any (λ y. same_text y t) (map text xs)) h in
    rw (text_sym t (text x), w.0) (none-same text t xs w.1)

-- the first with this text is the only one
pub found-same : {X : Type 0} (text : X → List ℕ) (t : List ℕ) (xs : List X)
    → IsTrue (are_distinct same_text (map text xs))
    → filter (λ x. same_text t (text x)) xs ≡ option_to_list (find (λ x. same_text t (text x)) xs)
found-same text t [] h = refl
found-same text t (x ∷ xs) h =
    let k = both (not (list_any (λ y. same_text y (text x)) (map text xs))) (are_distinct same_text (map text xs)) h in
    at (same_text t (text x)) refl (not_so _ k.0) (found-same text t xs k.1)
  where
    at : (b : Bool) → same_text t (text x) ≡ b → list_any (λ y. same_text y (text x)) (map text xs) ≡ false
        → filter (λ y. same_text t (text y)) xs ≡ option_to_list (find (λ y. same_text t (text y)) xs)
        → cond b (x ∷ filter (λ y. same_text t (text y)) xs) (filter (λ y. same_text t (text y)) xs) ≡ option_to_list
        (cond b (Some x) (find (λ y. same_text t (text y)) xs))
    at true e g r = ap (λ ys. x ∷ ys)
        (none-same text t xs (subst (λ (u : List ℕ). list_any (λ y. same_text y u) (map text xs) ≡ false)
        (sym (equal_text t (text x) e)) g))
    at false e g r = r

pub cue_verb-found : (t : List ℕ)
    → cue_verbs_at t ≡ option_to_list (find (λ v. same_text t (cue_verb_text v)) cue_verbs)
cue_verb-found t = found-same cue_verb_text t cue_verbs refl

pub device_verb-found : (t : List ℕ)
    → device_verbs_at t ≡ option_to_list (find (λ v. same_text t (device_verb_text v)) device_verbs)
device_verb-found t = found-same device_verb_text t device_verbs refl

pub fixed-found : (a : List ℕ)
    → methods_at (same_text a) fixed_methods ≡ option_to_list (find (λ m. same_text a (address_of m)) fixed_methods)
fixed-found a = found-same address_of a fixed_methods refl

-- ---- the fronts are different

-- an address of the methods that every show has is under no front
pub fixed-alone : (a : List ℕ) (m : Method) → find (λ x. same_text a (address_of x)) fixed_methods ≡ Some m
    → (name_and_verb (codes "/cue/") a ≡ None) × (name_and_verb (codes "/device/") a ≡ None)
fixed-alone a m h = at (same_text a (codes "/status")) (same_text a (codes "/show/device"))
    (same_text a (codes "/show/cue")) (same_text a (codes "/show/mixed")) refl refl refl refl h
  where
    at : (b c d e : Bool) → same_text a (codes "/status") ≡ b → same_text a (codes "/show/device") ≡ c
        → same_text a (codes "/show/cue") ≡ d → same_text a (codes "/show/mixed") ≡ e
        → cond b (Some method.Status)
        (cond c (Some method.AddDevice) (cond d (Some method.AddCue) (cond e (Some method.AddMixedCue) None)))
        ≡ Some m
        → (name_and_verb (codes "/cue/") a ≡ None) × (name_and_verb (codes "/device/") a ≡ None)
    at true c d e f g i j k = rw (equal_text a (codes "/status") f) (refl, refl)
    at false true d e f g i j k = rw (equal_text a (codes "/show/device") g) (refl, refl)
    at false false true e f g i j k = rw (equal_text a (codes "/show/cue") i) (refl, refl)
    at false false false true f g i j k = rw (equal_text a (codes "/show/mixed") j) (refl, refl)
    at false false false false f g i j k = cc

pub fronts-apart : (a : List ℕ) (p : List ℕ × List ℕ) → name_and_verb (codes "/cue/") a ≡ Some p
    → name_and_verb (codes "/device/") a ≡ None
fronts-apart [] p h = cc
fronts-apart (x ∷ []) p h = at (nat_eq 47 x)
  where
    at : (b : Bool) → option_and_then cut_at_slash (if b then None else None) ≡ None
    at true = refl
    at false = refl
fronts-apart (x ∷ y ∷ r) p h = at (nat_eq 47 x) (nat_eq 99 y) refl h
  where
    differ : (n : ℕ) → nat_eq 99 n ≡ true → nat_eq 100 n ≡ false
    differ n e = grind (arith, nat_tests)

    at : (b c : Bool) → nat_eq 99 y ≡ c
        → option_and_then cut_at_slash (if b then (if c then rest_after (codes "ue/") r else None) else None) ≡ Some p
        → option_and_then cut_at_slash (if b then (if nat_eq 100 y then rest_after (codes "evice/") r else None) else
        None) ≡ None
    at true true e k = rw (differ y e) refl
    at true false e k = cc
    at false c e k = cc

-- ---- the name of a device

two_digits : (k : ℕ) → 10 ≤ k → k < 100 → decimal k ≡ (48 + k / 10) ∷ (48 + k % 10) ∷ []
two_digits k h l = decimal_step k h (omega arith)
    ∙ ap (λ ds. ds ++ ((48 + k % 10) ∷ [])) (decimal_digit (k / 10) (omega arith))

three_digits : (k : ℕ) → 100 ≤ k → k ≤ 111 → decimal k ≡ (48 + k / 10 / 10) ∷ (48 + k / 10 % 10) ∷ (48 + k % 10) ∷ []
three_digits k h l = decimal_step k (omega arith) (omega arith)
    ∙ ap (λ ds. ds ++ ((48 + k % 10) ∷ [])) (two_digits (k / 10) (omega arith) (omega arith))

number-decimal : (k : ℕ) → k ≤ 111 → number_at (decimal k) ≡ Some k
number-decimal k h = by (nat_lt k 10) (nat_lt k 100) refl refl
  where
    less : (m n : ℕ) → nat_lt m n ≡ true → m < n
    less m n e = grind (arith, nat_tests)

    more : (m n : ℕ) → nat_lt m n ≡ false → n ≤ m
    more m n e = grind (arith, nat_tests)

    by : (b c : Bool) → nat_lt k 10 ≡ b → nat_lt k 100 ≡ c → number_at (decimal k) ≡ Some k
    by true c e f = rw (decimal_digit k (less k 10 e))
        (ap (λ (n : ℕ). Some n) (let g : (48 + k) - 48 ≡ k = omega arith in g))
    by false true e f = let low = more k 10 e in let high = less k 100 f in
        rw (two_digits k low high)
        (ap (λ (n : ℕ). Some n) (let g : ((48 + k / 10) - 48) * 10 + ((48 + k % 10) - 48) ≡ k = omega arith in g))
    by false false e f = let low = more k 100 f in
        rw (three_digits k low h)
        (ap (λ (n : ℕ). Some n) (let g : ((48 + k / 10 / 10) - 48) * 100 + ((48 + k / 10 % 10) - 48) * 10 +
        ((48 + k % 10) - 48) ≡ k = omega arith in g))

device_at_most : (k : ℕ) → is_device k ≡ true → k ≤ 111
device_at_most k h = grind (arith, nat_tests)

named-decimal : (k : ℕ) → is_device k ≡ true → device_named (decimal k) ≡ Some k
named-decimal k h = ap (option_and_then (device_written (decimal k))) (number-decimal k (device_at_most k h))
    ∙ (rw (h, same_itself (decimal k)) refl)

-- the name of the device, and of no other
written : (name : List ℕ) (o : Option ℕ) (d : ℕ) → option_and_then (device_written name) o ≡ Some d
    → (is_device d ≡ true) × (decimal d ≡ name)
written name None d h = cc
written name (Some n) d h = at (is_device n) (same_text (decimal n) name) refl refl h
  where
    at : (b c : Bool) → is_device n ≡ b → same_text (decimal n) name ≡ c → (if b && c then Some n else None) ≡ Some d
        → (is_device d ≡ true) × (decimal d ≡ name)
    at true true e f g = let i : n ≡ d = cc in (
      subst (λ (m : ℕ). is_device m ≡ true) i e,
      subst (λ (m : ℕ). decimal m ≡ name) i
          (equal_text (decimal n) name f),
    )
    at true false e f g = cc
    at false c e f g = cc

named-same : (name : List ℕ) (d k : ℕ) → device_named name ≡ Some d → is_device k ≡ true
    → same_text name (decimal k) ≡ nat_eq d k
named-same name d k h i = at (nat_eq d k) refl (same_text name (decimal k)) refl
  where
    w : (is_device d ≡ true) × (decimal d ≡ name)
    w = written name (number_at name) d h

    equal : (m n : ℕ) → nat_eq m n ≡ true → m ≡ n
    equal m n e = grind (arith, nat_tests)

    at : (b : Bool) → nat_eq d k ≡ b → (c : Bool) → same_text name (decimal k) ≡ c → c ≡ b
    at true e true f = refl
    at false e false f = refl
    at true e false f = let g : name ≡ decimal k = sym w.1 ∙ ap decimal (equal d k e) in
        let j : same_text (decimal k) (decimal k) ≡ false =
        subst (λ (t : List ℕ). same_text t (decimal k) ≡ false) g f in let l = same_itself (decimal k) in cc
    at false e true f =
        let g : decimal d ≡ decimal k = w.1 ∙ equal_text name (decimal k) f in
        let x = device_at_most d w.0 in
        let y = device_at_most k i in
        let j : d ≡ k = decimal_injective d k (omega arith) (omega arith) g in
        differ d k e j
      where
        differ : (m n : ℕ) → nat_eq m n ≡ false → m ≡ n → true ≡ false
        differ m n p q = grind (arith, nat_tests)

unnamed : (name : List ℕ) (k : ℕ) → device_named name ≡ None → is_device k ≡ true → same_text name (decimal k) ≡ false
unnamed name k h i = at (same_text name (decimal k)) refl
  where
    at : (c : Bool) → same_text name (decimal k) ≡ c → c ≡ false
    at false e = refl
    at true e = let g : name ≡ decimal k = equal_text name (decimal k) e in let j : device_named (decimal k) ≡ None =
        subst (λ (t : List ℕ). device_named t ≡ None) g h in let l = named-decimal k i in cc

-- ---- the devices of the table

entry_device : (e : ℕ × ℕ) → IsTrue (is_entry e) → is_device e.0 ≡ true
entry_device e h = (both (is_device e.0) _ h).0

pub no-device : (name : List ℕ) (make : ℕ → List Method) (es : List (ℕ × ℕ)) → IsTrue (list_all is_entry es)
    → device_named name ≡ None → flat_map (λ d. if same_text name (decimal d) then make d else []) (keys_of es) ≡ []
no-device name make [] h n = refl
no-device name make (e ∷ es) h n = let k = both (is_entry e) (list_all is_entry es) h in
    rw (unnamed name e.0 n (entry_device e k.0)) (no-device name make es k.1 n)

others : (d : ℕ) (name : List ℕ) (make : ℕ → List Method) (es : List (ℕ × ℕ)) → IsTrue (list_all is_entry es)
    → device_named name ≡ Some d → list_any (λ y. nat_eq y d) (keys_of es) ≡ false
    → flat_map (λ k. if same_text name (decimal k) then make k else []) (keys_of es) ≡ []
others d name make [] h n g = refl
others d name make (e ∷ es) h n g =
    let k = both (is_entry e) (list_all is_entry es) h in
    let w = neither (nat_eq e.0 d) (list_any (λ y. nat_eq y d) (keys_of es)) g in
    rw (named-same name d e.0 n (entry_device e k.0), turned d e.0 w.0) (others d name make es k.1 n w.1)
  where
    turned : (m n : ℕ) → nat_eq n m ≡ false → nat_eq m n ≡ false
    turned m n q = grind (arith, nat_tests)

pub one-device : (d : ℕ) (name : List ℕ) (make : ℕ → List Method) (es : List (ℕ × ℕ)) → IsTrue (list_all is_entry es)
    → IsTrue (distinct (keys_of es)) → device_named name ≡ Some d
    → flat_map (λ k. if same_text name (decimal k) then make k else []) (keys_of es)
    ≡ (if is_some (lookup (nat_eq d) es) then make d else [])
one-device d name make [] h u n = refl
one-device d name make (e ∷ es) h u n =
    let k = both (is_entry e) (list_all is_entry es) h in
    let v = both (not (list_any (λ y. nat_eq y e.0) (keys_of es))) (distinct (keys_of es)) u in
    rw (named-same name d e.0 n (entry_device e k.0))
    (at (nat_eq d e.0) refl (not_so _ v.0) k.1 (one-device d name make es k.1 v.1 n))
  where
    equal : (m n : ℕ) → nat_eq m n ≡ true → m ≡ n
    equal m n q = grind (arith, nat_tests)

    at : (b : Bool) → nat_eq d e.0 ≡ b → list_any (λ y. nat_eq y e.0) (keys_of es) ≡ false
        → IsTrue (list_all is_entry es)
        → flat_map (λ k. if same_text name (decimal k) then make k else []) (keys_of es)
        ≡ (if is_some (lookup (nat_eq d) es) then make d else [])
        → ((if b then make e.0 else []) ++ flat_map (λ k. if same_text name (decimal k) then make k else [])
        (keys_of es)) ≡ (if is_some (cond b (Some e.1) (lookup (nat_eq d) es)) then make d else [])
    at true q g i r =
        let same = equal d e.0 q in
        let none : flat_map (λ k. if same_text name (decimal k) then make k else []) (keys_of es) ≡ [] =
        others d name make es i n (subst (λ (t : ℕ). list_any (λ y. nat_eq y t) (keys_of es) ≡ false) (sym same)
        g) in
        rw none (append-nil (make e.0) ∙ ap make (sym same))
    at false q g i r = r

-- ---- the show keeps its rules

pub table_of : (show : ShowLists) → IsTrue (is_show show) → IsTrue (is_table show.devices)
table_of show h = (both (is_table show.devices) _ h).0

pub stack_of : (show : ShowLists) → IsTrue (is_show show) → IsTrue (is_stack_of show show.cues)
stack_of show h = (both (is_stack_of show show.cues) _ (both (is_table show.devices) _ h).1).0

pub entries : (show : ShowLists) → IsTrue (is_show show) → IsTrue (distinct (keys_of show.devices))
    × IsTrue (list_all is_entry show.devices)
entries show h = both (distinct (keys_of show.devices)) (list_all is_entry show.devices) (both _ _ (table_of show h)).1
