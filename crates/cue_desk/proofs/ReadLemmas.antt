-- A message of the desk is read as exactly the command that it asks for.
use Rattle.std.proofs.Common.{◌≡◌, ◌∙◌, ℕ, ◌+◌, ◌%◌, ◌<◌, ◌≤◌, ◌^◌, ◌⊎◌, inl, inr, Bool, true, false, ◌&&◌}
use Rattle.std.proofs.Common.{if◌then◌else◌, cond, List, [], ◌∷◌, ◌++◌, filter, length, IsTrue, Option, Some, None}
use Rattle.std.proofs.Common.{is_some, refl, ap, subst, arith, nat_eq, nat_le}
use Rattle.std.specs.Prelude.{◌==◌, IfSome, Ok, codes}
use Rattle.std.specs.Char.{is_ascii_digit}
use Rattle.std.specs.Fmt.{decimal}
use Rattle.std.specs.List.{flat_map, list_all}
use Rattle.std.specs.Map.{lookup, keys_of}
use Rattle.std.proofs.lemmas.Bool.Decides.{nat_tests}
use Rattle.std.proofs.lemmas.Fmt.{decimal_by_steps}
use Rattle.cue_show.specs.declared.limits.TheConstants.{MAX_CUE_BYTES}
use Rattle.cue_show.specs.DeviceNumber.{is_device}
use Rattle.cue_show.specs.Number.{is_cue_number, is_run, pieces, same_text}
use Rattle.cue_show.specs.Show.{Cues, ShowLists, has_cue, has_device, is_cue_of, is_entry, is_show, parts_of, port_of}
use Rattle.cue_show.proofs.ChangeLemmas.{is_cue_of-parts_of, is_entry-port_of}
use Rattle.cue_show.proofs.RunsLemmas.{runs_from, runs_from-start}
use Rattle.cue_show.proofs.TestLemmas.{both, join, same_number}
use Rattle.cue_show.proofs.TextLemmas.{same_text-itself, same_text-true}
use Rattle.cue_pattern.specs.Literal.{is_literal, is_literal_byte}
use Rattle.cue_pattern.specs.Matching.{matches}
use Rattle.cue_pattern.specs.Reading.{parts_of as address_parts}
use Rattle.cue_osc.specs.Argument.{Argument}
use Rattle.cue_operator.specs.declared.method.CueVerb.{CueVerb}
use Rattle.cue_operator.specs.declared.method.CueVerb.TheVariants as on_cue
use Rattle.cue_operator.specs.declared.method.DeviceVerb.{DeviceVerb}
use Rattle.cue_operator.specs.declared.method.DeviceVerb.TheVariants as on_device
use Rattle.cue_operator.specs.declared.method.Method.{Method}
use Rattle.cue_operator.specs.declared.method.Method.TheVariants as method
use Rattle.cue_operator.specs.Arguments.{command_by}
use Rattle.cue_operator.specs.Commands.{commands_of}
use Rattle.cue_operator.specs.Methods.{address_of, cue_verb_text, device_verb_text, fixed_methods, methods}
use Rattle.cue_operator.specs.Methods.{methods_of_cue, methods_of_device}
use Rattle.cue_operator.proofs.FindingLemmas.{one-method_at_each}
use Rattle.cue_operator.proofs.LiteralLemmas.{literal-matches-itself, literal-pattern}
use Rattle.cue_operator.proofs.LookUpLemmas.{filter-same}
use Rattle.cue_desk.specs.declared.asking.Asked.{Asked}
use Rattle.cue_desk.specs.declared.asking.Asked.TheVariants as asked
use Rattle.cue_desk.specs.Asks.{arguments_of, command_of, is_askable, method_of}
use Rattle.cue_desk.specs.Loading.{AskedIsRead, read_by}
use Rattle.cue_desk.proofs.AskLemmas.{asked-read}

-- ---- a method among others

-- the method is one of these
abbrev IsOf : Method → List Method → Type 0
IsOf m [] = ⊥
IsOf m (n ∷ ns) = (m ≡ n) ⊎ IsOf m ns

of-front : (m : Method) (xs ys : List Method) → IsOf m xs → IsOf m (xs ++ ys)
of-front m [] ys h = absurd h
of-front m (x ∷ xs) ys (inl e) = inl e
of-front m (x ∷ xs) ys (inr h) = inr (of-front m xs ys h)

of-back : (m : Method) (xs ys : List Method) → IsOf m ys → IsOf m (xs ++ ys)
of-back m [] ys h = h
of-back m (x ∷ xs) ys h = inr (of-back m xs ys h)

-- one that passes the test is not filtered out
some-left : (p : Method → Bool) (m : Method) (ms : List Method) → IsOf m ms → p m ≡ true → 1 ≤ length (filter p ms)
some-left p m [] h t = absurd h
some-left p m (n ∷ ns) h t = at (p n) refl h (λ k. some-left p m ns k t)
  where
    at : (b : Bool) → p n ≡ b → (m ≡ n) ⊎ IsOf m ns → (IsOf m ns → 1 ≤ length (filter p ns))
        → 1 ≤ length (cond b (n ∷ filter p ns) (filter p ns))
    at true e k more = omega arith
    at false e (inl same) more = let no : p n ≡ true = subst (λ x. p x ≡ true) same t in cc
    at false e (inr k) more = more k

nothing : (ms : List Method) → length ms ≤ 0 → ms ≡ []
nothing [] h = refl
nothing (m ∷ ms) h = absurd (omega arith)

-- where one at most passes the test, it is this one
only-one : (p : Method → Bool) (m : Method) (ms : List Method) → IsOf m ms → p m ≡ true → length (filter p ms) ≤ 1
    → filter p ms ≡ m ∷ []
only-one p m [] h t few = absurd h
only-one p m (n ∷ ns) h t few = at (p n) refl h few (λ k. only-one p m ns k t)
  where
    at : (b : Bool) → p n ≡ b → (m ≡ n) ⊎ IsOf m ns → length (cond b (n ∷ filter p ns) (filter p ns)) ≤ 1
        → (IsOf m ns → length (filter p ns) ≤ 1 → filter p ns ≡ m ∷ [])
        → cond b (n ∷ filter p ns) (filter p ns) ≡ m ∷ []
    at true e (inl same) few more = let none = nothing (filter p ns) (omega arith) in rw (none, same) refl
    at true e (inr k) few more = let some = some-left p m ns k t in absurd (omega arith)
    at false e (inl same) few more = let no : p n ≡ true = subst (λ x. p x ≡ true) same t in cc
    at false e (inr k) few more = more k few

-- ---- the methods of a show

cue-verb : (cue : List ℕ) (v : CueVerb) → IsOf (method.OfCue cue v) (methods_of_cue cue)
cue-verb cue on_cue.Standby = inl refl
cue-verb cue _ = search (inl, inr) depth 12

device-verb : (device : ℕ) (v : DeviceVerb) → IsOf (method.OfDevice device v) (methods_of_device device)
device-verb device on_device.StandingBy = inl refl
device-verb device _ = search (inl, inr) depth 12

cue-method : (cue : List ℕ) (v : CueVerb) (es : Cues) → is_some (lookup (same_text cue) es) ≡ true
    → IsOf (method.OfCue cue v) (flat_map methods_of_cue (keys_of es))
cue-method cue v [] h = cc
cue-method cue v (e ∷ es) h = at (same_text cue e.0) refl h (cue-method cue v es)
  where
    at : (b : Bool) → same_text cue e.0 ≡ b → is_some (cond b (Some e.1) (lookup (same_text cue) es)) ≡ true
        → (is_some (lookup (same_text cue) es) ≡ true
        → IsOf (method.OfCue cue v) (flat_map methods_of_cue (keys_of es)))
        → IsOf (method.OfCue cue v) (methods_of_cue e.0 ++ flat_map methods_of_cue (keys_of es))
    at true same k more = subst
        (λ (c : List ℕ). IsOf (method.OfCue cue v) (methods_of_cue c ++ flat_map methods_of_cue (keys_of es)))
        (same_text-true cue e.0 same)
        (of-front (method.OfCue cue v) (methods_of_cue cue) (flat_map methods_of_cue (keys_of es)) (cue-verb cue v))
    at false other k more = of-back (method.OfCue cue v) (methods_of_cue e.0) (flat_map methods_of_cue (keys_of es))
        (more k)

device-method : (d : ℕ) (v : DeviceVerb) (es : List (ℕ × ℕ)) → is_some (lookup (nat_eq d) es) ≡ true
    → IsOf (method.OfDevice d v) (flat_map methods_of_device (keys_of es))
device-method d v [] h = cc
device-method d v (e ∷ es) h = at (nat_eq d e.0) refl h (device-method d v es)
  where
    at : (b : Bool) → nat_eq d e.0 ≡ b → is_some (cond b (Some e.1) (lookup (nat_eq d) es)) ≡ true
        → (is_some (lookup (nat_eq d) es) ≡ true
        → IsOf (method.OfDevice d v) (flat_map methods_of_device (keys_of es)))
        → IsOf (method.OfDevice d v) (methods_of_device e.0 ++ flat_map methods_of_device (keys_of es))
    at true same k more = subst
        (λ (n : ℕ). IsOf (method.OfDevice d v) (methods_of_device n ++ flat_map methods_of_device (keys_of es)))
        (same_number d e.0 same)
        (of-front (method.OfDevice d v) (methods_of_device d) (flat_map methods_of_device (keys_of es))
        (device-verb d v))
    at false other k more = of-back (method.OfDevice d v) (methods_of_device e.0)
        (flat_map methods_of_device (keys_of es)) (more k)

fixed-of : (s : ShowLists) (m : Method) → IsOf m fixed_methods → IsOf m (methods s)
unfolding methods
fixed-of s m h = of-front m fixed_methods (flat_map methods_of_cue (keys_of s.cues) ++ flat_map methods_of_device
    (keys_of s.devices)) h

cue-of : (s : ShowLists) (m : Method) → IsOf m (flat_map methods_of_cue (keys_of s.cues)) → IsOf m (methods s)
unfolding methods
cue-of s m h = of-back m fixed_methods (flat_map methods_of_cue (keys_of s.cues) ++ flat_map methods_of_device
    (keys_of s.devices)) (of-front m (flat_map methods_of_cue (keys_of s.cues))
    (flat_map methods_of_device (keys_of s.devices)) h)

device-of : (s : ShowLists) (m : Method) → IsOf m (flat_map methods_of_device (keys_of s.devices)) → IsOf m (methods s)
unfolding methods
device-of s m h = of-back m fixed_methods (flat_map methods_of_cue (keys_of s.cues) ++ flat_map methods_of_device
    (keys_of s.devices)) (of-back m (flat_map methods_of_cue (keys_of s.cues))
    (flat_map methods_of_device (keys_of s.devices)) h)

-- ---- addresses without wildcards

literal-append : (xs ys : List ℕ) → IsTrue (is_literal xs) → IsTrue (is_literal ys) → IsTrue (is_literal (xs ++ ys))
literal-append [] ys h k = k
literal-append (x ∷ xs) ys h k = let p = both (is_literal_byte x) (is_literal xs) h in
    join (is_literal_byte x) (is_literal (xs ++ ys)) p.0 (literal-append xs ys p.1 k)

digit-literal : (b : ℕ) → is_ascii_digit b ≡ true → is_literal_byte b ≡ true
digit-literal b h = grind (arith, nat_tests)

point-literal : (b : ℕ) → (b == 46) ≡ true → is_literal_byte b ≡ true
point-literal b h = grind (arith, nat_tests)

runs-literal : (a : Bool) (bs : List ℕ) → runs_from a bs ≡ true → IsTrue (is_literal bs)
runs-literal a [] h = refl
runs-literal a (b ∷ bs) h = by (is_ascii_digit b) refl h (runs-literal true bs) (runs-literal false bs)
  where
    by : (d : Bool) → is_ascii_digit b ≡ d
        → (if d then runs_from true bs else (b == 46 && (a && runs_from false bs))) ≡ true
        → (runs_from true bs ≡ true → IsTrue (is_literal bs)) → (runs_from false bs ≡ true → IsTrue (is_literal bs))
        → IsTrue (is_literal (b ∷ bs))
    by true is_digit k then_true then_false = join (is_literal_byte b) (is_literal bs) (digit-literal b is_digit)
        (then_true k)
    by false is_digit k then_true then_false =
        let p = both (b == 46) (a && runs_from false bs) k in
        join (is_literal_byte b) (is_literal bs) (point-literal b p.0) (then_false (both a (runs_from false bs) p.1).1)

cue-literal : (cue : List ℕ) → IsTrue (is_cue_number cue) → IsTrue (is_literal cue)
cue-literal cue h =
    let runs = (both (nat_le (length cue) MAX_CUE_BYTES) (list_all is_run (pieces cue)) h).1 in
    runs-literal false cue (runs_from-start cue ∙ runs)

small-literal : (n : ℕ) → n < 10 → is_literal_byte (48 + n) ≡ true
small-literal n h = grind (arith, nat_tests)

decimal-literal : (n : ℕ) → n < 2 ^ 64 → IsTrue (is_literal (decimal n))
decimal-literal n h =
    decimal_by_steps (λ m ds. IsTrue (is_literal ds))
    (λ m small. join (is_literal_byte (48 + m)) true (small-literal m small) refl)
    (λ m ds big k. literal-append ds ((48 + m % 10) ∷ []) k
    (join (is_literal_byte (48 + m % 10)) true (small-literal (m % 10) (omega arith)) refl)) n h

-- ---- one message

-- a message at the address of a method of the show is what this method reads
reads-one : (s : ShowLists) (m : Method) (xs : List Argument) → IsTrue (is_show s) → IsTrue (is_literal (address_of m))
    → is_some (address_parts (address_of m)) ≡ true → IsOf m (methods s)
    → commands_of s (address_of m) xs ≡ Ok (command_by xs m ∷ [])
unfolding commands_of
reads-one s m xs h l slash own =
    let a : List ℕ = address_of m in
    let p = literal-pattern a l slash in
    let same = filter-same (λ x. matches p.0 (address_of x)) (λ x. same_text a (address_of x))
    (λ x. literal-matches-itself a (address_of x) p.0 l p.1) (methods s) in
    let one = only-one (λ x. same_text a (address_of x)) m (methods s) own (same_text-itself a)
    (one-method_at_each s a h) in
    rw (p.1, same, one) refl

cue-number : (s : ShowLists) (cue : List ℕ) → IsTrue (is_show s) → IsTrue (has_cue s cue) → IsTrue (is_cue_number cue)
cue-number s cue h there = at (parts_of s cue) there (is_cue_of-parts_of s cue h)
  where
    at : (o : Option _) → IsTrue (is_some o) → IfSome o (λ parts. IsTrue (is_cue_of s (cue, parts)))
        → IsTrue (is_cue_number cue)
    at None k g = cc
    at (Some parts) k g = (both (is_cue_number cue) _ g).0

device-number : (s : ShowLists) (d : ℕ) → IsTrue (is_show s) → IsTrue (has_device s d) → d < 2 ^ 64
device-number s d h there = at (port_of s d) there (is_entry-port_of s d h)
  where
    small : (n : ℕ) → IsTrue (is_device n) → n < 2 ^ 64
    small n g = grind (arith, nat_tests)

    at : (o : Option ℕ) → IsTrue (is_some o) → IfSome o (λ port. IsTrue (is_entry (d, port))) → d < 2 ^ 64
    at None k g = cc
    at (Some port) k g = small d (both (is_device d) _ g).0

verb-literal : (v : CueVerb) → IsTrue (is_literal (47 ∷ cue_verb_text v))
verb-literal on_cue.Standby = refl
verb-literal _ = refl

device_verb-literal : (v : DeviceVerb) → IsTrue (is_literal (47 ∷ device_verb_text v))
device_verb-literal on_device.StandingBy = refl
device_verb-literal _ = refl

under-literal : (front name verb : List ℕ) → IsTrue (is_literal front) → IsTrue (is_literal name)
    → IsTrue (is_literal (47 ∷ verb)) → IsTrue (is_literal (front ++ (name ++ 47 ∷ verb)))
under-literal front name verb f n v = literal-append front (name ++ 47 ∷ verb) f (literal-append name (47 ∷ verb) n v)

-- what is read is what the method makes of its own arguments
as_asked : (s : ShowLists) (a : Asked) → IsTrue (is_askable a)
    → commands_of s (address_of (method_of a)) (arguments_of a) ≡ Ok (command_by (arguments_of a) (method_of a) ∷ [])
    → read_by s a ≡ Ok (command_of a ∷ [])
as_asked s a k read = read ∙ ap (λ c. Ok (c ∷ [])) (asked-read a k)

-- what asks something of a device of the show, without arguments
device-read : (s : ShowLists) (d : ℕ) (v : DeviceVerb) → IsTrue (is_show s) → IsTrue (has_device s d)
    → commands_of s (address_of (method.OfDevice d v)) [] ≡ Ok (command_by [] (method.OfDevice d v) ∷ [])
device-read s d v h there =
    let literal = under-literal (codes "/device/") (decimal d) (device_verb_text v) refl
    (decimal-literal d (device-number s d h there)) (device_verb-literal v) in
    reads-one s (method.OfDevice d v) [] h literal refl
    (device-of s (method.OfDevice d v) (device-method d v s.devices there))

pub asked-is_read : AskedIsRead
asked-is_read s asked.Status h k there =
    as_asked s asked.Status k (reads-one s method.Status [] h refl refl (fixed-of s method.Status (inl refl)))
asked-is_read s (asked.AddDevice device port) h k there =
    let a : Asked = asked.AddDevice device port in
    as_asked s a k (reads-one s method.AddDevice (arguments_of a) h refl refl
    (fixed-of s method.AddDevice (inr (inl refl))))
asked-is_read s (asked.AddCue cue parts) h k there =
    let a : Asked = asked.AddCue cue parts in
    as_asked s a k (reads-one s method.AddMixedCue (arguments_of a) h refl refl
    (fixed-of s method.AddMixedCue (inr (inr (inr (inl refl))))))
asked-is_read s (asked.OfCue verb cue) h k there =
    let literal = under-literal (codes "/cue/") cue (cue_verb_text verb) refl
    (cue-literal cue (cue-number s cue h there)) (verb-literal verb) in
    as_asked s (asked.OfCue verb cue) k
    (reads-one s (method.OfCue cue verb) [] h literal refl
    (cue-of s (method.OfCue cue verb) (cue-method cue verb s.cues there)))
asked-is_read s (asked.Release device) h k there =
    as_asked s (asked.Release device) k (device-read s device on_device.Release h there)
asked-is_read s (asked.RemoveDevice device) h k there =
    as_asked s (asked.RemoveDevice device) k (device-read s device on_device.Remove h there)
