-- A datagram that is an answer of a device is read as that, and makes its events.
use Rattle.std.proofs.Common.{◌≡◌, ◌∙◌, ℕ, ◌+◌, ◌%◌, ◌<◌, ◌≤◌, ◌^◌, ◌⊎◌, inl, inr, Bool, true, false, if◌then◌else◌}
use Rattle.std.proofs.Common.{cond, List, [], ◌∷◌, ◌++◌, filter, length, IsTrue, Option, Some, None, is_some, refl, ap}
use Rattle.std.proofs.Common.{subst, arith, nat_eq, append_assoc, append-nil, pos, rules}
use Rattle.std.specs.Prelude.{IfSome, Ok, codes, FitsSigned}
use Rattle.std.specs.Int.{w32}
use Rattle.std.specs.Fmt.{decimal}
use Rattle.std.specs.List.{flat_map}
use Rattle.std.specs.Map.{lookup, keys_of}
use Rattle.std.proofs.lemmas.Bool.Decides.{nat_tests}
use Rattle.std.proofs.lemmas.Fmt.{decimal_by_steps, length-decimal-le}
use Rattle.std.proofs.lemmas.Int.{ints}
use Rattle.std.proofs.lemmas.List.{length-append, length-replicate}
use Rattle.cue_show.specs.DeviceNumber.{is_device}
use Rattle.cue_show.specs.Number.{same_text}
use Rattle.cue_show.specs.Show.{ShowLists, has_device, is_entry, is_show, port_of}
use Rattle.cue_show.proofs.ChangeLemmas.{is_entry-port_of}
use Rattle.cue_show.proofs.TestLemmas.{both, join, same_number}
use Rattle.cue_show.proofs.TextLemmas.{same_text-itself}
use Rattle.cue_exchange.specs.Live.{is_number}
use Rattle.cue_osc.specs.Argument.{Argument}
use Rattle.cue_osc.specs.Content.{Content, message}
use Rattle.cue_osc.specs.Reading.{datagram_at}
use Rattle.cue_osc.specs.Spelling.{IsAddress, IsText}
use Rattle.cue_osc.specs.Writing.{text_of}
use Rattle.cue_pattern.specs.Literal.{is_literal, is_literal_byte}
use Rattle.cue_pattern.specs.Matching.{matches}
use Rattle.cue_pattern.specs.Reading.{parts_of}
use Rattle.cue_core.specs.declared.command.Command.{Command}
use Rattle.cue_core.specs.declared.command.Command.TheVariants.{Reply}
use Rattle.cue_core.specs.declared.event.Event.{Event}
use Rattle.cue_core.specs.Judge.{on_answer}
use Rattle.cue_core.specs.InTurn.{step_of}
use Rattle.cue_core.specs.State.{ShowState, is_state}
use Rattle.cue_core.proofs.rules.RuleLemmas.{rules_of}
use Rattle.cue_operator.specs.declared.method.DeviceVerb.{DeviceVerb}
use Rattle.cue_operator.specs.declared.method.DeviceVerb.TheVariants as on_device
use Rattle.cue_operator.specs.declared.method.Method.{Method}
use Rattle.cue_operator.specs.declared.method.Method.TheVariants as method
use Rattle.cue_operator.specs.Arguments.{command_by, or_bad_number}
use Rattle.cue_operator.specs.Commands.{commands_of}
use Rattle.cue_operator.specs.Methods.{address_of, device_verb_text, fixed_methods, methods, methods_of_cue}
use Rattle.cue_operator.specs.Methods.{methods_of_device}
use Rattle.cue_operator.proofs.FindingLemmas.{one-method_at_each}
use Rattle.cue_operator.proofs.LiteralLemmas.{literal-matches-itself, literal-pattern}
use Rattle.cue_operator.proofs.LookUpLemmas.{filter-same}
use Rattle.cue_outbox.proofs.ReadBackLemmas.{read_back}
use Rattle.cue_engine.specs.Given.{Given, are_too_many, datagram, given_by, given_heard, given_of, messages_in}
use Rattle.cue_engine.specs.Given.{unless_later}
use Rattle.cue_engine.specs.Heard.{Heard, carried, carried_out, hear}
use Rattle.cue_engine.proofs.GivenLemmas.{given_by_test}
use Rattle.cue_device.specs.declared.words.Answer.{Answer}
use Rattle.cue_device.specs.declared.words.Answer.TheVariants.{StandingBy, Complete, Cancelled, Abort}
use Rattle.cue_device.specs.Datagrams.{answer_address, answer_content, answer_text, number, verb}
use Rattle.cue_device.specs.Hearing.{answered_for}
use Rattle.cue_stage.specs.Going.{kind_of}

-- ---- the method of a device among those of a show

-- the method is one of these
abbrev IsOf : Method → List Method → Type 0
IsOf m [] = ⊥
IsOf m (n ∷ ns) = (m ≡ n) ⊎ IsOf m ns

of_front : (m : Method) (xs ys : List Method) → IsOf m xs → IsOf m (xs ++ ys)
of_front m [] ys h = absurd h
of_front m (x ∷ xs) ys (inl e) = inl e
of_front m (x ∷ xs) ys (inr h) = inr (of_front m xs ys h)

of_back : (m : Method) (xs ys : List Method) → IsOf m ys → IsOf m (xs ++ ys)
of_back m [] ys h = h
of_back m (x ∷ xs) ys h = inr (of_back m xs ys h)

-- one that passes the test is not filtered out
some_left : (p : Method → Bool) (m : Method) (ms : List Method) → IsOf m ms → p m ≡ true → 1 ≤ length (filter p ms)
some_left p m [] h t = absurd h
some_left p m (n ∷ ns) h t = at (p n) refl h (λ k. some_left p m ns k t)
  where
    at : (b : Bool) → p n ≡ b → (m ≡ n) ⊎ IsOf m ns → (IsOf m ns → 1 ≤ length (filter p ns))
        → 1 ≤ length (cond b (n ∷ filter p ns) (filter p ns))
    at true e k more = omega arith
    at false e (inl same) more = let no : p n ≡ true = subst (λ x. p x ≡ true) same t in cc
    at false e (inr k) more = more k

nothing : (ms : List Method) → length ms ≤ 0 → ms ≡ []
nothing [] h = refl
nothing (m ∷ ms) h = absurd (omega arith)

-- where one at most passes the test, it is this one
only_one : (p : Method → Bool) (m : Method) (ms : List Method) → IsOf m ms → p m ≡ true → length (filter p ms) ≤ 1
    → filter p ms ≡ m ∷ []
only_one p m [] h t few = absurd h
only_one p m (n ∷ ns) h t few = at (p n) refl h few (λ k. only_one p m ns k t)
  where
    at : (b : Bool) → p n ≡ b → (m ≡ n) ⊎ IsOf m ns → length (cond b (n ∷ filter p ns) (filter p ns)) ≤ 1
        → (IsOf m ns → length (filter p ns) ≤ 1 → filter p ns ≡ m ∷ [])
        → cond b (n ∷ filter p ns) (filter p ns) ≡ m ∷ []
    at true e (inl same) few more = let none = nothing (filter p ns) (omega arith) in rw (none, same) refl
    at true e (inr k) few more = let some = some_left p m ns k t in absurd (omega arith)
    at false e (inl same) few more = let no : p n ≡ true = subst (λ x. p x ≡ true) same t in cc
    at false e (inr k) few more = more k few

device_verb : (device : ℕ) (v : DeviceVerb) → IsOf (method.OfDevice device v) (methods_of_device device)
device_verb device on_device.StandingBy = inl refl
device_verb device _ = search (inl, inr) depth 12

device_method : (d : ℕ) (v : DeviceVerb) (es : List (ℕ × ℕ)) → is_some (lookup (nat_eq d) es) ≡ true
    → IsOf (method.OfDevice d v) (flat_map methods_of_device (keys_of es))
device_method d v [] h = cc
device_method d v (e ∷ es) h = at (nat_eq d e.0) refl h (device_method d v es)
  where
    at : (b : Bool) → nat_eq d e.0 ≡ b → is_some (cond b (Some e.1) (lookup (nat_eq d) es)) ≡ true
        → (is_some (lookup (nat_eq d) es) ≡ true
        → IsOf (method.OfDevice d v) (flat_map methods_of_device (keys_of es)))
        → IsOf (method.OfDevice d v) (methods_of_device e.0 ++ flat_map methods_of_device (keys_of es))
    at true same k more = subst
        (λ (n : ℕ). IsOf (method.OfDevice d v) (methods_of_device n ++ flat_map methods_of_device (keys_of es)))
        (same_number d e.0 same)
        (of_front (method.OfDevice d v) (methods_of_device d) (flat_map methods_of_device (keys_of es))
        (device_verb d v))
    at false other k more = of_back (method.OfDevice d v) (methods_of_device e.0)
        (flat_map methods_of_device (keys_of es)) (more k)

device_of : (s : ShowLists) (m : Method) → IsOf m (flat_map methods_of_device (keys_of s.devices)) → IsOf m (methods s)
unfolding methods
device_of s m h = of_back m fixed_methods (flat_map methods_of_cue (keys_of s.cues) ++ flat_map methods_of_device
    (keys_of s.devices)) (of_back m (flat_map methods_of_cue (keys_of s.cues))
    (flat_map methods_of_device (keys_of s.devices)) h)

-- ---- the address of an answer

literal_append : (xs ys : List ℕ) → IsTrue (is_literal xs) → IsTrue (is_literal ys) → IsTrue (is_literal (xs ++ ys))
literal_append [] ys h k = k
literal_append (x ∷ xs) ys h k = let p = both (is_literal_byte x) (is_literal xs) h in
    join (is_literal_byte x) (is_literal (xs ++ ys)) p.0 (literal_append xs ys p.1 k)

text_append : (xs ys : List ℕ) → IsText xs → IsText ys → IsText (xs ++ ys)
text_append [] ys h k = k
text_append (x ∷ xs) ys h k = (h.0, text_append xs ys h.1 k)

digit_literal : (n : ℕ) → n < 10 → is_literal_byte (48 + n) ≡ true
digit_literal n h = grind (arith, nat_tests)

decimal_literal : (n : ℕ) → n < 2 ^ 64 → IsTrue (is_literal (decimal n))
decimal_literal n h =
    decimal_by_steps (λ m ds. IsTrue (is_literal ds))
    (λ m small. join (is_literal_byte (48 + m)) true (digit_literal m small) refl)
    (λ m ds big k. literal_append ds ((48 + m % 10) ∷ []) k
    (join (is_literal_byte (48 + m % 10)) true (digit_literal (m % 10) (omega arith)) refl)) n h

decimal_text : (n : ℕ) → n < 2 ^ 64 → IsText (decimal n)
decimal_text n h =
    decimal_by_steps (λ m ds. IsText ds) (λ m small. (omega arith, tt))
    (λ m ds big k. text_append ds ((48 + m % 10) ∷ []) k (omega arith, tt)) n h

-- the verb of an answer
abbrev verb_of : Answer → DeviceVerb
verb_of (StandingBy q) = on_device.StandingBy
verb_of (Complete q) = on_device.Complete
verb_of (Cancelled q) = on_device.Cancelled
verb_of (Abort q) = on_device.Abort

verb_text : (x : Answer) → verb x ≡ 47 ∷ device_verb_text (verb_of x)
verb_text (StandingBy q) = refl
verb_text (Complete q) = refl
verb_text (Cancelled q) = refl
verb_text (Abort q) = refl

verb_literal : (x : Answer) → IsTrue (is_literal (verb x))
verb_literal (StandingBy q) = refl
verb_literal (Complete q) = refl
verb_literal (Cancelled q) = refl
verb_literal (Abort q) = refl

verb_is_text : (x : Answer) → IsText (verb x)
verb_is_text (StandingBy q) = search rules
verb_is_text (Complete q) = search rules
verb_is_text (Cancelled q) = search rules
verb_is_text (Abort q) = search rules

verb_short : (x : Answer) → length (verb x) ≤ 16
verb_short (StandingBy q) = omega arith
verb_short (Complete q) = omega arith
verb_short (Cancelled q) = omega arith
verb_short (Abort q) = omega arith

address_is : (d : ℕ) (x : Answer) → answer_address d x ≡ address_of (method.OfDevice d (verb_of x))
address_is d x = append_assoc (codes "/device/") (decimal d) (verb x)
    ∙ ap (λ (t : List ℕ). codes "/device/" ++ (decimal d ++ t)) (verb_text x)

address_literal : (d : ℕ) (x : Answer) → d < 2 ^ 64 → IsTrue (is_literal (answer_address d x))
address_literal d x h = literal_append (codes "/device/" ++ decimal d) (verb x)
    (literal_append (codes "/device/") (decimal d) refl (decimal_literal d h)) (verb_literal x)

front_text : IsText (codes "/device/")
front_text = search rules

address_text : (d : ℕ) (x : Answer) → d < 2 ^ 64 → IsText (answer_address d x)
address_text d x h = text_append (codes "/device/" ++ decimal d) (verb x)
    (text_append (codes "/device/") (decimal d) front_text (decimal_text d h)) (verb_is_text x)

address_short : (d : ℕ) (x : Answer) → d < 1000 → length (answer_address d x) ≤ 64
address_short d x h =
    let a = length-append (codes "/device/" ++ decimal d) (verb x) in
    let b = length-append (codes "/device/") (decimal d) in
    let c = length-decimal-le 3 d (omega arith) (omega arith) (omega arith) in
    let v = verb_short x in
    rw (a, b) (omega arith)

-- ---- one message

small_device : (s : ShowLists) (d : ℕ) → IsTrue (is_show s) → IsTrue (has_device s d) → d < 1000
small_device s d h there = at (port_of s d) there (is_entry-port_of s d h)
  where
    small : (n : ℕ) → IsTrue (is_device n) → n < 1000
    small n g = grind (arith, nat_tests)

    at : (o : Option ℕ) → IsTrue (is_some o) → IfSome o (λ port. IsTrue (is_entry (d, port))) → d < 1000
    at None k g = cc
    at (Some port) k g = small d (both (is_device d) _ g).0

-- a message at the address of a method of the show is what this method reads
reads_one : (s : ShowLists) (m : Method) (xs : List Argument) (a : List ℕ) → a ≡ address_of m → IsTrue (is_show s)
    → IsTrue (is_literal a) → is_some (parts_of a) ≡ true → IsOf m (methods s)
    → commands_of s a xs ≡ Ok (command_by xs m ∷ [])
unfolding commands_of
reads_one s m xs a is h l slash own =
    let p = literal-pattern a l slash in
    let same = filter-same (λ x. matches p.0 (address_of x)) (λ x. same_text a (address_of x))
    (λ x. literal-matches-itself a (address_of x) p.0 l p.1) (methods s) in
    let passes : same_text a (address_of m) ≡ true = subst (λ (t : List ℕ). same_text a t ≡ true) is (same_text-itself a) in
    let one = only_one (λ x. same_text a (address_of x)) m (methods s) own passes (one-method_at_each s a h) in
    rw (p.1, same, one) refl

numbered : (q : ℕ) (make : ℕ → Command) → IsTrue (is_number q)
    → or_bad_number (if is_number q then Some (make q) else None) ≡ make q
numbered q make h = rw h refl

reads_number : (d : ℕ) (x : Answer) → IsTrue (is_number (answered_for x))
    → command_by (number (answered_for x) ∷ []) (method.OfDevice d (verb_of x)) ≡ Reply (kind_of x) d (answered_for x)
unfolding command_by
reads_number d (StandingBy q) h = rw h refl
reads_number d (Complete q) h = rw h refl
reads_number d (Cancelled q) h = rw h refl
reads_number d (Abort q) h = rw h refl

pub answer_asks : (s : ShowLists) (d : ℕ) (x : Answer) → IsTrue (is_show s) → IsTrue (has_device s d)
    → IsTrue (is_number (answered_for x))
    → commands_of s (answer_address d x) (number (answered_for x) ∷ [])
    ≡ Ok (Reply (kind_of x) d (answered_for x) ∷ [])
answer_asks s d x h there n =
    let small : d < 1000 = small_device s d h there in
    reads_one s (method.OfDevice d (verb_of x)) (number (answered_for x) ∷ []) (answer_address d x) (address_is d x) h
    (address_literal d x (omega arith)) refl
    (device_of s (method.OfDevice d (verb_of x)) (device_method d (verb_of x) s.devices there))
    ∙ ap (λ (c : Command). Ok (c ∷ [])) (reads_number d x n)

-- ---- one datagram

fits : (n : ℕ) → IsTrue (is_number n) → FitsSigned w32 (pos n)
fits n h = let p = small n h in omega (arith, ints)
  where
    small : (m : ℕ) → IsTrue (is_number m) → m < 2 ^ 31
    small m g = grind (arith, nat_tests)

is_address : (d : ℕ) (x : Answer) → IsText (answer_address d x) → IsAddress (answer_address d x)
is_address d x t = (refl, t.1)

message_read : (address : List ℕ) (n : ℕ) → IsAddress address → length address ≤ 64 → IsTrue (is_number n)
    → datagram_at (text_of (message address (number n ∷ []))) ≡ Ok (message address (number n ∷ []))
message_read address n a short h = read_back (message address (number n ∷ [])) (record {
  plain = (a, (tt, tt));
  in_range = (fits n h, tt);
  short = simp (length-append, length-replicate) (omega arith);
})

brings_one : (now : ℕ) (bytes address : List ℕ) (xs : List Argument) → datagram_at bytes ≡ Ok (message address xs)
    → messages_in now bytes ≡ Ok (message address xs ∷ [])
unfolding messages_in
brings_one now bytes address xs e = ap (unless_later now) e

answer_read : (now d : ℕ) (x : Answer) → d < 1000 → IsTrue (is_number (answered_for x))
    → messages_in now (answer_text d x) ≡ Ok (answer_content d x ∷ [])
unfolding answer_text
answer_read now d x small n =
    brings_one now (text_of (answer_content d x)) (answer_address d x) (number (answered_for x) ∷ [])
    (message_read (answer_address d x) (answered_for x) (is_address d x (address_text d x (omega arith)))
    (address_short d x small) n)

-- the one message, heard
heard_one : (s : ShowState) (now from : ℕ) (address : List ℕ) (xs : List Argument) (c : Command)
    → commands_of s.show address xs ≡ Ok (c ∷ [])
    → hear s now from (message address xs) ≡ carried address (step_of s now from c ∷ [])
unfolding hear
heard_one s now from address xs c e = ap (carried_out s now from address) e

heard_batch : (s : ShowState) (now from : ℕ) (h : Heard) (c : Command) (address : List ℕ) → h ≡ carried address
    (step_of s now from c ∷ []) → are_too_many (carried address (step_of s now from c ∷ []) ∷ []) ≡ false
    → (given_heard s from (h ∷ [])).batch ≡ (step_of s now from c).events
heard_batch s now from h c address e few =
    let hs : List Heard = carried address (step_of s now from c ∷ []) ∷ [] in
    let es : List Event = (step_of s now from c).events in
    ap (λ (x : Heard). (given_heard s from (x ∷ [])).batch) e
    ∙ ap (λ (g : Given). g.batch) (given_by_test s from hs false few)
    ∙ append-nil (es ++ []) ∙ append-nil es

-- what a datagram gives, that brings this one message
of_message : (s : ShowState) (now from : ℕ) (bytes : List ℕ) (m : Content) → messages_in now bytes ≡ Ok (m ∷ [])
    → given_of s now (datagram from bytes) ≡ given_heard s from (hear s now from m ∷ [])
unfolding given_of
of_message s now from bytes m e = ap (given_by s now from) e

-- its events are those that the answer makes, where they fit
pub answer_makes : (s : ShowState) (now from d : ℕ) (x : Answer) → IsTrue (is_state s) → IsTrue (has_device s.show d)
    → IsTrue (is_number (answered_for x))
    → are_too_many (carried (answer_address d x)
    (step_of s now from (Reply (kind_of x) d (answered_for x)) ∷ []) ∷ []) ≡ false
    → (given_of s now (datagram from (answer_text d x))).batch
    ≡ (on_answer s from (kind_of x) d (answered_for x)).1
answer_makes s now from d x h there n few =
    let show : IsTrue (is_show s.show) = (rules_of s h).show in
    let c : Command = Reply (kind_of x) d (answered_for x) in
    ap (λ (g : Given). g.batch) (of_message s now from (answer_text d x) (answer_content d x)
    (answer_read now d x (small_device s.show d show there) n))
    ∙ heard_batch s now from (hear s now from (answer_content d x)) c (answer_address d x)
    (heard_one s now from (answer_address d x) (number (answered_for x) ∷ []) c (answer_asks s.show d x show there n)) few
