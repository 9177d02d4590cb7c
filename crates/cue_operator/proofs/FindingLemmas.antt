-- One method at each address, and finding it.
use Rattle.std.proofs.Common.{◌≡◌, ℕ, ◌+◌, ◌-◌, ◌≤◌, length, take, drop, Bool, true, false}
use Rattle.std.proofs.Common.{◌&&◌, List, [], ◌∷◌, ◌++◌, Option, None, Some, map, cond, nat_eq, add-one}
use Rattle.std.proofs.Common.{if◌then◌else◌, refl, sym, ap, ◌∙◌, subst, arith, append-nil}
use Rattle.std.specs.Prelude.{◌==◌, IsTrue, option_and_then, is_some, codes, Err}
use Rattle.std.specs.Option.{option_map, option_map_or, option_to_list}
use Rattle.std.specs.List.{list_all, flat_map, find, starts_with}
use Rattle.std.specs.Map.{lookup, keys_of}
use Rattle.std.specs.Cmp.Lexicographic.{pointwise}
use Rattle.std.proofs.lemmas.List.Elements.{filter-append}
use Rattle.std.proofs.lemmas.List.{length-drop}
use Rattle.std.proofs.Math.Seq.{take-length}
use Rattle.cue_show.specs.Distinct.{are_distinct}
use Rattle.cue_show.specs.Number.{same_text, is_cue_number}
use Rattle.cue_show.specs.Show.{ShowLists, Cues, is_show, is_cue_of, has_cue}
use Rattle.cue_show.specs.Show.{has_device}
use Rattle.cue_osc.specs.Argument.{Argument}
use Rattle.cue_core.specs.declared.command.Code.TheVariants as code
use Rattle.cue_pattern.specs.declared.piece.Piece.{Piece}
use Rattle.cue_pattern.specs.Literal.{is_literal}
use Rattle.cue_pattern.specs.Reading.{text_before, parts_of, pieces_of, pattern_at}
use Rattle.cue_pattern.specs.Steps.{CutsFirst}
use Rattle.cue_operator.specs.declared.method.CueVerb.{CueVerb}
use Rattle.cue_operator.specs.declared.method.DeviceVerb.{DeviceVerb}
use Rattle.cue_operator.specs.declared.method.Method.{Method}
use Rattle.cue_operator.specs.declared.method.Method.TheVariants as method
use Rattle.cue_operator.specs.Methods.{address_of, cue_verb_text, device_verb_text, cue_verbs, device_verbs}
use Rattle.cue_operator.specs.Methods.{fixed_methods, methods_of_cue, methods_of_device, methods, methods_at}
use Rattle.cue_operator.specs.Methods.{OneMethodAtEach}
use Rattle.cue_operator.specs.Arguments.{command_by}
use Rattle.cue_operator.specs.Commands.{unless_none, commands_matched, commands_of}
use Rattle.cue_operator.specs.LookUp.{rest_after, cut_at_slash, name_and_verb, cue_verbs_at, device_verbs_at}
use Rattle.cue_operator.specs.LookUp.{cue_methods_at, device_methods_at, looked_up}
use Rattle.cue_operator.specs.LookUp.{device_named}
use Rattle.cue_operator.proofs.LiteralLemmas.{literal-pattern}
use Rattle.cue_operator.proofs.LookUpLemmas.{both, equal_text, all-cues, all-devices, literal-is-looked-up}
use Rattle.cue_operator.proofs.NameLemmas.{cue_verb-found, device_verb-found, fixed-found, fixed-alone, fronts-apart}
use Rattle.cue_operator.proofs.NameLemmas.{no-device, one-device, table_of, stack_of, entries}

-- ---- what the code finds

pub device_not_named : (show : ShowLists) (name verb : List ℕ) → IsTrue (is_show show) → device_named name ≡ None
    → [] ≡ device_methods_at show (Some (name, verb))
device_not_named show name verb h n =
    sym (no-device name (λ d. map (method.OfDevice d) (device_verbs_at verb)) show.devices (entries show h).1 n)

device_is : (show : ShowLists) (name verb : List ℕ) (d : ℕ) → IsTrue (is_show show) → device_named name ≡ Some d
    → device_methods_at show (Some (name, verb))
    ≡ (if has_device show d then map (method.OfDevice d) (device_verbs_at verb) else [])
device_is show name verb d h n = one-device d name (λ k. map (method.OfDevice k) (device_verbs_at verb)) show.devices
    (entries show h).1 (entries show h).0 n

pub device_not_there : (show : ShowLists) (name verb : List ℕ) (d : ℕ) → IsTrue (is_show show)
    → device_named name ≡ Some d → has_device show d ≡ false → [] ≡ device_methods_at show (Some (name, verb))
device_not_there show name verb d h n g =
    sym (device_is show name verb d h n
    ∙ ap (λ (b : Bool). if b then map (method.OfDevice d) (device_verbs_at verb) else []) g)

pub device_found : (show : ShowLists) (name verb : List ℕ) (d : ℕ) (o : Option DeviceVerb) → IsTrue (is_show show)
    → device_named name ≡ Some d → has_device show d ≡ true
    → o ≡ find (λ v. same_text verb (device_verb_text v)) device_verbs
    → option_to_list (option_map (method.OfDevice d) o) ≡ device_methods_at show (Some (name, verb))
device_found show name verb d o h n g e =
    sym (device_is show name verb d h n
    ∙ (ap (λ (b : Bool). if b then map (method.OfDevice d) (device_verbs_at verb) else []) g
    ∙ (ap (map (method.OfDevice d)) (device_verb-found verb ∙ ap option_to_list (sym e)) ∙ listed o)))
  where
    listed : (x : Option DeviceVerb)
        → map (method.OfDevice d) (option_to_list x) ≡ option_to_list (option_map (method.OfDevice d) x)
    listed None = refl
    listed (Some v) = refl

not_a_key : (show : ShowLists) (name : List ℕ) (es : Cues) → IsTrue (list_all (is_cue_of show) es)
    → is_cue_number name ≡ false → is_some (lookup (same_text name) es) ≡ false
not_a_key show name [] h n = refl
not_a_key show name (e ∷ es) h n =
    let k = both (is_cue_of show e) (list_all (is_cue_of show) es) h in
    at (same_text name e.0) refl (both (is_cue_number e.0) _ k.0).0 (not_a_key show name es k.1 n)
  where
    at : (b : Bool) → same_text name e.0 ≡ b → IsTrue (is_cue_number e.0) → is_some (lookup (same_text name) es) ≡ false
        → is_some (cond b (Some e.1) (lookup (same_text name) es)) ≡ false
    at true q g r = let i = equal_text name e.0 q in let j : is_cue_number name ≡ true =
        subst (λ (t : List ℕ). is_cue_number t ≡ true) (sym i) g in cc
    at false q g r = r

pub cue_not_there : (show : ShowLists) (name verb : List ℕ) → has_cue show name ≡ false
    → [] ≡ cue_methods_at show (Some (name, verb))
cue_not_there show name verb g =
    sym (ap (λ (b : Bool). if b then map (method.OfCue name) (cue_verbs_at verb) else []) g)

pub cue_not_named : (show : ShowLists) (name verb : List ℕ) → IsTrue (is_show show) → is_cue_number name ≡ false
    → [] ≡ cue_methods_at show (Some (name, verb))
cue_not_named show name verb h n =
    cue_not_there show name verb
    (not_a_key show name show.cues
    (both (are_distinct same_text (keys_of show.cues)) (list_all (is_cue_of show) show.cues)
    (both _ _ (stack_of show h)).1).1 n)

pub cue_found : (show : ShowLists) (name verb : List ℕ) (o : Option CueVerb) → has_cue show name ≡ true
    → o ≡ find (λ v. same_text verb (cue_verb_text v)) cue_verbs
    → option_to_list (option_map (method.OfCue name) o) ≡ cue_methods_at show (Some (name, verb))
cue_found show name verb o g e =
    sym (ap (λ (b : Bool). if b then map (method.OfCue name) (cue_verbs_at verb) else []) g
    ∙ (ap (map (method.OfCue name)) (cue_verb-found verb ∙ ap option_to_list (sym e)) ∙ listed o))
  where
    listed : (x : Option CueVerb)
        → map (method.OfCue name) (option_to_list x) ≡ option_to_list (option_map (method.OfCue name) x)
    listed None = refl
    listed (Some v) = refl

-- ---- the whole look-up

-- what is found first, then under the one front, then under the other
looked : (show : ShowLists) (a : List ℕ) (o p : Option (List ℕ × List ℕ)) (x : Option Method)
    → find (λ m. same_text a (address_of m)) fixed_methods ≡ x → name_and_verb (codes "/cue/") a ≡ o
    → name_and_verb (codes "/device/") a ≡ p
    → looked_up show a ≡ option_to_list x ++ (cue_methods_at show o ++ device_methods_at show p)
looked show a o p x e f g =
    ap (λ ms. ms ++ (cue_methods_at show (name_and_verb (codes "/cue/") a) ++ device_methods_at show
    (name_and_verb (codes "/device/") a))) (fixed-found a ∙ ap option_to_list e)
    ∙ ap (λ ms. option_to_list x ++ ms)
    (ap (λ q. cue_methods_at show q ++ device_methods_at show (name_and_verb (codes "/device/") a)) f
    ∙ ap (λ q. cue_methods_at show o ++ device_methods_at show q) g)

pub looked-fixed : (show : ShowLists) (a : List ℕ) (m : Method)
    → find (λ x. same_text a (address_of x)) fixed_methods ≡ Some m → m ∷ [] ≡ looked_up show a
looked-fixed show a m h = let w = fixed-alone a m h in sym (looked show a None None (Some m) h w.0 w.1)

pub looked-cue : (show : ShowLists) (a : List ℕ) (p : List ℕ × List ℕ)
    → find (λ x. same_text a (address_of x)) fixed_methods ≡ None → name_and_verb (codes "/cue/") a ≡ Some p
    → cue_methods_at show (Some p) ≡ looked_up show a
looked-cue show a p h e = sym (looked show a (Some p) None None h e (fronts-apart a p e)
    ∙ append-nil (cue_methods_at show (Some p)))

pub looked-device : (show : ShowLists) (a : List ℕ) (p : Option (List ℕ × List ℕ))
    → find (λ x. same_text a (address_of x)) fixed_methods ≡ None → name_and_verb (codes "/cue/") a ≡ None
    → name_and_verb (codes "/device/") a ≡ p → device_methods_at show p ≡ looked_up show a
looked-device show a p h e f = sym (looked show a None p None h e f)

-- ---- one method at each address

few_listed : {X : Type 0} (o : Option X) → length (option_to_list o) ≤ 1
few_listed None = omega arith
few_listed (Some x) = omega arith

few_mapped : {X : Type 0} (f : X → Method) (b : Bool) (o : Option X)
    → length (if b then map f (option_to_list o) else []) ≤ 1
few_mapped f true None = omega arith
few_mapped f true (Some x) = omega arith
few_mapped f false o = omega arith

few_cues : (show : ShowLists) (o : Option (List ℕ × List ℕ)) → length (cue_methods_at show o) ≤ 1
few_cues show None = omega arith
few_cues show (Some p) =
    subst (λ (vs : List CueVerb). length (if has_cue show p.0 then map (method.OfCue p.0) vs else []) ≤ 1)
    (sym (cue_verb-found p.1)) (few_mapped (method.OfCue p.0) (has_cue show p.0) _)

few_devices : (show : ShowLists) → IsTrue (is_show show) → (o : Option (List ℕ × List ℕ))
    → length (device_methods_at show o) ≤ 1
few_devices show h None = omega arith
few_devices show h (Some p) = at (device_named p.0) refl
  where
    one : (d : ℕ) → length (if has_device show d then map (method.OfDevice d) (device_verbs_at p.1) else []) ≤ 1
    one d = subst (λ (vs : List DeviceVerb). length (if has_device show d then map (method.OfDevice d) vs else []) ≤ 1)
        (sym (device_verb-found p.1)) (few_mapped (method.OfDevice d) (has_device show d) _)

    at : (o : Option ℕ) → device_named p.0 ≡ o → length (device_methods_at show (Some p)) ≤ 1
    at None e = subst (λ (ms : List Method). length ms ≤ 1) (device_not_named show p.0 p.1 h e) (omega arith)
    at (Some d) e = subst (λ (ms : List Method). length ms ≤ 1) (sym (device_is show p.0 p.1 d h e)) (one d)

few-looked_up : (show : ShowLists) (a : List ℕ) → IsTrue (is_show show) → length (looked_up show a) ≤ 1
few-looked_up show a h = at (find (λ m. same_text a (address_of m)) fixed_methods) refl
    (name_and_verb (codes "/cue/") a) refl
  where
    at : (x : Option Method) → find (λ m. same_text a (address_of m)) fixed_methods ≡ x → (o : Option (List ℕ × List ℕ))
        → name_and_verb (codes "/cue/") a ≡ o → length (looked_up show a) ≤ 1
    at (Some m) e o f = subst (λ (ms : List Method). length ms ≤ 1) (looked-fixed show a m e) (few_listed (Some m))
    at None e (Some p) f = subst (λ (ms : List Method). length ms ≤ 1) (looked-cue show a p e f)
        (few_cues show (Some p))
    at None e None f = subst (λ (ms : List Method). length ms ≤ 1)
        (looked-device show a (name_and_verb (codes "/device/") a) e f refl)
        (few_devices show h (name_and_verb (codes "/device/") a))

-- the methods with exactly this address
at-address : (show : ShowLists) (a : List ℕ) → IsTrue (is_show show)
    → methods_at (same_text a) (methods show) ≡ looked_up show a
unfolding methods
at-address show a h =
    let cues : List Method = flat_map methods_of_cue (keys_of show.cues) in
    let devices : List Method = flat_map methods_of_device (keys_of show.devices) in
    filter-append (λ x. same_text a (address_of x)) fixed_methods (cues ++ devices)
    ∙ ap (λ xs. methods_at (same_text a) fixed_methods ++ xs)
    (filter-append (λ x. same_text a (address_of x)) cues devices
    ∙ (ap (λ xs. xs ++ methods_at (same_text a) devices) (all-cues show a (stack_of show h))
    ∙ ap (λ xs. cue_methods_at show (name_and_verb (codes "/cue/") a) ++ xs)
    (all-devices show a (table_of show h))))

pub one-method_at_each : OneMethodAtEach
one-method_at_each show a h = subst (λ (ms : List Method). length ms ≤ 1) (sym (at-address show a h))
    (few-looked_up show a h)

-- ---- an address is cut

abbrev pair : List ℕ → List ℕ → List ℕ × List ℕ
pair t u = (t, u)

cut-text_before : (r : List ℕ)
    → cut_at_slash r ≡ option_map (λ (t : List ℕ). (t, drop (length t + 1) r)) (text_before 47 r)
cut-text_before [] = refl
cut-text_before (b ∷ r) = at (b == 47) (text_before 47 r) (cut-text_before r)
  where
    at : (t : Bool) (o : Option (List ℕ)) → cut_at_slash r ≡ option_map (λ (t : List ℕ). (t, drop (length t + 1) r)) o
        → cond t (Some (pair [] r)) (option_map (λ (p : List ℕ × List ℕ). pair (b ∷ p.0) p.1) (cut_at_slash r))
        ≡ option_map (λ (u : List ℕ). (u, drop (length u + 1) (b ∷ r)))
        (if t then Some [] else option_map (λ u. b ∷ u) o)
    at true o e = refl
    at false None e = rw e refl
    at false (Some t) e = rw (e, add-one, add-one) refl

pub cut-none : (r before : List ℕ) → CutsFirst 47 r before None → cut_at_slash r ≡ None
cut-none r before h = cut-text_before r ∙ ap (option_map (λ (t : List ℕ). (t, drop (length t + 1) r))) h.inside

pub cut-some : (r before behind : List ℕ) → CutsFirst 47 r before (Some behind) → cut_at_slash r ≡ Some (before, behind)
cut-some r before behind h = cut-text_before r ∙ (ap (option_map (λ (t : List ℕ). (t, drop (length t + 1) r))) h.inside
    ∙ ap (λ (t : List ℕ). Some (before, t)) (sym h.rest.0))

-- what stands behind a front, by its length
rest_after-length : (f a : List ℕ) → rest_after f a
    ≡ (if starts_with nat_eq a f then Some (drop (length f) a) else None)
rest_after-length [] a = refl
rest_after-length (x ∷ f) [] = refl
rest_after-length (x ∷ f) (b ∷ a) = at (nat_eq x b) (pointwise nat_eq f (take (length f) a)) (rest_after-length f a)
  where
    at : (s t : Bool) → rest_after f a ≡ (if t then Some (drop (length f) a) else None)
        → (if s then rest_after f a else None) ≡ (if s && t then Some (drop (length f) a) else None)
    at true t e = e
    at false t e = refl

pub rest_after-yes : (f a : List ℕ) → starts_with nat_eq a f ≡ true → Some (drop (length f) a) ≡ rest_after f a
rest_after-yes f a h = sym (rest_after-length f a ∙ ap (λ (b : Bool). if b then Some (drop (length f) a) else None) h)

pub rest_after-no : (f a : List ℕ) → starts_with nat_eq a f ≡ false → None ≡ rest_after f a
rest_after-no f a h = sym (rest_after-length f a ∙ ap (λ (b : Bool). if b then Some (drop (length f) a) else None) h)

-- ---- what a message with such an address asks for

pub no-address : (show : ShowLists) (a : List ℕ) (xs : List Argument) → is_some (parts_of a) ≡ false
    → commands_of show a xs ≡ Err code.BadPattern
unfolding commands_of pattern_at
no-address show a xs h = at (parts_of a) h
  where
    at : (o : Option (List (List ℕ))) → is_some o ≡ false
        → option_map_or (commands_matched show xs) (option_and_then pieces_of o) (Err code.BadPattern) ≡ Err
        code.BadPattern
    at None e = refl
    at (Some ts) e = cc

pub pattern-asks : (show : ShowLists) (a : List ℕ) (xs : List Argument) (p : List (List Piece)) → pattern_at a ≡ Some p
    → commands_of show a xs ≡ commands_matched show xs p
unfolding commands_of
pattern-asks show a xs p h =
    ap (λ (o : Option (List (List Piece))). option_map_or (commands_matched show xs) o (Err code.BadPattern)) h

pub literal-asks : (show : ShowLists) (a : List ℕ) (xs : List Argument) → IsTrue (is_show show) → IsTrue (is_literal a)
    → is_some (parts_of a) ≡ true → commands_of show a xs ≡ unless_none (map (command_by xs) (looked_up show a))
literal-asks show a xs h l s =
    let p = literal-pattern a l s in
    pattern-asks show a xs p.0 p.1
    ∙ ap (λ ms. unless_none (map (command_by xs) ms)) (literal-is-looked-up show a p.0 h l p.1)

pub named-at : (f a r : List ℕ) (o : Option (List ℕ × List ℕ)) → Some r ≡ rest_after f a → cut_at_slash r ≡ o
    → name_and_verb f a ≡ o
named-at f a r o h e = ap (option_and_then cut_at_slash) (sym h) ∙ e

-- the rest of a slice from n on, as a range gives it
pub ranged : (a : List ℕ) (n : ℕ) → take (length a - n) (drop n a) ≡ drop n a
ranged a n = sym (sym (take-length (drop n a)) ∙ ap (λ m. take m (drop n a)) (length-drop n a))
