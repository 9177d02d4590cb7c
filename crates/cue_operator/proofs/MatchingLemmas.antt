-- Commands of methods one after the other.
use Rattle.std.proofs.Common.{◌≡◌, ◌≤◌, ℕ, Bool, true, false, List, [], ◌∷◌, ◌++◌, map, filter, length, get_or, refl}
use Rattle.std.proofs.Common.{sym, ap, ◌∙◌, arith, append_assoc, append-nil}
use Rattle.std.specs.Prelude.{codes}
use Rattle.std.specs.Fmt.{decimal}
use Rattle.std.specs.List.{flat_map}
use Rattle.std.specs.Map.{keys_of}
use Rattle.std.proofs.lemmas.List.{map-append}
use Rattle.std.specs.Prelude.{IsTrue}
use Rattle.cue_show.specs.Show.{ShowLists, Cues, is_show}
use Rattle.cue_pattern.specs.Matching.{matches}
use Rattle.cue_operator.specs.Methods.{methods}
use Rattle.cue_operator.specs.Commands.{commands_at}
use Rattle.cue_operator.specs.ByParts.{methods_by}
use Rattle.cue_operator.proofs.ByPartsLemmas.{matched-by_parts}
use Rattle.cue_core.specs.declared.command.Command.{Command}
use Rattle.cue_osc.specs.Argument.{Argument}
use Rattle.cue_pattern.specs.declared.piece.Piece.{Piece}
use Rattle.cue_pattern.specs.Matching.{part_matches}
use Rattle.cue_operator.specs.declared.method.CueVerb.{CueVerb}
use Rattle.cue_operator.specs.declared.method.DeviceVerb.{DeviceVerb}
use Rattle.cue_operator.specs.declared.method.Method.{Method}
use Rattle.cue_operator.specs.declared.method.Method.TheVariants as method
use Rattle.cue_operator.specs.Methods.{cue_verb_text, device_verb_text, cue_verbs, device_verbs}
use Rattle.cue_operator.specs.Arguments.{command_by}
use Rattle.cue_operator.specs.ByParts.{methods_if, reads, named_cue, named_device, cue_commands, device_commands}
use Rattle.cue_operator.specs.ByParts.{named_method, show_by, cues_by, devices_by}

pub reads-append : (xs : List Argument) (ms ns : List Method) → reads xs (ms ++ ns) ≡ reads xs ms ++ reads xs ns
reads-append xs ms ns = map-append (command_by xs) ms ns

-- the methods of a front that is matched
pub show_found : (xs : List Argument) (front name : List Piece) (none a b c : List Command) → none ≡ []
    → part_matches front (codes "show") ≡ true
    → a ≡ none ++ reads xs (named_method name (codes "device") method.AddDevice)
    → b ≡ a ++ reads xs (named_method name (codes "cue") method.AddCue)
    → c ≡ b ++ reads xs (named_method name (codes "mixed") method.AddMixedCue) → c ≡ reads xs (show_by front name)
show_found xs front name none a b c empty matched first then last =
    let d : List Method = named_method name (codes "device") method.AddDevice in
    let e : List Method = named_method name (codes "cue") method.AddCue in
    let f : List Method = named_method name (codes "mixed") method.AddMixedCue in
    let begun : b ≡ reads xs d ++ reads xs e = then
    ∙ ap (λ cs. cs ++ reads xs e) (first ∙ ap (λ cs. cs ++ reads xs d) empty) in
    last ∙ (ap (λ cs. cs ++ reads xs f) begun
    ∙ (append_assoc (reads xs d) (reads xs e) (reads xs f)
    ∙ (ap (λ cs. reads xs d ++ cs) (sym (reads-append xs e f))
    ∙ (sym (reads-append xs d (e ++ f)) ∙ ap (λ t. reads xs (methods_if t (d ++ (e ++ f)))) (sym matched)))))

-- a verb more
pub reads_more : {V : Type 0} (xs : List Argument) (make : V → Method) (left rest : List V) (v : V)
    (found next all : List Command) → left ≡ v ∷ rest → found ++ reads xs (map make left) ≡ all
    → next ≡ found ++ command_by xs (make v) ∷ []
    → next ++ reads xs (map make rest) ≡ all
reads_more xs make left rest v found next all split was grown =
    ap (λ cs. cs ++ reads xs (map make rest)) grown
    ∙ (append_assoc found (command_by xs (make v) ∷ []) (reads xs (map make rest))
    ∙ (ap (λ vs. found ++ reads xs (map make vs)) (sym split) ∙ was))

-- ---- all entries

flat-reads : {E K : Type 0} (xs : List Argument) (key : E → K) (of_key : K → List Method) (es : List E)
    → flat_map (λ e. reads xs (of_key (key e))) es ≡ reads xs (flat_map of_key (map key es))
flat-reads xs key of_key [] = refl
flat-reads xs key of_key (e ∷ es) = ap (λ cs. reads xs (of_key (key e)) ++ cs) (flat-reads xs key of_key es)
    ∙ sym (reads-append xs (of_key (key e)) (flat_map of_key (map key es)))

pub cues_found : (xs : List Argument) (f n v : List Piece) (verbs : List CueVerb) (es : Cues)
    → verbs ≡ filter (λ w. part_matches v (cue_verb_text w)) cue_verbs → part_matches f (codes "cue") ≡ true
    → flat_map (cue_commands xs n verbs) es ≡ reads xs (cues_by f n v (keys_of es))
cues_found xs f n v verbs es is matched =
    ap (λ ws. flat_map (cue_commands xs n ws) es) is
    ∙ (flat-reads xs (λ e. e.0) (named_cue n (filter (λ w. part_matches v (cue_verb_text w)) cue_verbs)) es
    ∙ ap (λ t. reads xs (methods_if t (flat_map (named_cue n (filter (λ w. part_matches v (cue_verb_text w)) cue_verbs))
    (keys_of es)))) (sym matched))

pub devices_found : (xs : List Argument) (f n v : List Piece) (verbs : List DeviceVerb) (es : List (ℕ × ℕ))
    → verbs ≡ filter (λ w. part_matches v (device_verb_text w)) device_verbs → part_matches f (codes "device") ≡ true
    → flat_map (device_commands xs n verbs) es ≡ reads xs (devices_by f n v (keys_of es))
devices_found xs f n v verbs es is matched =
    ap (λ ws. flat_map (device_commands xs n ws) es) is
    ∙ (flat-reads xs (λ e. e.0) (named_device n (filter (λ w. part_matches v (device_verb_text w)) device_verbs)) es
    ∙ ap (λ t. reads xs (methods_if t
    (flat_map (named_device n (filter (λ w. part_matches v (device_verb_text w)) device_verbs)) (keys_of es))))
    (sym matched))

-- ---- what rules a whole family out

no_methods : (b : Bool) → methods_if b [] ≡ []
no_methods true = refl
no_methods false = refl

no-cue_named : (n : List Piece) (cs : List (List ℕ)) → flat_map (named_cue n []) cs ≡ []
no-cue_named n [] = refl
no-cue_named n (c ∷ cs) = ap (λ ms. ms ++ flat_map (named_cue n []) cs) (no_methods (part_matches n c))
    ∙ no-cue_named n cs

no-device_named : (n : List Piece) (ds : List ℕ) → flat_map (named_device n []) ds ≡ []
no-device_named n [] = refl
no-device_named n (d ∷ ds) = ap (λ ms. ms ++ flat_map (named_device n []) ds) (no_methods (part_matches n (decimal d)))
    ∙ no-device_named n ds

pub cues_no_front : (xs : List Argument) (f n v : List Piece) (found : List Command) (cs : List (List ℕ))
    → part_matches f (codes "cue") ≡ false → found ≡ found ++ reads xs (cues_by f n v cs)
cues_no_front xs f n v found cs unmatched =
    sym (ap (λ t. found ++ reads xs
    (methods_if t (flat_map (named_cue n (filter (λ w. part_matches v (cue_verb_text w)) cue_verbs)) cs))) unmatched
    ∙ append-nil found)

pub devices_no_front : (xs : List Argument) (f n v : List Piece) (found : List Command) (ds : List ℕ)
    → part_matches f (codes "device") ≡ false → found ≡ found ++ reads xs (devices_by f n v ds)
devices_no_front xs f n v found ds unmatched =
    sym (ap (λ t. found ++ reads xs
    (methods_if t (flat_map (named_device n (filter (λ w. part_matches v (device_verb_text w)) device_verbs)) ds)))
    unmatched ∙ append-nil found)

pub cues_no_verb : (xs : List Argument) (f n v : List Piece) (found : List Command) (cs : List (List ℕ))
    → filter (λ w. part_matches v (cue_verb_text w)) cue_verbs ≡ [] → found ≡ found ++ reads xs (cues_by f n v cs)
cues_no_verb xs f n v found cs none =
    sym (ap (λ (ws : List CueVerb). found ++ reads xs
    (methods_if (part_matches f (codes "cue")) (flat_map (named_cue n ws) cs))) none
    ∙ (ap (λ ms. found ++ reads xs (methods_if (part_matches f (codes "cue")) ms)) (no-cue_named n cs)
    ∙ (ap (λ ms. found ++ reads xs ms) (no_methods (part_matches f (codes "cue"))) ∙ append-nil found)))

pub devices_no_verb : (xs : List Argument) (f n v : List Piece) (found : List Command) (ds : List ℕ)
    → filter (λ w. part_matches v (device_verb_text w)) device_verbs ≡ []
    → found ≡ found ++ reads xs (devices_by f n v ds)
devices_no_verb xs f n v found ds none =
    sym (ap (λ (ws : List DeviceVerb). found ++ reads xs
    (methods_if (part_matches f (codes "device")) (flat_map (named_device n ws) ds))) none
    ∙ (ap (λ ms. found ++ reads xs (methods_if (part_matches f (codes "device")) ms)) (no-device_named n ds)
    ∙ (ap (λ ms. found ++ reads xs ms) (no_methods (part_matches f (codes "device"))) ∙ append-nil found)))

-- ---- the parts of a pattern

nothing : {X : Type 0} (xs : List X) → length xs ≡ 0 → xs ≡ []
nothing [] h = refl
nothing (x ∷ xs) h = absurd (omega arith)

pub one_part : {X : Type 0} (xs : List X) (a : X) → length xs ≡ 1 → a ≡ get_or xs 0 a → xs ≡ a ∷ []
one_part [] a h e = absurd (omega arith)
one_part (x ∷ xs) a h e = rw (e, nothing xs (omega arith)) refl

pub two_parts : {X : Type 0} (xs : List X) (a b : X) → length xs ≡ 2 → a ≡ get_or xs 0 a → b ≡ get_or xs 1 b
    → xs ≡ a ∷ b ∷ []
two_parts [] a b h e f = absurd (omega arith)
two_parts (x ∷ xs) a b h e f = rw (e, one_part xs b (omega arith) f) refl

pub three_parts : {X : Type 0} (xs : List X) (a b c : X) → length xs ≡ 3 → a ≡ get_or xs 0 a → b ≡ get_or xs 1 b
    → c ≡ get_or xs 2 c → xs ≡ a ∷ b ∷ c ∷ []
three_parts [] a b c h e f g = absurd (omega arith)
three_parts (x ∷ xs) a b c h e f g = rw (e, two_parts xs b c (omega arith) f g) refl

-- the commands of the methods that the parts match
pub by_parts : (xs : List Argument) (show : ShowLists) (p q : List (List Piece)) → IsTrue (is_show show) → q ≡ p
    → reads xs (methods_by show q) ≡ commands_at xs (matches p) (methods show)
by_parts xs show p q h is = ap (λ (r : List (List Piece)). reads xs (methods_by show r)) is
    ∙ sym (ap (reads xs) (matched-by_parts show p h))

pub by_no_parts : (xs : List Argument) (show : ShowLists) (p q : List (List Piece)) → IsTrue (is_show show) → q ≡ p
    → length q ≤ 0 → [] ≡ commands_at xs (matches p) (methods show)
by_no_parts xs show p [] h is l = by_parts xs show p [] h is
by_no_parts xs show p (a ∷ q) h is l = absurd (omega arith)

pub by_many_parts : (xs : List Argument) (show : ShowLists) (p q : List (List Piece)) → IsTrue (is_show show) → q ≡ p
    → 4 ≤ length q → [] ≡ commands_at xs (matches p) (methods show)
by_many_parts xs show p [] h is l = absurd (omega arith)
by_many_parts xs show p (a ∷ []) h is l = absurd (omega arith)
by_many_parts xs show p (a ∷ b ∷ []) h is l = absurd (omega arith)
by_many_parts xs show p (a ∷ b ∷ c ∷ []) h is l = absurd (omega arith)
by_many_parts xs show p (a ∷ b ∷ c ∷ d ∷ q) h is l = by_parts xs show p (a ∷ b ∷ c ∷ d ∷ q) h is

-- ---- names that are matched all together

mapped_twice : {X : Type 0} (now : X → List ℕ) (test : List ℕ → Bool) (xs : List X)
    → map (λ x. test (now x)) xs ≡ map test (map now xs)
mapped_twice now test [] = refl
mapped_twice now test (x ∷ xs) = ap (λ bs. test (now x) ∷ bs) (mapped_twice now test xs)

pub each_matched : {X : Type 0} (now : X → List ℕ) (test : List ℕ → Bool) (xs ys : List X) (keys : List (List ℕ))
    (matched bs : List Bool) → ys ≡ xs → map now xs ≡ keys → matched ≡ map (λ x. test (now x)) ys → bs ≡ matched
    → bs ≡ map test keys
each_matched now test xs ys keys matched bs same names each is =
    is ∙ (each ∙ (ap (map (λ x. test (now x))) same ∙ (mapped_twice now test xs ∙ ap (map test) names)))
