-- A pattern matched part by part.
use Rattle.std.proofs.Common.{◌≡◌, ◌≢◌, ℕ, length, Bool, true, false, ◌&&◌, List, [], ◌∷◌, ◌++◌, map, filter, cond}
use Rattle.std.proofs.Common.{refl, ap, ◌∙◌, append-nil}
use Rattle.std.specs.Prelude.{◌==◌, not, IsTrue, codes}
use Rattle.std.specs.Fmt.{decimal}
use Rattle.std.specs.List.{list_all, flat_map}
use Rattle.std.specs.Map.{keys_of}
use Rattle.std.proofs.lemmas.List.Elements.{filter-append}
use Rattle.std.proofs.lemmas.Bool.{eqb-false, not-true}
use Rattle.cue_show.specs.Devices.{distinct}
use Rattle.cue_show.specs.Distinct.{are_distinct}
use Rattle.cue_show.specs.Number.{same_text}
use Rattle.cue_show.specs.Show.{ShowLists, is_table, is_stack_of, is_cue_of, is_entry, is_show}
use Rattle.cue_pattern.specs.declared.piece.Piece.{Piece}
use Rattle.cue_pattern.specs.Meaning.{HasNo}
use Rattle.cue_pattern.specs.Matching.{part_matches, parts_match, matches}
use Rattle.cue_pattern.proofs.PartsLemmas.{parts_match-uneven, matches-part_by_part}
use Rattle.cue_operator.specs.declared.method.CueVerb.{CueVerb}
use Rattle.cue_operator.specs.declared.method.CueVerb.TheVariants as on_cue
use Rattle.cue_operator.specs.declared.method.DeviceVerb.{DeviceVerb}
use Rattle.cue_operator.specs.declared.method.DeviceVerb.TheVariants as on_device
use Rattle.cue_operator.specs.declared.method.Method.{Method}
use Rattle.cue_operator.specs.declared.method.Method.TheVariants as method
use Rattle.cue_operator.specs.Methods.{under, address_of, cue_verb_text, device_verb_text, cue_verbs, device_verbs}
use Rattle.cue_operator.specs.Methods.{fixed_methods, methods_of_cue, methods_of_device, methods, methods_at}
use Rattle.cue_operator.specs.ByParts.{methods_if, status_by, show_by, cues_by, devices_by, MatchedByParts}
use Rattle.cue_operator.proofs.LookUpLemmas.{both, no_slash, filter-same, filter-none, filter-mapped, filter-flat}
use Rattle.cue_operator.proofs.LookUpLemmas.{flat-same, flat-none, entries-no_slash, numbers-no_slash}

abbrev Pattern : Type 0
Pattern = List (List Piece)

-- ---- names and verbs have no slash

has-no : (t : List ℕ) → IsTrue (no_slash t) → HasNo 47 t
has-no [] h = tt
has-no (b ∷ t) h = let k = both (not (b == 47)) (no_slash t) h in
    (eqb-false b 47 (not-true (b == 47) k.0), has-no t k.1)

cue_verb-no_slash : (v : CueVerb) → IsTrue (no_slash (cue_verb_text v))
cue_verb-no_slash on_cue.Standby = refl
cue_verb-no_slash _ = refl

device_verb-no_slash : (v : DeviceVerb) → IsTrue (no_slash (device_verb_text v))
device_verb-no_slash on_device.StandingBy = refl
device_verb-no_slash _ = refl

-- ---- the parts of each address

under-cue : (p : Pattern) (c v : List ℕ) → IsTrue (no_slash c) → IsTrue (no_slash v)
    → matches p (under (codes "/cue/") c v) ≡ parts_match p (codes "cue" ∷ c ∷ v ∷ [])
under-cue p c v h k = matches-part_by_part p (codes "cue" ∷ c ∷ v ∷ []) (λ e. cc)
    (has-no (codes "cue") refl, (has-no c h, (has-no v k, tt)))

under-device : (p : Pattern) (d v : List ℕ) → IsTrue (no_slash d) → IsTrue (no_slash v)
    → matches p (under (codes "/device/") d v) ≡ parts_match p (codes "device" ∷ d ∷ v ∷ [])
under-device p d v h k = matches-part_by_part p (codes "device" ∷ d ∷ v ∷ []) (λ e. cc)
    (has-no (codes "device") refl, (has-no d h, (has-no v k, tt)))

at-status : (p : Pattern) → matches p (codes "/status") ≡ parts_match p (codes "status" ∷ [])
unfolding matches
at-status p = refl

at-add_device : (p : Pattern) → matches p (codes "/show/device") ≡ parts_match p (codes "show" ∷ codes "device" ∷ [])
unfolding matches
at-add_device p = refl

at-add_cue : (p : Pattern) → matches p (codes "/show/cue") ≡ parts_match p (codes "show" ∷ codes "cue" ∷ [])
unfolding matches
at-add_cue p = refl

at-add_mixed_cue : (p : Pattern) → matches p (codes "/show/mixed") ≡ parts_match p (codes "show" ∷ codes "mixed" ∷ [])
unfolding matches
at-add_mixed_cue p = refl

-- ---- parts one by one

and-true : (b : Bool) → (b && true) ≡ b
and-true true = refl
and-true false = refl

parts-one : (o : List Piece) (t : List ℕ) → parts_match (o ∷ []) (t ∷ []) ≡ part_matches o t
unfolding parts_match
parts-one o t = and-true (part_matches o t)

parts-two : (f n : List Piece) (t u : List ℕ)
    → parts_match (f ∷ n ∷ []) (t ∷ u ∷ []) ≡ (part_matches f t && part_matches n u)
unfolding parts_match
parts-two f n t u = ap (λ b. part_matches f t && b) (and-true (part_matches n u))

parts-three : (f n v : List Piece) (t u w : List ℕ)
    → parts_match (f ∷ n ∷ v ∷ []) (t ∷ u ∷ w ∷ []) ≡ (part_matches f t && (part_matches n u && part_matches v w))
unfolding parts_match
parts-three f n v t u w = ap (λ b. part_matches f t && (part_matches n u && b)) (and-true (part_matches v w))

-- ---- the methods that every show has

-- a method in front is kept where the pattern matches its address
kept-first : (p : Pattern) (m : Method) (ms ns : List Method) (b : Bool) → matches p (address_of m) ≡ b
    → methods_at (matches p) ms ≡ ns → methods_at (matches p) (m ∷ ms) ≡ methods_if b (m ∷ []) ++ ns
kept-first p m ms ns b e r = at (matches p (address_of m)) e
  where
    at : (c : Bool) → c ≡ b → cond c (m ∷ methods_at (matches p) ms) (methods_at (matches p) ms) ≡ methods_if b (m ∷ [])
        ++ ns
    at true k = rw (← k) (ap (λ xs. m ∷ xs) r)
    at false k = rw (← k) r

fixed-parted : (p : Pattern) (a b c d : Bool) → parts_match p (codes "status" ∷ []) ≡ a
    → parts_match p (codes "show" ∷ codes "device" ∷ []) ≡ b
    → parts_match p (codes "show" ∷ codes "cue" ∷ []) ≡ c → parts_match p (codes "show" ∷ codes "mixed" ∷ []) ≡ d
    → methods_at (matches p) fixed_methods ≡ methods_if a (method.Status ∷ [])
    ++ (methods_if b (method.AddDevice ∷ [])
    ++ (methods_if c (method.AddCue ∷ []) ++ methods_if d (method.AddMixedCue ∷ [])))
fixed-parted p a b c d e f g h =
    let mixed : List Method = methods_if d (method.AddMixedCue ∷ []) in
    let cues : List Method = methods_if c (method.AddCue ∷ []) ++ mixed in
    kept-first p method.Status (method.AddDevice ∷ method.AddCue ∷ method.AddMixedCue ∷ [])
    (methods_if b (method.AddDevice ∷ []) ++ cues) a (at-status p ∙ e)
    (kept-first p method.AddDevice (method.AddCue ∷ method.AddMixedCue ∷ []) cues b (at-add_device p ∙ f)
    (kept-first p method.AddCue (method.AddMixedCue ∷ []) mixed c (at-add_cue p ∙ g)
    (kept-first p method.AddMixedCue [] [] d (at-add_mixed_cue p ∙ h) refl ∙ append-nil mixed)))

-- ---- the methods of cues and devices

cues-parted : (p : Pattern) (cs : List (List ℕ)) → IsTrue (list_all no_slash cs)
    → methods_at (matches p) (flat_map methods_of_cue cs) ≡ flat_map
    (λ c. map (method.OfCue c) (filter (λ v. parts_match p (codes "cue" ∷ c ∷ cue_verb_text v ∷ [])) cue_verbs)) cs
cues-parted p cs h =
    filter-flat (λ m. matches p (address_of m)) methods_of_cue cs
    ∙ flat-same no_slash (λ c. methods_at (matches p) (methods_of_cue c))
    (λ c. map (method.OfCue c) (filter (λ v. parts_match p (codes "cue" ∷ c ∷ cue_verb_text v ∷ [])) cue_verbs))
    (λ c g. filter-mapped (λ m. matches p (address_of m)) (method.OfCue c) cue_verbs
    ∙ ap (map (method.OfCue c)) (filter-same (λ v. matches p (under (codes "/cue/") c (cue_verb_text v)))
    (λ v. parts_match p (codes "cue" ∷ c ∷ cue_verb_text v ∷ []))
    (λ v. under-cue p c (cue_verb_text v) g (cue_verb-no_slash v)) cue_verbs)) cs h

devices-parted : (p : Pattern) (ds : List ℕ) → IsTrue (list_all (λ d. no_slash (decimal d)) ds)
    → methods_at (matches p) (flat_map methods_of_device ds) ≡ flat_map
    (λ d. map (method.OfDevice d)
    (filter (λ v. parts_match p (codes "device" ∷ decimal d ∷ device_verb_text v ∷ [])) device_verbs)) ds
devices-parted p ds h =
    filter-flat (λ m. matches p (address_of m)) methods_of_device ds
    ∙ flat-same (λ d. no_slash (decimal d)) (λ d. methods_at (matches p) (methods_of_device d))
    (λ d. map (method.OfDevice d)
    (filter (λ v. parts_match p (codes "device" ∷ decimal d ∷ device_verb_text v ∷ [])) device_verbs))
    (λ d g. filter-mapped (λ m. matches p (address_of m)) (method.OfDevice d) device_verbs
    ∙ ap (map (method.OfDevice d))
    (filter-same (λ v. matches p (under (codes "/device/") (decimal d) (device_verb_text v)))
    (λ v. parts_match p (codes "device" ∷ decimal d ∷ device_verb_text v ∷ []))
    (λ v. under-device p (decimal d) (device_verb_text v) g (device_verb-no_slash v)) device_verbs)) ds h

flat-all : {A B : Type 0} (f g : A → List B) → ((x : A) → f x ≡ g x) → (xs : List A) → flat_map f xs ≡ flat_map g xs
flat-all f g e [] = refl
flat-all f g e (x ∷ xs) = rw (e x, flat-all f g e xs) refl

-- no verb of no name is matched
none-matched : {A V : Type 0} (make : A → V → Method) (test : A → V → Bool) (vs : List V)
    → ((x : A) (v : V) → test x v ≡ false) → (xs : List A) → flat_map (λ x. map (make x) (filter (test x) vs)) xs ≡ []
none-matched make test vs none xs =
    flat-all (λ x. map (make x) (filter (test x) vs)) (λ x. [])
    (λ x. ap (map (make x)) (filter-same (test x) (λ v. false) (none x) vs ∙ filter-none vs)) xs
    ∙ flat-none xs

-- the front, then the name, then the verb
three-matched : {A V : Type 0} (make : A → V → Method) (test : A → V → Bool) (front : Bool) (name : A → Bool) (verb : V
    → Bool) (vs : List V) → ((x : A) (v : V) → test x v ≡ (front && (name x && verb v))) → (xs : List A)
    → flat_map (λ x. map (make x) (filter (test x) vs)) xs ≡ methods_if front
    (flat_map (λ x. methods_if (name x) (map (make x) (filter verb vs))) xs)
three-matched {A = A} {V = V} make test front name verb vs is xs =
    flat-all (λ x. map (make x) (filter (test x) vs))
    (λ x. methods_if front (methods_if (name x) (map (make x) (filter verb vs))))
    (λ x. ap (map (make x)) (filter-same (test x) (λ v. front && (name x && verb v)) (is x) vs) ∙ one x front (name x))
    xs
    ∙ under_front front
  where
    one : (x : A) (f n : Bool)
        → map (make x) (filter (λ v. f && (n && verb v)) vs) ≡ methods_if f
        (methods_if n (map (make x) (filter verb vs)))
    one x true true = refl
    one x true false = ap (map (make x)) (filter-none vs)
    one x false n = ap (map (make x)) (filter-none vs)

    under_front : (f : Bool) → flat_map (λ x. methods_if f (methods_if (name x) (map (make x) (filter verb vs)))) xs
        ≡ methods_if f (flat_map (λ x. methods_if (name x) (map (make x) (filter verb vs))) xs)
    under_front true = refl
    under_front false = flat-none xs

-- ---- together

all-parted : (show : ShowLists) (p : Pattern) (a b c : List Method) → IsTrue (is_show show)
    → methods_at (matches p) fixed_methods ≡ a
    → (IsTrue (list_all no_slash (keys_of show.cues))
    → methods_at (matches p) (flat_map methods_of_cue (keys_of show.cues)) ≡ b)
    → (IsTrue (list_all (λ d. no_slash (decimal d)) (keys_of show.devices))
    → methods_at (matches p) (flat_map methods_of_device (keys_of show.devices)) ≡ c)
    → methods_at (matches p) (methods show) ≡ a ++ (b ++ c)
unfolding methods
all-parted show p a b c h e f g =
    let k = both (is_table show.devices) _ h in
    let m = both (is_stack_of show show.cues) _ k.1 in
    let table = both (distinct (keys_of show.devices)) (list_all is_entry show.devices) (both _ _ k.0).1 in
    let stack = both (are_distinct same_text (keys_of show.cues)) (list_all (is_cue_of show) show.cues)
    (both _ _ m.0).1 in
    let cues : List Method = flat_map methods_of_cue (keys_of show.cues) in
    let devices : List Method = flat_map methods_of_device (keys_of show.devices) in
    filter-append (λ x. matches p (address_of x)) fixed_methods (cues ++ devices)
    ∙ (ap (λ ms. ms ++ methods_at (matches p) (cues ++ devices)) e
    ∙ ap (λ ms. a ++ ms) (filter-append (λ x. matches p (address_of x)) cues devices
    ∙ (ap (λ ms. ms ++ methods_at (matches p) devices) (f (entries-no_slash show show.cues stack.1))
    ∙ ap (λ ms. b ++ ms) (g (numbers-no_slash show.devices table.1)))))

-- as many parts as none of the addresses of cues and devices has
no-cues : (p : Pattern) → ((t u v : List ℕ) → parts_match p (t ∷ u ∷ v ∷ []) ≡ false) → (cs : List (List ℕ))
    → IsTrue (list_all no_slash cs) → methods_at (matches p) (flat_map methods_of_cue cs) ≡ []
no-cues p none cs h = cues-parted p cs h
    ∙ none-matched method.OfCue (λ c v. parts_match p (codes "cue" ∷ c ∷ cue_verb_text v ∷ [])) cue_verbs
    (λ c v. none (codes "cue") c (cue_verb_text v)) cs

no-devices : (p : Pattern) → ((t u v : List ℕ) → parts_match p (t ∷ u ∷ v ∷ []) ≡ false) → (ds : List ℕ)
    → IsTrue (list_all (λ d. no_slash (decimal d)) ds) → methods_at (matches p) (flat_map methods_of_device ds) ≡ []
no-devices p none ds h = devices-parted p ds h
    ∙ none-matched method.OfDevice (λ d v. parts_match p (codes "device" ∷ decimal d ∷ device_verb_text v ∷ []))
    device_verbs (λ d v. none (codes "device") (decimal d) (device_verb_text v)) ds

uneven-one : (p : Pattern) → 1 ≢ length p → (t : List ℕ) → parts_match p (t ∷ []) ≡ false
uneven-one p ne t = parts_match-uneven p (t ∷ []) ne

uneven-two : (p : Pattern) → 2 ≢ length p → (t u : List ℕ) → parts_match p (t ∷ u ∷ []) ≡ false
uneven-two p ne t u = parts_match-uneven p (t ∷ u ∷ []) ne

uneven-three : (p : Pattern) → 3 ≢ length p → (t u v : List ℕ) → parts_match p (t ∷ u ∷ v ∷ []) ≡ false
uneven-three p ne t u v = parts_match-uneven p (t ∷ u ∷ v ∷ []) ne

show-split : (x y z w : Bool)
    → methods_if (x && y) (method.AddDevice ∷ [])
    ++ (methods_if (x && z) (method.AddCue ∷ []) ++ methods_if (x && w) (method.AddMixedCue ∷ []))
    ≡ methods_if x (methods_if y (method.AddDevice ∷ [])
    ++ (methods_if z (method.AddCue ∷ []) ++ methods_if w (method.AddMixedCue ∷ [])))
show-split true y z w = refl
show-split false y z w = refl

none-at : (show : ShowLists) (p : Pattern) → IsTrue (is_show show) → 1 ≢ length p → 2 ≢ length p → 3 ≢ length p
    → methods_at (matches p) (methods show) ≡ []
none-at show p h one two three =
    all-parted show p [] [] [] h
    (fixed-parted p false false false false (uneven-one p one _) (uneven-two p two _ _) (uneven-two p two _ _)
    (uneven-two p two _ _))
    (no-cues p (uneven-three p three) (keys_of show.cues)) (no-devices p (uneven-three p three) (keys_of show.devices))

pub matched-by_parts : MatchedByParts
matched-by_parts show [] h = none-at show [] h (λ e. cc) (λ e. cc) (λ e. cc)
matched-by_parts show (o ∷ []) h =
    all-parted show (o ∷ []) (status_by o) [] [] h
    (fixed-parted (o ∷ []) (part_matches o (codes "status")) false false false (parts-one o (codes "status"))
    (uneven-two (o ∷ []) (λ e. cc) _ _) (uneven-two (o ∷ []) (λ e. cc) _ _) (uneven-two (o ∷ []) (λ e. cc) _ _)
    ∙ append-nil (status_by o))
    (no-cues (o ∷ []) (uneven-three (o ∷ []) (λ e. cc)) (keys_of show.cues))
    (no-devices (o ∷ []) (uneven-three (o ∷ []) (λ e. cc)) (keys_of show.devices))
    ∙ append-nil (status_by o)
matched-by_parts show (f ∷ n ∷ []) h =
    let p : Pattern = f ∷ n ∷ [] in
    let x : Bool = part_matches f (codes "show") in
    all-parted show (f ∷ n ∷ []) (show_by f n) [] [] h
    (fixed-parted (f ∷ n ∷ []) false (x && part_matches n (codes "device")) (x && part_matches n (codes "cue"))
    (x && part_matches n (codes "mixed"))
    (uneven-one (f ∷ n ∷ []) (λ e. cc) _) (parts-two f n (codes "show") (codes "device"))
    (parts-two f n (codes "show") (codes "cue")) (parts-two f n (codes "show") (codes "mixed"))
    ∙ show-split x (part_matches n (codes "device")) (part_matches n (codes "cue")) (part_matches n (codes "mixed")))
    (no-cues p (uneven-three p (λ e. cc)) (keys_of show.cues))
    (no-devices p (uneven-three p (λ e. cc)) (keys_of show.devices))
    ∙ append-nil (show_by f n)
matched-by_parts show (f ∷ n ∷ v ∷ []) h =
    let p : Pattern = f ∷ n ∷ v ∷ [] in
    all-parted show p [] (cues_by f n v (keys_of show.cues)) (devices_by f n v (keys_of show.devices)) h
    (fixed-parted p false false false false (uneven-one p (λ e. cc) _) (uneven-two p (λ e. cc) _ _)
    (uneven-two p (λ e. cc) _ _) (uneven-two p (λ e. cc) _ _))
    (λ k. cues-parted p (keys_of show.cues) k
    ∙ three-matched method.OfCue (λ c w. parts_match p (codes "cue" ∷ c ∷ cue_verb_text w ∷ []))
    (part_matches f (codes "cue")) (part_matches n) (λ w. part_matches v (cue_verb_text w)) cue_verbs
    (λ c w. parts-three f n v (codes "cue") c (cue_verb_text w)) (keys_of show.cues))
    (λ k. devices-parted p (keys_of show.devices) k
    ∙ three-matched method.OfDevice (λ d w. parts_match p (codes "device" ∷ decimal d ∷ device_verb_text w ∷ []))
    (part_matches f (codes "device")) (λ d. part_matches n (decimal d)) (λ w. part_matches v (device_verb_text w))
    device_verbs (λ d w. parts-three f n v (codes "device") (decimal d) (device_verb_text w))
    (keys_of show.devices))
matched-by_parts show (a ∷ b ∷ c ∷ d ∷ p) h = none-at show (a ∷ b ∷ c ∷ d ∷ p) h (λ e. cc) (λ e. cc) (λ e. cc)
