-- Which buttons are lit: of those that there are, the ones that may be; and the great ones are among them.
use Rattle.std.proofs.Common.{◌≡◌, refl, sym, ap, ◌∙◌, subst, ℕ, Bool, true, false, ◌&&◌, ◌||◌, cond, List, [], ◌∷◌}
use Rattle.std.proofs.Common.{◌++◌, append-nil, map}
use Rattle.std.proofs.Common.{Option, None, Some, filter, IsTrue, ⊎_elim}
use Rattle.std.proofs.lemmas.Map.Made.{is_some-lookup}
use Rattle.std.specs.List.{filter_map, flat_map, list_any}
use Rattle.std.specs.Option.{option_map_or}
use Rattle.cue_show.proofs.TestLemmas.{both, cases, or_left, or_right, same_number}
use Rattle.cue_show.proofs.TextLemmas.{same_text-swapped, same_text-true}
use Rattle.cue_show.specs.Number.{same_text}
use Rattle.cue_show.specs.Show.{has_cue}
use Rattle.cue_exchange.proofs.LookUpLemmas.{find-passes}
use Rattle.cue_exchange.specs.Answers.{is_preparing}
use Rattle.cue_exchange.specs.Live.{attempt_of, has_number}
use Rattle.cue_exchange.specs.declared.attempt.Attempt.{Attempt}
use Rattle.cue_view.specs.declared.button.Button.{Button}
use Rattle.cue_view.specs.declared.button.Button.TheVariants as button
use Rattle.cue_station.specs.declared.heard.Copied.{Copied}
use Rattle.cue_station.specs.declared.lighting.Footing.{Footing}
use Rattle.cue_station.specs.declared.memory.Reading.{Reading}
use Rattle.cue_station.specs.declared.memory.Seen.{Seen}
use Rattle.cue_view.specs.declared.view.Alarm.{Alarm}
use Rattle.cue_view.specs.declared.view.Next.{Next}
use Rattle.cue_view.specs.declared.view.Next.TheVariants as next
use Rattle.cue_station.proofs.ButtonLemmas.{same_button-itself, same_button-true}
use Rattle.cue_station.specs.Following.{next_in}
use Rattle.cue_station.specs.Laws.{is_key}
use Rattle.cue_station.specs.Lighting.{go_and_cancel, is_live_as, is_next, is_number, is_ready, keys_of}
use Rattle.cue_station.specs.Lighting.{keys_of_choice, may_by, may_in, standby_of}
use Rattle.cue_station.specs.Offering.{is_lit, same_button}
use Rattle.cue_station.specs.Drawing.{ShowsReading}
use Rattle.cue_station.specs.Showing.{since_in}
use Rattle.cue_station.specs.Smaller.{failure_of, of_attempt, smaller_of}
use Rattle.cue_station.specs.Viewing.{AreStack, LightsBy}
use Rattle.cue_view.specs.declared.view.View.{View}

-- ---- what is lit passes the test

lit_more : (p : Button → Bool) (b x : Button) (xs : List Button) → (IsTrue (is_lit b (filter p xs)) → IsTrue (p b))
    → (t : Bool) → p x ≡ t → IsTrue (is_lit b (cond t (x ∷ filter p xs) (filter p xs))) → IsTrue (p b)
lit_more p b x xs ih false was h = ih h
lit_more p b x xs ih true was h =
    ⊎_elim
    (λ (e : same_button b x ≡ true). subst (λ y. IsTrue (p y)) (sym (same_button-true b x e)) was)
    (λ (e : same_button b x ≡ false). ih (subst (λ v. IsTrue (v || is_lit b (filter p xs))) e h))
    (cases (same_button b x))

pub lit-passes : (p : Button → Bool) (b : Button) (xs : List Button) → IsTrue (is_lit b (filter p xs)) → IsTrue (p b)
lit-passes p b [] h = (cc)
lit-passes p b (x ∷ xs) h = lit_more p b x xs (lit-passes p b xs) (p x) refl h

-- ---- what is there and passes the test is lit

lit_kept : (p : Button → Bool) (b x : Button) (rest : List Button) → IsTrue (p b) → (s : Bool) → same_button b x ≡ s
    → (t : Bool) → p x ≡ t → (IsTrue s → IsTrue t)
    → (s ≡ false → IsTrue (is_lit b rest)) → IsTrue (is_lit b (cond t (x ∷ rest) rest))
lit_kept p b x rest h true e true was g k = or_left (same_button b x) (is_lit b rest) e
lit_kept p b x rest h true e false was g k = absurd (cc (g refl))
lit_kept p b x rest h false e true was g k = or_right (same_button b x) (is_lit b rest) (k refl)
lit_kept p b x rest h false e false was g k = k refl

rest_lit : (s r : Bool) → IsTrue (s || r) → s ≡ false → IsTrue r
rest_lit true r h e = (cc)
rest_lit false r h e = h

pub passes-lit : (p : Button → Bool) (b : Button) (xs others : List Button) → IsTrue (p b) → IsTrue (is_lit b xs)
    → IsTrue (is_lit b (filter p (xs ++ others)))
passes-lit p b [] others h k = (cc)
passes-lit p b (x ∷ xs) others h k =
    lit_kept p b x (filter p (xs ++ others)) h (same_button b x) refl (p x) refl
    (λ e. subst (λ y. IsTrue (p y)) (same_button-true b x e) h)
    (λ e. passes-lit p b xs others h (rest_lit (same_button b x) (is_lit b xs) k e))

-- ---- the great buttons are there

pub live_found : (q : ℕ) (test : Attempt → Bool) (o : Option Attempt) → IsTrue (option_map_or test o false)
    → (a : Attempt) × (o ≡ Some a) × IsTrue (test a)
live_found q test None h = (cc)
live_found q test (Some a) h = (a, refl, h)

chosen_is : (q : ℕ) (o : Option ℕ) → IsTrue (is_number q o) → o ≡ Some q
chosen_is q None h = (cc)
chosen_is q (Some p) h = ap Some (same_number p q h)

-- of the attempt that is chosen GO and CANCEL are there
choice_there : (live : List Attempt) (cue : List ℕ) (q : ℕ) (chosen : Option ℕ) (a : Attempt) → chosen ≡ Some q
    → attempt_of live q ≡ Some a → a.cue ≡ cue
    → keys_of_choice live chosen ≡ button.Go cue q ∷ button.Cancel cue q ∷ []
choice_there live cue q chosen a e f g =
    ap (keys_of_choice live) e ∙ ap (λ o. option_map_or go_and_cancel o []) f
    ∙ ap (λ c. button.Go c a.seq ∷ button.Cancel c a.seq ∷ []) g
    ∙ ap (λ n. button.Go cue n ∷ button.Cancel cue n ∷ []) (same_number a.seq q (find-passes (has_number q) live a f))

lit_front : (b : Button) (xs ys : List Button) → IsTrue (is_lit b xs) → IsTrue (is_lit b (xs ++ ys))
lit_front b [] ys h = (cc)
lit_front b (x ∷ xs) ys h =
    ⊎_elim
    (λ (e : same_button b x ≡ true). or_left (same_button b x) (is_lit b (xs ++ ys)) e)
    (λ (e : same_button b x ≡ false). or_right (same_button b x) (is_lit b (xs ++ ys))
    (lit_front b xs ys (rest_lit (same_button b x) (is_lit b xs) h e)))
    (cases (same_button b x))

lit_back : (b : Button) (xs ys : List Button) → IsTrue (is_lit b ys) → IsTrue (is_lit b (xs ++ ys))
lit_back b [] ys h = h
lit_back b (x ∷ xs) ys h = or_right (same_button b x) (is_lit b (xs ++ ys)) (lit_back b xs ys h)

go_lit : (cue : List ℕ) (q : ℕ) → IsTrue (is_lit (button.Go cue q) (button.Go cue q ∷ button.Cancel cue q ∷ []))
go_lit cue q =
    or_left (same_button (button.Go cue q) (button.Go cue q)) (is_lit (button.Go cue q) (button.Cancel cue q ∷ []))
    (same_button-itself (button.Go cue q))

cancel_lit : (cue : List ℕ) (q : ℕ)
    → IsTrue (is_lit (button.Cancel cue q) (button.Go cue q ∷ button.Cancel cue q ∷ []))
cancel_lit cue q =
    or_left (same_button (button.Cancel cue q) (button.Cancel cue q)) (is_lit (button.Cancel cue q) [])
    (same_button-itself (button.Cancel cue q))

choice_lit : (b : Button) (live : List Attempt) (cue : List ℕ) (q : ℕ) (chosen : Option ℕ) (test : Attempt → Bool)
    → IsTrue (is_number q chosen) → IsTrue (is_live_as q (λ a. same_text a.cue cue && test a) live)
    → IsTrue (is_lit b (button.Go cue q ∷ button.Cancel cue q ∷ [])) → IsTrue (is_lit b (keys_of_choice live chosen))
choice_lit b live cue q chosen test n l h =
    let found = live_found q (λ a. same_text a.cue cue && test a) (attempt_of live q) l in
    let at = both (same_text found.0.cue cue) (test found.0) found.2 in
    subst (λ ks. IsTrue (is_lit b ks))
    (sym (choice_there live cue q chosen found.0 (chosen_is q chosen n) found.1
    (same_text-true found.0.cue cue at.0))) h

standby_lit : (cue : List ℕ) (n : Next) → IsTrue (is_next cue n) → IsTrue (is_lit (button.Standby cue) (standby_of n))
standby_lit cue (next.Cue d) h = or_left (same_text cue d) false (same_text-swapped cue d ∙ h)
standby_lit cue next.Empty h = (cc)
standby_lit cue next.End h = (cc)
standby_lit cue next.Unknown h = (cc)

-- the second and the third of three tests that pass
last_two : (x y z w : Bool) → IsTrue ((x && (y && z)) && w) → IsTrue z × IsTrue w
last_two x y z w h =
    let k = both (x && (y && z)) w h in
    let m = both x (y && z) k.0 in
    ((both y z m.1).1, k.1)

abbrev both_keys : Footing → Copied → List Button
both_keys f c = keys_of_choice c.state.live f.chosen ++ keys_of_choice c.state.live f.going

-- CANCEL of the attempt that is chosen, or of the one of an open GO
cancel_there : (f : Footing) (c : Copied) (cue : List ℕ) (q : ℕ)
    → IsTrue ((f.is_calm && is_number q f.chosen) || is_number q f.going)
    → IsTrue (is_live_as q (λ a. same_text a.cue cue && is_preparing a.stage) c.state.live)
    → IsTrue (is_lit (button.Cancel cue q) (both_keys f c))
cancel_there f c cue q h l =
    let calm = f.is_calm && is_number q f.chosen in
    ⊎_elim
    (λ (e : calm ≡ true).
    lit_front (button.Cancel cue q) (keys_of_choice c.state.live f.chosen) (keys_of_choice c.state.live f.going)
    (choice_lit (button.Cancel cue q) c.state.live cue q f.chosen (λ a. is_preparing a.stage)
    (both f.is_calm (is_number q f.chosen) e).1 l (cancel_lit cue q)))
    (λ (e : calm ≡ false).
    lit_back (button.Cancel cue q) (keys_of_choice c.state.live f.chosen) (keys_of_choice c.state.live f.going)
    (choice_lit (button.Cancel cue q) c.state.live cue q f.going (λ a. is_preparing a.stage)
    (ap (λ b. b || is_number q f.going) (sym e) ∙ h) l (cancel_lit cue q)))
    (cases calm)

pub keys-there : (f : Footing) (since : ℕ → Option ℕ) (c : Copied) (b : Button) → IsTrue (is_key b)
    → IsTrue (may_in f since c b) → IsTrue (is_lit b (keys_of f c))
keys-there f since c (button.Go cue q) k h =
    let e = last_two f.stands f.is_quiet (is_number q f.chosen) _ h in
    lit_front (button.Go cue q) (both_keys f c) (standby_of (next_in c))
    (lit_front (button.Go cue q) (keys_of_choice c.state.live f.chosen) (keys_of_choice c.state.live f.going)
    (choice_lit (button.Go cue q) c.state.live cue q f.chosen (λ a. is_ready (since q) f.at f.wall a) e.0 e.1
    (go_lit cue q)))
keys-there f since c (button.Cancel cue q) k h =
    let e = both (f.stands && ((f.is_calm && is_number q f.chosen) || is_number q f.going)) _ h in
    lit_front (button.Cancel cue q) (both_keys f c) (standby_of (next_in c))
    (cancel_there f c cue q (both f.stands _ e.0).1 e.1)
keys-there f since c (button.Standby cue) k h =
    lit_back (button.Standby cue) (both_keys f c) (standby_of (next_in c))
    (standby_lit cue (next_in c) (both (is_next cue (next_in c)) _ (both (f.stands && f.is_quiet) _ h).1).0)
keys-there f since c (button.Release q d) k h = (cc)
keys-there f since c (button.MoveTo cue) k h = (cc)
keys-there f since c (button.Choose q) k h = (cc)
keys-there f since c (button.Seen q) k h = (cc)

-- ---- what is lit of a scene

pub lights-lit : (f : Footing) (seen : List Seen) (r : Option Reading) (cues : List (List ℕ)) (all : List Alarm)
    (lit : List Button) → LightsBy f seen r cues all lit → (b : Button) → IsTrue (is_lit b lit) → IsTrue (may_by f (since_in seen) r b)
lights-lit f seen None cues all lit e b h = absurd (cc (subst (λ v. IsTrue (is_lit b v)) e h))
lights-lit f seen (Some r) cues all lit e b h =
    lit-passes (may_in f (since_in seen) r.copy) b (keys_of f r.copy ++ smaller_of r.copy.state.live cues all)
    (subst (λ v. IsTrue (is_lit b v)) e h)

pub lights-dark : (f : Footing) (seen : List Seen) (r : Option Reading) (cues : List (List ℕ)) (all : List Alarm)
    (lit : List Button) → LightsBy f seen r cues all lit → (b : Button) → IsTrue (is_key b) → IsTrue (may_by f (since_in seen) r b) → IsTrue (is_lit b lit)
lights-dark f seen None cues all lit e b k h = (cc)
lights-dark f seen (Some r) cues all lit e b k h =
    subst (λ v. IsTrue (is_lit b v)) (sym e)
    (passes-lit (may_in f (since_in seen) r.copy) b (keys_of f r.copy) (smaller_of r.copy.state.live cues all) h
    (keys-there f (since_in seen) r.copy b k h))

-- ---- each move that may be lit is

-- among the moves to cues there is the one to a cue among them
moves_among : (c : List ℕ) (cues : List (List ℕ))
    → is_lit (button.MoveTo c) (map button.MoveTo cues) ≡ list_any (same_text c) cues
moves_among c [] = refl
moves_among c (d ∷ cues) = ap (λ b. same_text c d || b) (moves_among c cues)

-- the buttons that there are have the move to a cue of the stack
move_there : (f : Footing) (copy : Copied) (cues : List (List ℕ)) (all : List Alarm) (c : List ℕ)
    → IsTrue (list_any (same_text c) cues)
    → IsTrue (is_lit (button.MoveTo c) (keys_of f copy ++ smaller_of copy.state.live cues all))
move_there f copy cues all c h =
    let seen = map button.Seen (filter_map failure_of all) in
    lit_back (button.MoveTo c) (keys_of f copy) (smaller_of copy.state.live cues all)
    (lit_back (button.MoveTo c) (flat_map of_attempt copy.state.live) (map button.MoveTo cues ++ seen)
    (lit_front (button.MoveTo c) (map button.MoveTo cues) seen (moves_among c cues ∙ h)))

pub lights-moves : (f : Footing) (seen : List Seen) (r : Option Reading) (cues : List (List ℕ)) (all : List Alarm)
    (lit : List Button) → LightsBy f seen r cues all lit → AreStack r cues → (c : List ℕ)
    → IsTrue (may_by f (since_in seen) r (button.MoveTo c)) → IsTrue (is_lit (button.MoveTo c) lit)
lights-moves f seen None cues all lit e s c h = (cc)
lights-moves f seen (Some r) cues all lit e s c h =
    let p = may_in f (since_in seen) r.copy in
    let there = keys_of f r.copy ++ smaller_of r.copy.state.live cues all in
    let known = (both (f.stands && f.is_quiet) (has_cue r.copy.state.show c) h).1 in
    let among = ap (list_any (same_text c)) s ∙ sym (is_some-lookup (same_text c) r.copy.state.show.cues) ∙ known in
    subst (λ v. IsTrue (is_lit (button.MoveTo c) v)) (sym e)
    (subst (λ l. IsTrue (is_lit (button.MoveTo c) (filter p l))) (append-nil there)
    (passes-lit p (button.MoveTo c) there [] h (move_there f r.copy cues all c among)))

-- what a view shows as the stack is that of the newest copy
pub shows_stack : (stands : Bool) (since given : ℕ → Option ℕ) (now wall : ℕ) (v : View) (r : Option Reading)
    → ShowsReading stands since given now wall v r → AreStack r v.stack.items
shows_stack stands since given now wall v None k = tt
shows_stack stands since given now wall v (Some r) k = k.stack
