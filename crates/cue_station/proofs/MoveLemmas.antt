-- The moves to the cues of a stack: each of them may be lit, or none, so none has to be looked at by itself.
use Rattle.std.proofs.Common.{◌≡◌, refl, sym, ap, ◌∙◌, ℕ, Bool, true, false, ◌&&◌, cond, List, [], ◌∷◌, ◌++◌, map}
use Rattle.std.proofs.Common.{filter, append_assoc, Option, None, Some}
use Rattle.std.proofs.lemmas.List.Elements.{filter-append}
use Rattle.std.proofs.lemmas.Map.Made.{is_some-lookup}
use Rattle.std.specs.List.{filter_map, flat_map, list_any}
use Rattle.cue_show.proofs.TestLemmas.{or_left, or_right}
use Rattle.cue_show.proofs.TextLemmas.{same_text-itself}
use Rattle.cue_show.specs.Number.{same_text}
use Rattle.cue_show.specs.Show.{ShowLists, has_cue}
use Rattle.cue_operator.proofs.LookUpLemmas.{filter-mapped, filter-none, filter-same}
use Rattle.cue_view.specs.declared.button.Button.{Button}
use Rattle.cue_view.specs.declared.button.Button.TheVariants as button
use Rattle.cue_view.specs.declared.view.Alarm.{Alarm}
use Rattle.cue_station.specs.declared.heard.Copied.{Copied}
use Rattle.cue_station.specs.declared.lighting.Footing.{Footing}
use Rattle.cue_station.specs.declared.memory.Reading.{Reading}
use Rattle.cue_station.specs.declared.memory.Seen.{Seen}
use Rattle.cue_station.specs.declared.viewing.Drawn.{Drawn}
use Rattle.cue_station.specs.Lighting.{keys_of, may_in}
use Rattle.cue_station.specs.Showing.{stack_of}
use Rattle.cue_station.specs.Smaller.{failure_of, moves_of, of_attempt, smaller_of}
use Rattle.cue_station.specs.Viewing.{AreStack, DrawsBy}

-- ---- a stack has each of its cues

-- of some cues those that all have among them are all of the some
kept : (all some : List (List ℕ))
    → ((c : List ℕ) → list_any (same_text c) some ≡ true → list_any (same_text c) all ≡ true)
    → filter (λ c. list_any (same_text c) all) some ≡ some
kept all [] h = refl
kept all (k ∷ ks) h =
    ap (λ b. cond b (k ∷ filter (λ c. list_any (same_text c) all) ks) (filter (λ c. list_any (same_text c) all) ks))
    (h k (or_left (same_text k k) (list_any (same_text k) ks) (same_text-itself k)))
    ∙ ap (λ cs. k ∷ cs) (kept all ks (λ c e. h c (or_right (same_text c k) (list_any (same_text c) ks) e)))

known : (s : ShowLists) → filter (λ c. has_cue s c) (stack_of s) ≡ stack_of s
known s =
    filter-same (λ c. has_cue s c) (λ c. list_any (same_text c) (stack_of s))
    (λ c. is_some-lookup (same_text c) s.cues) (stack_of s)
    ∙ kept (stack_of s) (stack_of s) (λ c e. e)

-- ---- each move may be lit, or none

moves_by : (b : Bool) (s : ShowLists)
    → map button.MoveTo (filter (λ c. b && has_cue s c) (stack_of s)) ≡ cond b (map button.MoveTo (stack_of s)) []
moves_by true s = ap (map button.MoveTo) (known s)
moves_by false s = ap (map button.MoveTo) (filter-none (stack_of s))

moves_lit : (f : Footing) (since : ℕ → Option ℕ) (c : Copied)
    → filter (may_in f since c) (map button.MoveTo (stack_of c.state.show)) ≡ moves_of f (stack_of c.state.show)
moves_lit f since c =
    filter-mapped (may_in f since c) button.MoveTo (stack_of c.state.show)
    ∙ moves_by (f.stands && f.is_quiet) c.state.show

-- that a failure was seen may be said of each
seen_lit : (f : Footing) (since : ℕ → Option ℕ) (c : Copied) (qs : List ℕ)
    → filter (may_in f since c) (map button.Seen qs) ≡ map button.Seen qs
seen_lit f since c [] = refl
seen_lit f since c (q ∷ qs) = ap (λ bs. button.Seen q ∷ bs) (seen_lit f since c qs)

-- ---- what is lit

-- the last two of four lists, filtered apart
apart : (p : Button → Bool) (ks xs ms ss lit seen : List Button) → filter p ms ≡ lit → filter p ss ≡ seen
    → (filter p (ks ++ xs) ++ lit) ++ seen ≡ filter p (ks ++ (xs ++ (ms ++ ss)))
apart p ks xs ms ss lit seen e g =
    append_assoc (filter p (ks ++ xs)) lit seen
    ∙ ap (λ l. filter p (ks ++ xs) ++ (l ++ seen)) (sym e)
    ∙ ap (λ l. filter p (ks ++ xs) ++ (filter p ms ++ l)) (sym g)
    ∙ ap (λ l. filter p (ks ++ xs) ++ l) (sym (filter-append p ms ss))
    ∙ sym (filter-append p (ks ++ xs) (ms ++ ss))
    ∙ ap (filter p) (append_assoc ks xs (ms ++ ss))

-- the buttons of the attempts that may be lit, the moves, and the failures: these are all that may be lit
pub lit-apart : (f : Footing) (since : ℕ → Option ℕ) (c : Copied) (cues : List (List ℕ)) (all : List Alarm)
    → cues ≡ stack_of c.state.show
    → (filter (may_in f since c) (keys_of f c ++ flat_map of_attempt c.state.live) ++ moves_of f cues)
    ++ map button.Seen (filter_map failure_of all)
    ≡ filter (may_in f since c) (keys_of f c ++ smaller_of c.state.live cues all)
lit-apart f since c cues all e =
    let seen = map button.Seen (filter_map failure_of all) in
    apart (may_in f since c) (keys_of f c) (flat_map of_attempt c.state.live) (map button.MoveTo cues) seen
    (moves_of f cues) seen
    (ap (λ cs. filter (may_in f since c) (map button.MoveTo cs)) e ∙ moves_lit f since c
    ∙ ap (moves_of f) (sym e)) (seen_lit f since c (filter_map failure_of all))

-- what is drawn as the stack is that of the newest copy
pub drawn_stack : (f : Footing) (seen : List Seen) (r : Option Reading) (d : Drawn) → DrawsBy f seen r d
    → AreStack r d.stack.items
drawn_stack f seen None d k = tt
drawn_stack f seen (Some r) d k = k.stack
