-- Events applied in turn.
use Rattle.std.proofs.Common.{◌≡◌, ℕ, ◌+◌, ◌<◌, List, [], ◌∷◌, ◌++◌, length, take, drop, get_or, refl, sym, ◌∙◌, ap}
use Rattle.std.proofs.Common.{subst}
use Rattle.std.specs.Prelude.{IsTrue}
use Rattle.std.proofs.lemmas.List.{take_more, drop_more}
use Rattle.cue_core.specs.declared.event.Event.{Event}
use Rattle.cue_core.specs.State.{ShowState}
use Rattle.cue_core.specs.Steps.{acceptable, after, are_acceptable, after_events}
use Rattle.cue_core.proofs.lists.ConditionLemmas.{both}

-- first the ones, then the others
pub after_events-append : (s : ShowState) (xs ys : List Event)
    → after_events s (xs ++ ys) ≡ after_events (after_events s xs) ys
after_events-append s [] ys = refl
after_events-append s (e ∷ xs) ys = after_events-append (after s e) xs ys

-- one event more
pub after_events-more : (s : ShowState) (es : List Event) (i : ℕ) (e : Event) → i < length es → e ≡ get_or es i e
    → after_events s (take (i + 1) es) ≡ after (after_events s (take i es)) e
after_events-more s es i e l h = ap (λ xs. after_events s xs) (take_more es i e l)
    ∙ (after_events-append s (take i es) (get_or es i e ∷ []) ∙ ap (λ x. after (after_events s (take i es)) x) (sym h))

-- of events that are acceptable in turn the first is, and then the others
pub acceptable-next : (s : ShowState) (es : List Event) (i : ℕ) (e : Event) → i < length es → e ≡ get_or es i e
    → IsTrue (are_acceptable s (drop i es)) → IsTrue (acceptable s e)
    × IsTrue (are_acceptable (after s e) (drop (i + 1) es))
acceptable-next s es i e l h g =
    let cut : drop i es ≡ e ∷ drop (i + 1) es = drop_more es i e l ∙ ap (λ x. x ∷ drop (i + 1) es) (sym h) in
    let P : List Event → Type 0 = λ xs. IsTrue (are_acceptable s xs) in
    both (acceptable s e) (are_acceptable (after s e) (drop (i + 1) es)) (subst P cut g)
