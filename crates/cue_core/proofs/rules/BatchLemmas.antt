-- Events that are acceptable in turn, one list behind another, and as a history.
use Rattle.std.proofs.Common.{◌≡◌, List, [], ◌∷◌, ◌++◌, IsTrue, refl}
use Rattle.cue_core.specs.declared.event.Event.{Event}
use Rattle.cue_core.specs.State.{ShowState}
use Rattle.cue_core.specs.Steps.{acceptable, after, are_acceptable, after_events}
use Rattle.cue_core.specs.Happenings.{onto}
use Rattle.cue_core.specs.Batches.{HistoriesFold, AcceptableAreHistories, EventsKeepRules}
use Rattle.cue_core.proofs.lists.ConditionLemmas.{both, join}
use Rattle.cue_core.proofs.rules.RuleLemmas.{is_state-after}
use Rattle.cue_core.proofs.history.HappeningLemmas.{history-onto}

pub acceptable-append : (s : ShowState) (xs ys : List Event) → IsTrue (are_acceptable s xs)
    → IsTrue (are_acceptable (after_events s xs) ys) → IsTrue (are_acceptable s (xs ++ ys))
acceptable-append s [] ys h k = k
acceptable-append s (e ∷ xs) ys h k =
    let p = both (acceptable s e) (are_acceptable (after s e) xs) h in
    join (acceptable s e) (are_acceptable (after s e) (xs ++ ys)) p.0 (acceptable-append (after s e) xs ys p.1 k)

-- and back
pub acceptable-parts : (s : ShowState) (xs ys : List Event) → IsTrue (are_acceptable s (xs ++ ys))
    → IsTrue (are_acceptable s xs) × IsTrue (are_acceptable (after_events s xs) ys)
acceptable-parts s [] ys h = (refl, h)
acceptable-parts s (e ∷ xs) ys h =
    let p = both (acceptable s e) (are_acceptable (after s e) (xs ++ ys)) h in
    let q = acceptable-parts (after s e) xs ys p.1 in
    (join (acceptable s e) (are_acceptable (after s e) xs) p.0 q.0, q.1)

pub is_state-after_events : EventsKeepRules
is_state-after_events s [] h g = h
is_state-after_events s (e ∷ es) h g = let p = both (acceptable s e) (are_acceptable (after s e) es) g in
    is_state-after_events (after s e) es (is_state-after s e h p.0) p.1

pub state-onto : HistoriesFold
state-onto past [] = refl
state-onto past (e ∷ es) = state-onto (e ∷ past) es

pub onto-append : (xs ys past : List Event) → onto (xs ++ ys) past ≡ onto ys (onto xs past)
onto-append [] ys past = refl
onto-append (e ∷ xs) ys past = onto-append xs ys (e ∷ past)

pub acceptable-histories : AcceptableAreHistories
acceptable-histories es h = history-onto es [] refl h
