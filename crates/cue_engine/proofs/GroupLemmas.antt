-- Inputs that are taken together: one more of them, and what they are as a run.
use Rattle.std.specs.List.{slice_get}
use Rattle.std.proofs.lemmas.Option.{slice_get_within}
use Rattle.cue_records.proofs.TakingLemmas.{some_is}
use Rattle.std.proofs.Common.{◌≡◌, ℕ, zero, suc, ◌+◌, ◌-◌, arith, length, Some, Vec, Global, true, List, []}
use Rattle.std.proofs.Common.{◌∷◌, ◌++◌, IsTrue, refl, sym, ◌∙◌, ap, append-nil, append_assoc}
use Rattle.cue_core.specs.declared.event.Event.{Event}
use Rattle.cue_core.specs.State.{ShowState, is_state}
use Rattle.cue_core.specs.Steps.{are_acceptable, after_events}
use Rattle.cue_core.proofs.lists.ConditionLemmas.{both, join}
use Rattle.cue_core.proofs.rules.ApplyLemmas.{after_events-append}
use Rattle.cue_core.proofs.rules.BatchLemmas.{acceptable-append, is_state-after_events}
use Rattle.cue_keeper.specs.Groups.{with_events, are_all_acceptable, batches_view}
use Rattle.cue_keeper.specs.Stands.{folded_all}
use Rattle.cue_keeper.proofs.GroupLemmas.{folded_append}
use Rattle.cue_outbox.specs.Sending.{Send}
use Rattle.cue_engine.specs.Given.{Input, given_of}
use Rattle.cue_engine.specs.Groups.{batches_given, sends_given, last_of, GroupIsARun}
use Rattle.cue_engine.specs.Runs.{with_batch, joined_list}
use Rattle.cue_engine.proofs.HistoryLemmas.{input-ok}

-- ---- one batch more

pub acceptable_more : (s : ShowState) (batches : List (List Event)) (batch : List Event)
    → IsTrue (are_all_acceptable s batches) → IsTrue (are_acceptable (folded_all s batches) batch)
    → IsTrue (are_all_acceptable s (batches ++ batch ∷ []))
acceptable_more s [] batch h k = join (are_acceptable s batch) true k refl
acceptable_more s (first ∷ batches) batch h k =
    let w = both (are_acceptable s first) (are_all_acceptable (after_events s first) batches) h in
    join (are_acceptable s first) (are_all_acceptable (after_events s first) (batches ++ batch ∷ [])) w.0
    (acceptable_more (after_events s first) batches batch w.1 k)

pub folded_more : (s : ShowState) (batches : List (List Event)) (batch : List Event)
    → folded_all s (batches ++ batch ∷ []) ≡ after_events (folded_all s batches) batch
folded_more s batches batch = folded_append s batches (batch ∷ [])

pub last_more : (batches : List (List Event)) (batch : List Event) → last_of (batches ++ batch ∷ []) ≡ batch
last_more [] batch = refl
last_more (first ∷ []) batch = refl
last_more (first ∷ next ∷ batches) batch = last_more (next ∷ batches) batch

-- the last of the batches that the code keeps
get_last : (batches : List (Vec Event Global)) (n : ℕ) (last : Vec Event Global) → length batches ≡ n + 1
    → slice_get batches n ≡ Some last → last_of (batches_view batches) ≡ last.items
get_last [] n last len is = absurd (omega (arith, len))
get_last (b ∷ []) zero last len is = ap (λ (v : Vec Event Global). v.items) (some_is b last is)
get_last (b ∷ []) (suc n) last len is = absurd (omega (arith, len))
get_last (b ∷ next ∷ batches) zero last len is = absurd (omega (arith, len))
get_last (b ∷ next ∷ batches) (suc n) last len is = get_last (next ∷ batches) n last (omega (arith, len)) is

pub last_kept : (batches : List (Vec Event Global)) (last : Vec Event Global)
    → slice_get batches (length batches - 1) ≡ Some last → last_of (batches_view batches) ≡ last.items
last_kept batches last is =
    get_last batches (length batches - 1) last (omega (arith, slice_get_within batches (length batches - 1) last is)) is

-- ---- one input more

pub batches_more : (s : ShowState) (inputs : List (ℕ × Input)) (now : ℕ) (input : Input)
    → batches_given s (inputs ++ (now, input) ∷ []) ≡ batches_given s inputs
    ++ (given_of (folded_all s (batches_given s inputs)) now input).batch ∷ []
batches_more s [] now input = refl
batches_more s (i ∷ is) now input = ap (λ (rest : List (List Event)). (given_of s i.0 i.1).batch ∷ rest)
    (batches_more (after_events s (given_of s i.0 i.1).batch) is now input)

pub sends_more : (s : ShowState) (inputs : List (ℕ × Input)) (now : ℕ) (input : Input)
    → sends_given s (inputs ++ (now, input) ∷ []) ≡ sends_given s inputs
    ++ (given_of (folded_all s (batches_given s inputs)) now input).sends
sends_more s [] now input = append-nil (given_of s now input).sends
sends_more s (i ∷ is) now input =
    let next : ShowState = after_events s (given_of s i.0 i.1).batch in
    ap (λ (rest : List (ℕ × Send)). (given_of s i.0 i.1).sends ++ rest) (sends_more next is now input)
    ∙ sym (append_assoc (given_of s i.0 i.1).sends (sends_given next is)
    (given_of (folded_all next (batches_given next is)) now input).sends)

-- ---- as a run

pub with_first : (batch : List Event) (batches : List (List Event))
    → with_batch batch (with_events batches) ≡ with_events (batch ∷ batches)
with_first [] batches = refl
with_first (e ∷ es) batches = refl

pub is_a_run : GroupIsARun
is_a_run s [] = (refl, refl, refl)
is_a_run s (i ∷ is) =
    let next : ShowState = after_events s (given_of s i.0 i.1).batch in
    let rest = is_a_run next is in (
      rest.0,
      ap (with_batch (given_of s i.0 i.1).batch) rest.1 ∙ with_first (given_of s i.0 i.1).batch (batches_given next is),
      ap (λ (more : List (ℕ × Send)). (given_of s i.0 i.1).sends ++ more) rest.2,
    )

-- ---- all events of them

pub after_joined : (s : ShowState) (batches : List (List Event))
    → after_events s (joined_list batches) ≡ folded_all s batches
after_joined s [] = refl
after_joined s (batch ∷ batches) = after_events-append s batch (joined_list batches)
    ∙ after_joined (after_events s batch) batches

pub joined_append : (first then : List (List Event))
    → joined_list (first ++ then) ≡ joined_list first ++ joined_list then
joined_append [] then = refl
joined_append (batch ∷ first) then = ap (λ (es : List Event). batch ++ es) (joined_append first then)
    ∙ sym (append_assoc batch (joined_list first) (joined_list then))

-- those without an event add none
pub joined_some : (batches : List (List Event)) → joined_list (with_events batches) ≡ joined_list batches
joined_some [] = refl
joined_some ([] ∷ batches) = joined_some batches
joined_some ((e ∷ es) ∷ batches) = ap (λ (fs : List Event). e ∷ es ++ fs) (joined_some batches)

pub joined_one : (batch : List Event) → joined_list (with_events (batch ∷ [])) ≡ batch
joined_one [] = refl
joined_one (e ∷ es) = append-nil (e ∷ es)

pub inputs-ok : (s : ShowState) (inputs : List (ℕ × Input)) → IsTrue (is_state s)
    → are_acceptable s (joined_list (batches_given s inputs)) ≡ true
inputs-ok s [] h = refl
inputs-ok s (i ∷ is) h =
    let batch : List Event = (given_of s i.0 i.1).batch in
    let ok = input-ok s i.0 i.1 h in
    acceptable-append s batch (joined_list (batches_given (after_events s batch) is)) ok
    (inputs-ok (after_events s batch) is (is_state-after_events s batch h ok))
