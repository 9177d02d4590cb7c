-- Batches that are accepted together: their records, one more of them, and what they come to.
use Rattle.std.proofs.Common.{◌≡◌, ℕ, ◌+◌, ◌≤◌, true, List, [], ◌∷◌, ◌++◌, length, map, sum_by, nat_le, IsTrue, refl}
use Rattle.std.proofs.Common.{sym, ◌∙◌, ap, subst, arith, Vec, Global}
use Rattle.std.proofs.lemmas.Bool.Decides.{nat_tests}
use Rattle.std.proofs.lemmas.List.{map-append, length-map}
use Rattle.std.proofs.lemmas.List.Sums.{sum_by-append}
use Rattle.cue_log.specs.declared.area.TheConstants.{MAX_PAYLOAD}
use Rattle.cue_log.specs.Area.{Area, with_payloads}
use Rattle.cue_core.specs.declared.event.Event.{Event}
use Rattle.cue_core.specs.State.{ShowState}
use Rattle.cue_core.specs.Steps.{are_acceptable, after_events}
use Rattle.cue_core.proofs.lists.ConditionLemmas.{both, join}
use Rattle.cue_records.specs.Batch.{is_batch, batch_text}
use Rattle.cue_keeper.specs.Groups.{with_events, records_of, are_all_acceptable, is_record, are_records, batches_view}
use Rattle.cue_keeper.specs.Groups.{IsGroup}
use Rattle.cue_keeper.specs.Stands.{are_in_turn, folded_all, StandsFor}
use Rattle.cue_keeper.proofs.StandingLemmas.{in_turn, into_turn}

-- as many batches have an event as there are records
pub as_many : (batches : List (List Event)) → length (records_of batches) ≡ length (with_events batches)
as_many batches = length-map (with_events batches) batch_text

-- ---- batches after others

with_append : (batches more : List (List Event))
    → with_events (batches ++ more) ≡ with_events batches ++ with_events more
with_append [] more = refl
with_append ([] ∷ batches) more = with_append batches more
with_append ((e ∷ es) ∷ batches) more =
    ap (λ (rest : List (List Event)). (e ∷ es) ∷ rest) (with_append batches more)

pub records_append : (batches more : List (List Event))
    → records_of (batches ++ more) ≡ records_of batches ++ records_of more
records_append batches more = ap (map batch_text) (with_append batches more)
    ∙ map-append batch_text (with_events batches) (with_events more)

each_append : (batches more : List (List Event)) → are_records batches ≡ true → are_records more ≡ true
    → are_records (batches ++ more) ≡ true
each_append [] more each then = then
each_append ([] ∷ batches) more each then = each_append batches more each then
each_append ((e ∷ es) ∷ batches) more each then =
    let k = both (is_record (e ∷ es)) (are_records batches) each in
    join (is_record (e ∷ es)) (are_records (batches ++ more)) k.0 (each_append batches more k.1 then)

-- ---- one batch more

-- a group of one has a batch with an event where that has one
pub one_has : (batch : List Event) → length (with_events (batch ∷ [])) ≡ 1 → 1 ≤ length batch
one_has [] one = absurd (omega (arith, one))
one_has (e ∷ es) one = omega arith

pub has_one : (batch : List Event) → 1 ≤ length batch → length (with_events (batch ∷ [])) ≡ 1
has_one [] some = absurd (omega (arith, some))
has_one (e ∷ es) some = refl

-- a record holds it if it has an event
each_one : (batch : List Event) → (1 ≤ length batch → IsTrue (is_batch batch))
    → length (batch_text batch) ≤ MAX_PAYLOAD → are_records (batch ∷ []) ≡ true
each_one [] is short = refl
each_one (e ∷ es) is short =
    let few : nat_le (length (batch_text (e ∷ es))) MAX_PAYLOAD ≡ true = grind (arith, nat_tests) in
    rw (is (omega arith), few) refl

-- it is framed after the others
pub grown : (batches : List (List Event)) (batch : List Event) (records new_records : List (List ℕ))
    (bytes new_bytes : ℕ) → IsGroup batches records bytes → (1 ≤ length batch → IsTrue (is_batch batch))
    → length (batch_text batch) ≤ MAX_PAYLOAD
    → new_records ≡ records ++ records_of (batch ∷ []) → new_bytes ≡ bytes + sum_by length (records_of (batch ∷ []))
    → IsGroup (batches ++ batch ∷ []) new_records new_bytes
grown batches batch records new_records bytes new_bytes group is short framed long = record {
  each = each_append batches (batch ∷ []) group.each (each_one batch is short);
  framed = framed ∙ ap (λ (rs : List (List ℕ)). rs ++ records_of (batch ∷ [])) group.framed
      ∙ sym (records_append batches (batch ∷ []));
  long = long ∙ ap (λ (n : ℕ). n + sum_by length (records_of (batch ∷ []))) group.long
      ∙ sym (ap (sum_by length) framed ∙ sum_by-append length records (records_of (batch ∷ [])));
}

-- as the code keeps them
pub view_more : (batches : List (Vec Event Global)) (batch : Vec Event Global)
    → batches_view (batches ++ batch ∷ []) ≡ batches_view batches ++ batch.items ∷ []
view_more batches batch = map-append (λ (b : Vec Event Global). b.items) batches (batch ∷ [])

-- ---- what they come to

-- those with an event come in turn
in_turn_together : (s : ShowState) (batches : List (List Event)) → are_records batches ≡ true
    → IsTrue (are_all_acceptable s batches) → IsTrue (are_in_turn s (with_events batches))
in_turn_together s [] each may = refl
in_turn_together s ([] ∷ batches) each may = in_turn_together s batches each may
in_turn_together s ((e ∷ es) ∷ batches) each may =
    let k = both (is_record (e ∷ es)) (are_records batches) each in
    let l = both (are_acceptable s (e ∷ es)) (are_all_acceptable (after_events s (e ∷ es)) batches) may in
    let one = both (is_batch (e ∷ es)) (nat_le (length (batch_text (e ∷ es))) MAX_PAYLOAD) k.0 in
    into_turn s (e ∷ es) (with_events batches)
    (record { is_one = one.0; acceptable = l.0; rest = in_turn_together (after_events s (e ∷ es)) batches k.1 l.1 })

-- and change what all of them change
folded_together : (s : ShowState) (batches : List (List Event))
    → folded_all s (with_events batches) ≡ folded_all s batches
folded_together s [] = refl
folded_together s ([] ∷ batches) = folded_together s batches
folded_together s ((e ∷ es) ∷ batches) = folded_together (after_events s (e ∷ es)) batches

-- Without an event they change nothing.
pub nothing_changed : (s : ShowState) (batches : List (List Event)) → length (with_events batches) ≡ 0
    → folded_all s batches ≡ s
nothing_changed s [] none = refl
nothing_changed s ([] ∷ batches) none = nothing_changed s batches none
nothing_changed s ((e ∷ es) ∷ batches) none = absurd (omega (arith, none))

-- batches that follow others
in_turn_all : (s : ShowState) (first then : List (List Event)) → IsTrue (are_in_turn s first)
    → IsTrue (are_in_turn (folded_all s first) then) → IsTrue (are_in_turn s (first ++ then))
in_turn_all s [] then h k = k
in_turn_all s (batch ∷ first) then h k =
    let t = in_turn s batch first h in
    into_turn s batch (first ++ then)
    (record {
      is_one = t.is_one;
      acceptable = t.acceptable;
      rest =
          in_turn_all (after_events s batch) first then t.rest k;
    })

pub folded_append : (s : ShowState) (first then : List (List Event))
    → folded_all s (first ++ then) ≡ folded_all (folded_all s first) then
folded_append s [] then = refl
folded_append s (batch ∷ first) then = folded_append (after_events s batch) first then

pub area_all : (area : Area) (s : ShowState) (batches : List (List Event)) (payloads : List (List ℕ)) → StandsFor area s
    → are_records batches ≡ true → IsTrue (are_all_acceptable s batches) → payloads ≡ records_of batches
    → StandsFor (with_payloads area payloads) (folded_all s batches)
area_all area s batches payloads stands each may texts =
    let then : List (List Event) = with_events batches in
    let turn : IsTrue (are_in_turn s then) = in_turn_together s batches each may in
    record {
      base = stands.base;
      batches = stands.batches ++ then;
      is_base = stands.is_base;
      in_turn = in_turn_all stands.base stands.batches then stands.in_turn
          (subst (λ (t : ShowState). IsTrue (are_in_turn t then)) stands.is turn);
      base_text = stands.base_text;
      texts = ap (λ (ps : List (List ℕ)). ps ++ payloads) stands.texts
          ∙ ap (λ (ps : List (List ℕ)). map batch_text stands.batches ++ ps) texts
          ∙ sym (map-append batch_text stands.batches then);
      is = sym (folded_together s batches) ∙ ap (λ (t : ShowState). folded_all t then) stands.is
          ∙ sym (folded_append stands.base stands.batches then);
    }
