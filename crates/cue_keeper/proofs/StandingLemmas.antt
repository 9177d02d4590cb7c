-- What an area stands for, and what one batch or one turn-over makes of it.
use Rattle.std.proofs.Common.{◌≡◌, inl, inr, ℕ, ◌≤◌, Bool, true, false, ◌&&◌, nat_le, length, arith}
use Rattle.std.proofs.Common.{List, [], ◌∷◌, map, Some, IsTrue, refl, sym, ◌∙◌, ap, subst}
use Rattle.cue_disk.specs.Disk.{Contents}
use Rattle.cue_log.specs.Area.{Area, fresh}
use Rattle.cue_snap.specs.Pair.{PairIsEither, PairLeaves}
use Rattle.cue_snap.proofs.PairLemmas.{swapped}
use Rattle.cue_snap.proofs.ReaderLemmas.{one_of_a_pair}
use Rattle.std.specs.Str.{bytes_eq}
use Rattle.std.proofs.lemmas.Bool.Decides.{nat_tests}
use Rattle.cue_records.specs.declared.limits.TheConstants.{MAX_EVENTS}
use Rattle.cue_records.proofs.FittingLemmas.{events_fit}
use Rattle.std.proofs.lemmas.Slice.Eq.{bytes_eq-Decides}
use Rattle.cue_core.specs.declared.event.Event.{Event}
use Rattle.cue_core.specs.State.{ShowState, is_state}
use Rattle.cue_core.specs.Steps.{acceptable, after, are_acceptable, after_events}
use Rattle.cue_core.proofs.lists.ConditionLemmas.{both, join}
use Rattle.cue_core.proofs.rules.RuleLemmas.{is_state-after}
use Rattle.cue_records.specs.Reading.{where_it}
use Rattle.cue_records.specs.Batch.{is_batch, batch_text}
use Rattle.cue_records.specs.BatchReading.{batch_of}
use Rattle.cue_records.specs.State.{state_text, IsStateText}
use Rattle.cue_records.specs.StateReading.{state_of, is_state_text}
use Rattle.cue_records.proofs.TakingLemmas.{bind_some, some_is}
use Rattle.cue_records.proofs.BatchLemmas as batch_laws
use Rattle.cue_records.proofs.StateLemmas as state_laws
use Rattle.cue_keeper.specs.Stands.{are_in_turn, folded_all, StandsFor, StandsEither, StandsAs}
use Rattle.cue_keeper.specs.Reading.{batch_in, base_in, state_after_payload, state_after, state_read, state_in}
use Rattle.cue_keeper.specs.Laws.{ReaderFindsTheState, OneStateOfAPair, StandingIsSymmetric, WhatStandsIsAState}

-- ---- the rules are kept

folded_keeps : (s : ShowState) (events : List Event) → IsTrue (is_state s) → IsTrue (are_acceptable s events)
    → IsTrue (is_state (after_events s events))
folded_keeps s [] h g = h
folded_keeps s (e ∷ es) h g =
    let k = both (acceptable s e) (are_acceptable (after s e) es) g in
    folded_keeps (after s e) es (is_state-after s e h k.0) k.1

-- what a batch in its turn is
pub record InTurn (s : ShowState) (batch : List Event) (batches : List (List Event)) : Type 0 where
  pub is_one : IsTrue (is_batch batch)
  pub acceptable : IsTrue (are_acceptable s batch)
  pub rest : IsTrue (are_in_turn (after_events s batch) batches)

pub in_turn : (s : ShowState) (batch : List Event) (batches : List (List Event))
    → IsTrue (are_in_turn s (batch ∷ batches)) → InTurn s batch batches
in_turn s batch batches h =
    let k = both (is_batch batch) (are_acceptable s batch && are_in_turn (after_events s batch) batches) h in
    let l = both (are_acceptable s batch) (are_in_turn (after_events s batch) batches) k.1 in
    record { is_one = k.0; acceptable = l.0; rest = l.1 }

pub into_turn : (s : ShowState) (batch : List Event) (batches : List (List Event)) → InTurn s batch batches
    → IsTrue (are_in_turn s (batch ∷ batches))
into_turn s batch batches h =
    let one : is_batch batch ≡ true = h.is_one in
    let may : are_acceptable s batch ≡ true = h.acceptable in
    rw (one, may) h.rest

all_keep : (s : ShowState) (batches : List (List Event)) → IsTrue (is_state s) → IsTrue (are_in_turn s batches)
    → IsTrue (is_state (folded_all s batches))
all_keep s [] h g = h
all_keep s (batch ∷ batches) h g =
    let k = in_turn s batch batches g in
    all_keep (after_events s batch) batches (folded_keeps s batch h k.acceptable) k.rest

pub state_kept : (area : Area) (s : ShowState) → StandsFor area s → IsTrue (is_state s)
state_kept area s stands = subst (λ (t : ShowState). IsTrue (is_state t)) (sym stands.is)
    (all_keep stands.base stands.batches stands.is_base stands.in_turn)

-- ---- reading finds the state

pub where_true : {A : Type 0} (test : Bool) (x : A) → IsTrue test → where_it test x ≡ Some x
where_true true x t = refl
where_true false x t = absurd cc

some_where : {A : Type 0} (test : Bool) (x y : A) → where_it test x ≡ Some y → IsTrue test × (y ≡ x)
some_where true x y e = (refl, some_is y x (sym e))
some_where false x y e = absurd cc

-- a test and that a text is the same, of the value whose text it is
same_again : (test : Bool) (text : List ℕ) → IsTrue test → IsTrue (test && bytes_eq text text)
same_again test text h =
    let yes : test ≡ true = h in
    rw yes ((bytes_eq-Decides text text).1 refl)

pub batch_again : (batch : List Event) → IsTrue (is_batch batch) → batch_in (batch_text batch) ≡ Some batch
unfolding batch_in
batch_again batch h = rw (batch_laws.read_back batch h)
    (where_true (is_batch batch && bytes_eq (batch_text batch) (batch_text batch)) batch
    (same_again (is_batch batch) (batch_text batch) h))

pub base_again : (snapshot : List ℕ) (base : ShowState) → IsTrue (is_state base) → IsStateText snapshot base
    → base_in snapshot ≡ Some base
unfolding base_in
base_again snapshot base h text =
    rw (state_laws.read_back snapshot base h text)
    (where_true (is_state base && is_state_text snapshot base) base
    (join (is_state base) (is_state_text snapshot base) h ((state_laws.is_text-decides snapshot base).1 text)))

pub batch_takes : (payload : List ℕ) (batch : List Event) → batch_in payload ≡ Some batch → IsTrue (is_batch batch)
    × (payload ≡ batch_text batch)
unfolding batch_in
batch_takes payload batch e =
    let x = bind_some (batch_of payload) (λ found. where_it (is_batch found && bytes_eq payload (batch_text found))
    found) batch e in
    let w = some_where (is_batch x.0 && bytes_eq payload (batch_text x.0)) x.0 batch x.2 in
    let k = both (is_batch x.0) (bytes_eq payload (batch_text x.0)) w.0 in
    subst (λ (found : List Event). IsTrue (is_batch found) × (payload ≡ batch_text found)) (sym w.1)
    (k.0, (bytes_eq-Decides payload (batch_text x.0)).0 k.1)

pub base_takes : (snapshot : List ℕ) (base : ShowState) → base_in snapshot ≡ Some base
    → IsTrue (is_state base) × IsStateText snapshot base
unfolding base_in
base_takes snapshot base e =
    let x = bind_some (state_of snapshot) (λ found. where_it (is_state found && is_state_text snapshot found) found)
    base e in
    let w = some_where (is_state x.0 && is_state_text snapshot x.0) x.0 base x.2 in
    let k = both (is_state x.0) (is_state_text snapshot x.0) w.0 in
    subst (λ (found : ShowState). IsTrue (is_state found) × IsStateText snapshot found) (sym w.1)
    (k.0, (state_laws.is_text-decides snapshot x.0).0 k.1)

finds_all : (s : ShowState) (batches : List (List Event)) → IsTrue (are_in_turn s batches)
    → state_after s (map batch_text batches) ≡ Some (folded_all s batches)
unfolding state_after
finds_all s [] h = refl
finds_all s (batch ∷ batches) h =
    let k = in_turn s batch batches h in
    rw (batch_again batch k.is_one, where_true (are_acceptable s batch) (after_events s batch) k.acceptable)
    (finds_all (after_events s batch) batches k.rest)

-- batches whose texts these are, in turn
pub record Behind (s : ShowState) (payloads : List (List ℕ)) (t : ShowState) : Type 0 where
  pub batches : List (List Event)
  pub in_turn : IsTrue (are_in_turn s batches)
  pub texts : payloads ≡ map batch_text batches
  pub is : t ≡ folded_all s batches

takes_all : (s t : ShowState) (payloads : List (List ℕ)) → state_after s payloads ≡ Some t → Behind s payloads t
unfolding state_after
takes_all s t [] e = record { batches = []; in_turn = refl; texts = refl; is = some_is t s (sym e) }
takes_all s t (payload ∷ payloads) e =
    let x = bind_some (state_after_payload s payload) (λ next. state_after next payloads) t e in
    let y = bind_some (batch_in payload) (λ batch. where_it (are_acceptable s batch) (after_events s batch)) x.0 x.1 in
    let f = batch_takes payload y.0 y.1 in
    let w = some_where (are_acceptable s y.0) (after_events s y.0) x.0 y.2 in
    let rest = takes_all (after_events s y.0) t payloads
    (subst (λ (u : ShowState). state_after u payloads ≡ Some t) w.1 x.2) in
    record {
      batches = y.0 ∷ rest.batches;
      in_turn = into_turn s y.0 rest.batches (record { is_one = f.0; acceptable = w.0; rest = rest.in_turn });
      texts = ap (λ p. p ∷ payloads) f.1 ∙ ap (λ ps. batch_text y.0 ∷ ps) rest.texts;
      is = rest.is;
    }

pub found : (area : Area) (s : ShowState) → StandsFor area s → state_in area ≡ Some s
unfolding state_read
found area s stands =
    let base : base_in area.snapshot ≡ Some stands.base =
    base_again area.snapshot stands.base stands.is_base stands.base_text in
    let tail : state_after stands.base area.payloads ≡ Some (folded_all stands.base stands.batches) =
    ap (state_after stands.base) stands.texts ∙ finds_all stands.base stands.batches stands.in_turn in
    rw base (tail ∙ ap Some (sym stands.is))

pub taken : (area : Area) (s : ShowState) → state_in area ≡ Some s → StandsFor area s
unfolding state_read
taken area s e =
    let x = bind_some (base_in area.snapshot) (λ base. state_after base area.payloads) s e in
    let f = base_takes area.snapshot x.0 x.1 in
    let rest = takes_all x.0 s area.payloads x.2 in
    record {
      base = x.0;
      batches = rest.batches;
      is_base = f.0;
      in_turn = rest.in_turn;
      base_text = f.1;
      texts =
          rest.texts;
      is = rest.is;
    }

pub finds : ReaderFindsTheState
finds area s = (found area s, taken area s)

pub one_state : OneStateOfAPair
one_state x y s t one other =
    let same : one.area ≡ other.area = one_of_a_pair one.area other.area x y one.reads other.reads in
    some_is s t (sym (found one.area s one.stands) ∙ ap state_in same ∙ found other.area t other.stands)

pub symmetric : StandingIsSymmetric
symmetric x y s stands =
    record { area = stands.area; reads = swapped stands.area x y stands.reads; stands = stands.stands }

pub is_a_state : WhatStandsIsAState
is_a_state x y s stands = state_kept stands.area s stands.stands

-- ---- the state written again

pub fresh_stands : (generation : ℕ) (s : ShowState) (snapshot : List ℕ) → IsTrue (is_state s) → snapshot ≡ state_text s
    → StandsFor (fresh generation snapshot) s
fresh_stands generation s snapshot keeps text =
    record {
      base = s;
      batches = [];
      is_base = keeps;
      in_turn = refl;
      base_text =
          subst (λ bytes. IsStateText bytes s) (sym text) (state_laws.written s);
      texts = refl;
      is = refl;
    }

-- ---- what a crash leaves

pub either_stands : (before after : Area) (s t : ShowState) → StandsFor before s → StandsFor after t → (x y : List ℕ)
    → PairIsEither before after x y → StandsEither s t x y
either_stands before after s t old new x y (inl reads) = inl (record { area = before; reads = reads; stands = old })
either_stands before after s t old new x y (inr reads) = inr (record { area = after; reads = reads; stands = new })

pub leaves_stands : (one other : Contents) (area : Area) (s : ShowState) → PairLeaves one other area → StandsFor area s
    → StandsAs one other s
leaves_stands one other area s leaves stands x y left_x left_y =
    record { area = area; reads = leaves x y left_x left_y; stands = stands }

-- the order of the two does not count
pub either_swapped : (s t : ShowState) (x y : List ℕ) → StandsEither s t x y → StandsEither s t y x
either_swapped s t x y (inl stands) = inl (symmetric x y s stands)
either_swapped s t x y (inr stands) = inr (symmetric x y t stands)

-- ---- what a batch is

-- some events, not too many, that are acceptable in turn
pub is_a_batch : (s : ShowState) (events : List Event) → IsTrue (is_state s) → IsTrue (are_acceptable s events)
    → 1 ≤ length events → length events ≤ MAX_EVENTS → IsTrue (is_batch events)
is_a_batch s events keeps may some most =
    let one : nat_le 1 (length events) ≡ true = grind (arith, nat_tests) in
    let few : nat_le (length events) MAX_EVENTS ≡ true = grind (arith, nat_tests) in
    rw (one, few) (events_fit s events keeps may)
