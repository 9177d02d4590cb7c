-- What a store that is opened and then closed comes to.
use Rattle.std.proofs.Common.{◌≡◌, ◌⊎◌, inl, inr, ℕ, ◌+◌, ◌-◌, ◌^◌, ◌≤◌, List, length, Some, None, Result, Ok, Err}
use Rattle.std.proofs.Common.{Bool, true, false, if◌then◌else◌, arith, [], ◌∷◌, refl, ◌∙◌, ap, sym, subst, IsTrue}
use Rattle.std.specs.Prelude.{IfErr}
use Rattle.cue_disk.specs.Disk.{Contents, IsImage}
use Rattle.cue_log.specs.Area.{Area}
use Rattle.cue_snap.specs.Observed.{RefusedAs}
use Rattle.cue_snap.specs.Pair.{IsSpoiled, NeitherHas, PairReads}
use Rattle.cue_snap.proofs.ReaderLemmas.{one_of_a_pair}
use Rattle.cue_core.specs.State.{ShowState}
use Rattle.cue_core.specs.Happenings.{events_at, recovered}
use Rattle.cue_keeper.specs.declared.fault.Fault.{Fault}
use Rattle.cue_keeper.specs.declared.fault.StoreFault.{StoreFault}
use Rattle.cue_keeper.specs.declared.fault.StoreFault.TheVariants as store
use Rattle.cue_keeper.proofs.StandingLemmas.{one_state}
use Rattle.cue_keeper.specs.Due.{lacks_room}
use Rattle.cue_keeper.specs.Refusals.{HasOtherVersion, StandsForNone}
use Rattle.cue_keeper.specs.Stands.{Stands, StandsEither, IsKept}
use Rattle.cue_core.specs.Batches.{closed_state}
use Rattle.cue_engine.specs.Recovery.{IsLeftOrStands, NoGenerationLeft, RefusedBut, CannotBeRecovered, cancels_records}
use Rattle.cue_keeper.proofs.GroupLemmas.{has_one}
use Rattle.cue_keeper.proofs.RefusedLemmas.{is_opened}
use Rattle.cue_keeper.specs.Groups.{with_events}
use Rattle.cue_keeper.specs.Opening.{IsOfOpening}
use Rattle.cue_engine.specs.Opening.{IsOfCancels}

-- ---- what a crash leaves

pub left_or_stands : (then_a then_b : Contents) (first second : List ℕ) (s : ShowState) → IsImage then_a first
    → IsImage then_b second → Stands first second s → (x y : List ℕ) → StandsEither s (closed_state s) x y
    → IsLeftOrStands then_a then_b x y
left_or_stands then_a then_b first second s left_first left_second stood x y stands = inr (record {
  first = first;
  second = second;
  left_first = left_first;
  left_second = left_second;
  before = s;
  stood = stood;
  stands = stands;
})

-- ---- why the cancels are not accepted

module _ {one other : Contents} {s : ShowState} {generation count end : ℕ}
    (kept : IsKept one other s generation count end) (first : IsImage one one.bytes)
    (second : IsImage other other.bytes) where
  pub no_generation : 1 ≤ length (events_at s recovered) → IsTrue (lacks_room count end (cancels_records s))
      → generation ≡ 2 ^ 64 - 1 → NoGenerationLeft one.bytes other.bytes
  no_generation some due last = record {
    area = kept.area;
    state = s;
    needs = record {
      reads = kept.leaves one.bytes other.bytes first second;
      stands = kept.stands;
      some = some;
      due = rw (kept.same_count, kept.same_end) at due;
    };
    last = sym kept.same_generation ∙ last;
  }

  -- what the two read as has the generation of the kept state
  pub generation_read : (area : Area) → PairReads area one.bytes other.bytes → generation ≡ area.generation
  generation_read area reads =
      kept.same_generation ∙ ap (λ (a : Area). a.generation)
      (sym (one_of_a_pair area kept.area one.bytes other.bytes reads
      (kept.leaves one.bytes other.bytes first second)))

  -- where no generation is left, that is so of the kept state: its cancels need a new area
  pub cannot_turn : NoGenerationLeft one.bytes other.bytes → IsTrue (lacks_room count end (cancels_records s))
      × (length (with_events (events_at s recovered ∷ [])) ≡ 1) × (generation ≡ 2 ^ 64 - 1)
  cannot_turn none =
      let reads = kept.leaves one.bytes other.bytes first second in
      let area = one_of_a_pair none.area kept.area one.bytes other.bytes none.needs.reads reads in
      let state = one_state one.bytes other.bytes none.state s
      (record { area = none.area; reads = none.needs.reads; stands = none.needs.stands })
      (record { area = kept.area; reads = reads; stands = kept.stands }) in (
        rw (kept.same_count, kept.same_end, ← area, ← state) none.needs.due,
        has_one (events_at s recovered) (rw state at none.needs.some),
        generation_read none.area none.needs.reads ∙ none.last,
      )

-- if a new area is needed, the generation is the next one, and else the same
pub one_more : (due : Bool) (before after : ℕ) → after ≡ (if due then before + 1 else before) → after ≤ before + 1
one_more true before after is = omega (arith, is)
one_more false before after is = omega (arith, is)

-- one fault or the other was reported, and is one of the store
pub told_one : (f x y : Fault) (g gx gy : StoreFault) → (Some f ≡ Some x) ⊎ (Some f ≡ Some y) → (f ≡ x → g ≡ gx)
    → (f ≡ y → g ≡ gy) → (g ≡ gy) ⊎ (g ≡ gx) ⊎ (g ≡ store.Disk)
told_one f x y g gx gy (inl is) one other = let same : f ≡ x = cc in inr (inl (one same))
told_one f x y g gx gy (inr is) one other = let same : f ≡ y = cc in inl (other same)

-- and none is one of the two
pub none_told : {P : Type 0} (x y : Fault) → (None ≡ Some x) ⊎ (None ≡ Some y) → P
none_told x y (inl is) = cc
none_told x y (inr is) = cc

-- a fault that has its reason says why the two cannot be recovered
pub opening_cause : (fault : StoreFault) (x y : List ℕ) → IsOfOpening fault
    → (fault ≡ store.Unformed → NeitherHas x y) → (fault ≡ store.Damaged → IsSpoiled x y)
    → (fault ≡ store.Version → HasOtherVersion x y) → (fault ≡ store.Malformed → StandsForNone x y)
    → CannotBeRecovered fault x y
opening_cause store.Unformed x y may unformed damaged version malformed = unformed refl
opening_cause store.Damaged x y may unformed damaged version malformed = damaged refl
opening_cause store.Version x y may unformed damaged version malformed = version refl
opening_cause store.Malformed x y may unformed damaged version malformed = malformed refl
opening_cause store.Memory x y may unformed damaged version malformed = tt
opening_cause store.Disk x y may unformed damaged version malformed = tt
opening_cause _ x y may unformed damaged version malformed = absurd may

-- what is left where a store that stands for a state is not opened
pub left_over : (fault : StoreFault) (x y : List ℕ) (s : ShowState) → Stands x y s → CannotBeRecovered fault x y
    → (fault ≡ store.Exhausted) ⊎ (fault ≡ store.Memory) ⊎ (fault ≡ store.Disk)
left_over store.NotEmpty x y s stands cause = absurd cause
left_over store.Unformed x y s stands cause = absurd ((is_opened x y s stands).0 cause)
left_over store.Damaged x y s stands cause = absurd ((is_opened x y s stands).1 cause)
left_over store.Version x y s stands cause = absurd ((is_opened x y s stands).2 cause)
left_over store.Malformed x y s stands cause = absurd ((is_opened x y s stands).3 cause)
left_over store.Full x y s stands cause = absurd cause
left_over store.Exhausted x y s stands cause = inl refl
left_over store.Memory x y s stands cause = inr (inl refl)
left_over store.Disk x y s stands cause = inr (inr refl)

-- where a store was opened, only its cancels can be refused
pub cancels_refused : {T D : Type 0} (r : Result T (StoreFault × D × D)) (x y : List ℕ)
    → IfErr r (λ refused. IsOfCancels refused.0)
    → RefusedAs store.Exhausted (NoGenerationLeft x y) r → IfErr r (λ refused. CannotBeRecovered refused.0 x y)
cancels_refused (Ok made) x y only exhausted = tt
cancels_refused (Err refused) x y only exhausted = by refused.0 only exhausted
  where
    by : (f : StoreFault) → IsOfCancels f → (f ≡ store.Exhausted → NoGenerationLeft x y) → CannotBeRecovered f x y
    by store.Exhausted may told = told refl
    by store.Memory may told = tt
    by store.Disk may told = tt
    by _ may told = absurd may

pub never_cancels : {T D : Type 0} (f : StoreFault) (r : Result T (StoreFault × D × D)) → (IsOfCancels f → ⊥)
    → IfErr r (λ refused. IsOfCancels refused.0) → RefusedAs f ⊥ r
never_cancels f (Ok made) never only = tt
never_cancels f (Err refused) never only = λ is. never (subst IsOfCancels is only)

-- what follows of what a refusal leaves
pub refused_but : {T E D : Type 0} (fault : E) (P : Type 0) {Q : Type 0} (r : Result T (E × D × D))
    → RefusedBut fault P r → (P → Q) → RefusedBut fault Q r
refused_but fault P (Ok made) leaves follows = tt
refused_but fault P (Err refused) leaves follows = λ other. follows (leaves other)
