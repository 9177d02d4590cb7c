-- Forming and recovering go on with the life of a store over which no engine runs.
use Rattle.std.proofs.Common.{◌≡◌, ◌⊎◌, inl, inr, ℕ, List, [], Result, Ok, Err, refl, sym, ap, ◌∙◌, subst}
use Rattle.std.specs.Prelude.{IfOk}
use Rattle.cue_disk.specs.declared.disk.Disk.{Ghosts}
use Rattle.cue_disk.specs.Disk.{Contents, IsImage, LeavesAtEachMoment}
use Rattle.cue_snap.specs.Pair.{NeitherHas, AfterBarrier, IsUnformedOr}
use Rattle.cue_snap.specs.Observed.{first_after, second_after}
use Rattle.cue_core.specs.Batches.{closed_state}
use Rattle.cue_core.specs.State.{ShowState, empty_state}
use Rattle.cue_core.specs.Steps.{after_events}
use Rattle.cue_keeper.specs.Stands.{Stands, first_area}
use Rattle.cue_keeper.proofs.StandingLemmas.{one_state}
use Rattle.cue_keeper.proofs.RefusedLemmas.{is_opened}
use Rattle.cue_outbox.specs.Sending.{all_pending, datagrams}
use Rattle.cue_engine.specs.Recovery.{ClosedFrom, IsLeftOrStands, RefusedBut}
use Rattle.cue_engine.specs.Runs.{joined_list}
use Rattle.cue_engine.specs.Incidents.{Incident, formed, stopped_in_form, recovered, stopped_in_recovery, refused}
use Rattle.cue_engine.specs.Incidents.{Store, running, at_rest, unformed, AreLeft, RecoversAs, Permits, left_by}
use Rattle.cue_engine.specs.Incidents.{still_at_rest}
use Rattle.cue_engine.specs.Headline.{MayRead, HasState, CameTo}
use Rattle.cue_engine.specs.Permitted.{IsOnDisks}
use Rattle.cue_engine.specs.Lives.{Life, with_next, store_now, IsLife, RunsWith, RestsWith, RestsUnformed, LiesOn}
use Rattle.cue_engine.specs.Lives.{view_of_disks, HasBarrier, LeavesAtEachStop, IsGivenBack}
use Rattle.cue_engine.proofs.LifeLemmas.{left_more, life_more}
use Rattle.cue_engine.proofs.PromisedLemmas.{whatever_happens}
use Rattle.cue_engine.proofs.PermittedLemmas.{on_disks, stop_in_recovery, stop_in_form, refusal}

-- ---- what the disks hold

-- a store that was formed lies on them, and so does one that was not
pub lies_formed : (life : Life) (one other : Contents) → RestsWith life one other → LiesOn life one other
lies_formed life one other at = record { lived = at.lived; lies = inl at.rests }

may_read : (store : Store) (one other : Contents) (x y : List ℕ) → IsOnDisks store one other → AreLeft one other x y
    → MayRead store x y
may_read store one other x y (inl same) left = subst (λ (u : Store). MayRead u x y) (sym same) left
may_read store one other x y (inr same) left = subst (λ (u : Store). MayRead u x y) (sym same) left

-- what they read as stands for the state that the store has, if it stands for any
first_stands : (x y : List ℕ) (before last : ShowState) → Stands x y before → NeitherHas x y ⊎ Stands x y last
    → Stands x y last
first_stands x y before last stood (inl neither) = absurd ((is_opened x y before stood).0 neither)
first_stands x y before last stood (inr stands) = stands

lies_stand : (store : Store) (one other : Contents) (x y : List ℕ) (before last : ShowState)
    → IsOnDisks store one other → Stands x y before → HasState store x y last → Stands x y last
lies_stand store one other x y before last (inl same) stood has = subst (λ (u : Store). HasState u x y last) same has
lies_stand store one other x y before last (inr same) stood has =
    let first : HasState (unformed one other) x y last = subst (λ (u : Store). HasState u x y last) same has in
    first_stands x y before last stood first.1

-- what the store came to, read as the disks are
came_to : {life : Life} {one other : Contents} → IsImage one one.bytes → IsImage other other.bytes
    → LiesOn life one other → CameTo life.began life.store life.incidents one.bytes other.bytes
came_to {life} {one} {other} reads_one reads_other at =
    whatever_happens life.began life.store life.incidents one.bytes other.bytes at.lived.rules at.lived.begins
    at.lived.happens (may_read (store_now life) one other one.bytes other.bytes at.lies (reads_one, reads_other))

-- the disks of a store that was formed stand for a state
pub rests_stand : (life : Life) (one other : Contents) → IsImage one one.bytes → IsImage other other.bytes
    → RestsWith life one other → (t : ShowState) × Stands one.bytes other.bytes t
rests_stand life one other reads_one reads_other at =
    let came = came_to reads_one reads_other (lies_formed life one other at) in
    let last : ShowState = after_events life.began (joined_list came.kept) in
    (last, subst (λ (u : Store). HasState u one.bytes other.bytes last) at.rests came.has)

-- ---- recover

module _ {T E : Type 0} (state_in : T → ShowState) (queue_in : T → List (ℕ × List ℕ)) (life : Life)
    (one other : Contents) (reads_one : IsImage one one.bytes) (reads_other : IsImage other other.bytes) where
  pub given_back : (r : Result T E) → IfOk r (λ made. ClosedFrom one.bytes other.bytes (state_in made))
      → IfOk r (λ made. queue_in made ≡ datagrams (all_pending (state_in made)))
      → LiesOn life one other → IfOk r (λ made. IsGivenBack life (state_in made) (queue_in made))
  given_back (Err e) stood queue at = tt
  given_back (Ok made) stood queue at =
      let came = came_to reads_one reads_other at in
      let last : ShowState = after_events life.began (joined_list came.kept) in
      let stands : Stands one.bytes other.bytes last = lies_stand (store_now life) one other one.bytes other.bytes
      stood.before last at.lies stood.stood came.has in
      let gives : state_in made ≡ closed_state last = stood.is
      ∙ ap closed_state (one_state one.bytes other.bytes stood.before last stood.stood stands) in
      record {
        kept = came.kept;
        prefix = came.prefix;
        gives = gives;
        owes = queue ∙ ap (λ (u : ShowState). datagrams (all_pending u)) gives;
        decided = came.decided;
        in_bytes = came.in_bytes;
      }

  pub lives_recovered : (r : Result T E) → IfOk r (λ made. ClosedFrom one.bytes other.bytes (state_in made))
      → IfOk r (λ made. queue_in made ≡ datagrams (all_pending (state_in made)))
      → LiesOn life one other
      → IfOk r (λ made. RunsWith (with_next life (recovered (state_in made))) (state_in made) (queue_in made))
  lives_recovered (Err e) stood queue at = tt
  lives_recovered (Ok made) stood queue at =
      let t : ShowState = state_in made in
      let closes : RecoversAs one other t =
      record { first = one.bytes; second = other.bytes; left = (reads_one, reads_other); closed = stood } in
      record {
        lived = life_more life (recovered t) (store_now life) at.lived refl
            (on_disks (recovered t) (store_now life) one other closes closes at.lies);
        owed = all_pending t;
        runs = left_more life (recovered t);
        owes = queue;
      }

-- ---- what a call that gave no engine leaves

-- a store that rests on its disks in one way, formed or not, still rests so after such a call
pub record Rests (rest : Contents → Contents → Store) (Has : Life → Contents → Contents → Type 0) : Type 0 where
  pub lies : (one other : Contents) → IsOnDisks (rest one other) one other
  pub stays : (then_one then_other one other : Contents) → still_at_rest (rest then_one then_other) one other
      ≡ rest one other
  pub lived : (life : Life) (one other : Contents) → Has life one other → IsLife life
  pub rests : (life : Life) (one other : Contents) → Has life one other → store_now life ≡ rest one other
  pub has : (life : Life) (one other : Contents) → IsLife life → store_now life ≡ rest one other → Has life one other

pub formed_rests : Rests at_rest RestsWith
formed_rests = record {
  lies = λ one other. inl refl;
  stays = λ then_one then_other one other. refl;
  lived = λ life one other at. at.lived;
  rests = λ life one other at. at.rests;
  has = λ life one other lived rests. record { lived = lived; rests = rests };
}

pub unformed_rests : Rests unformed RestsUnformed
unformed_rests = record {
  lies = λ one other. inr refl;
  stays = λ then_one then_other one other. refl;
  lived = λ life one other at. at.lived;
  rests = λ life one other at. at.rests;
  has = λ life one other lived rests. record { lived = lived; rests = rests };
}

-- the life goes on with an incident that leaves the store at rest
next : {rest : Contents → Contents → Store} {Has : Life → Contents → Contents → Type 0} (is : Rests rest Has)
    (life : Life) (i : Incident) (then_one then_other one other : Contents) → Has life then_one then_other
    → Permits (rest then_one then_other) i
    → left_by (rest then_one then_other) i ≡ still_at_rest (rest then_one then_other) one other
    → Has (with_next life i) one other
next {rest} is life i then_one then_other one other at ok leaves =
    let same = is.rests life then_one then_other at in
    is.has (with_next life i) one other
    (life_more life i (rest then_one then_other) (is.lived life then_one then_other at) same ok)
    (left_more life i ∙ ap (λ (u : Store). left_by u i) same ∙ leaves ∙ is.stays then_one then_other one other)

-- what a clause says of two disks, it says of their views
abbrev seen_barrier : {D : Type 0} (disk : Ghosts D) (a b new_a new_b : D) (P : List ℕ → List ℕ → Type 0)
    → AfterBarrier disk.moment disk.held_at a b new_a new_b P
    → HasBarrier (view_of_disks disk a b) (view_of_disks disk new_a new_b) P
seen_barrier disk a b new_a new_b P h = record {
  at_a = h.at_a;
  at_b = h.at_b;
  from_a = h.from_a;
  from_b = h.from_b;
  to_a = h.to_a;
  to_b = h.to_b;
  same_a = h.same_a;
  same_b = h.same_b;
  before_a = h.before_a;
  before_b = h.before_b;
  each = h.each;
}

module _ {D : Type 0} (disk : Ghosts D)
    (held_now : (one : D) → disk.is_honest one → disk.held_at one (disk.moment one) ≡ disk.held one) where
  pub lives_refused : {T E : Type 0} {rest : Contents → Contents → Store} {Has : Life → Contents → Contents → Type 0}
      (is : Rests rest Has) (fault : E) (first_in second_in : T → D) (a b : D) (life : Life) (r : Result T (E × D × D))
      → disk.is_honest (first_after first_in r) → disk.is_honest (second_after second_in r)
      → RefusedBut fault (LeavesAtEachMoment disk.moment disk.held_at a (first_after first_in r)
      (IsImage (disk.held a))
      × LeavesAtEachMoment disk.moment disk.held_at b (second_after second_in r) (IsImage (disk.held b))) r
      → Has life (disk.held a) (disk.held b)
      → RefusedBut fault (Has
      (with_next life (refused (disk.held (first_after first_in r)) (disk.held (second_after second_in r))))
      (disk.held (first_after first_in r)) (disk.held (second_after second_in r))) r
  lives_refused is fault first_in second_in a b life (Ok made) honest_a honest_b leaves at = tt
  lives_refused {rest = rest} is fault first_in second_in a b life (Err why) honest_a honest_b leaves at = λ other.
      let one : Contents = disk.held why.1 in
      let two : Contents = disk.held why.2 in
      next is life (refused one two) (disk.held a) (disk.held b) one two at
      (refusal disk.moment disk.held disk.held_at disk.is_honest held_now (rest (disk.held a) (disk.held b)) a b why.1
      why.2 one two honest_a honest_b (is.lies (disk.held a) (disk.held b)) (leaves other) (λ image left. left)
      (λ image left. left)) refl

  pub rests_in_recovery : {rest : Contents → Contents → Store} {Has : Life → Contents → Contents → Type 0}
      (is : Rests rest Has) (a b new_a new_b : D) (life : Life) → disk.is_honest a → disk.is_honest b
      → AfterBarrier disk.moment disk.held_at a b new_a new_b (IsLeftOrStands (disk.held a) (disk.held b))
      → Has life (disk.held a) (disk.held b)
      → LeavesAtEachStop (view_of_disks disk a b) (view_of_disks disk new_a new_b)
      (IsLeftOrStands (disk.held a) (disk.held b))
      (λ one other. Has (with_next life (stopped_in_recovery one other)) one other)
  rests_in_recovery {rest} is a b new_a new_b life honest_a honest_b barrier at = record {
    barrier = seen_barrier disk a b new_a new_b (IsLeftOrStands (disk.held a) (disk.held b)) barrier;
    each = λ i j one other stops in_one in_other.
        next is life (stopped_in_recovery one other) (disk.held a) (disk.held b) one other at
        (stop_in_recovery disk.moment disk.held disk.held_at disk.is_honest held_now (rest (disk.held a) (disk.held b))
        a b new_a new_b i j one other honest_a honest_b (is.lies (disk.held a) (disk.held b)) barrier stops in_one
        in_other) refl;
  }

  pub rests_in_form : (a b new_a new_b : D) (life : Life) → disk.is_honest a → disk.is_honest b
      → AfterBarrier disk.moment disk.held_at a b new_a new_b
      (IsUnformedOr first_area (disk.held a) (disk.held b))
      → RestsUnformed life (disk.held a) (disk.held b)
      → LeavesAtEachStop (view_of_disks disk a b) (view_of_disks disk new_a new_b)
      (IsUnformedOr first_area (disk.held a) (disk.held b))
      (λ one other. RestsUnformed (with_next life (stopped_in_form one other)) one other)
  rests_in_form a b new_a new_b life honest_a honest_b barrier at = record {
    barrier = seen_barrier disk a b new_a new_b (IsUnformedOr first_area (disk.held a) (disk.held b)) barrier;
    each = λ i j one other stops in_one in_other.
        next unformed_rests life (stopped_in_form one other) (disk.held a) (disk.held b) one other at
        (stop_in_form disk.moment disk.held disk.held_at disk.is_honest held_now a b new_a new_b i j one other honest_a
        honest_b barrier stops in_one in_other) refl;
  }

-- ---- form

pub lives_formed : {T E : Type 0} (state_in : T → ShowState) (queue_in : T → List (ℕ × List ℕ)) (life : Life)
    (one other : Contents) (r : Result T E)
    → IfOk r (λ made. state_in made ≡ empty_state) → IfOk r (λ made. queue_in made ≡ [])
    → RestsUnformed life one other
    → IfOk r (λ made. RunsWith (with_next life formed) (state_in made) (queue_in made))
lives_formed state_in queue_in life one other (Err e) state queue at = tt
lives_formed state_in queue_in life one other (Ok made) state queue at =
    let P : ShowState → Type 0 = λ u. store_now (with_next life formed) ≡ running u (all_pending empty_state) in
    record {
      lived = life_more life formed (unformed one other) at.lived at.rests tt;
      owed = all_pending empty_state;
      runs = subst P (sym state) (left_more life formed);
      owes = queue;
    }
