-- A run, step by step: what it is promised at each moment.
use Rattle.std.proofs.Common.{◌≡◌, inl, inr, ℕ, ◌≤◌, List, [], ◌∷◌, ◌++◌, length, Option, refl, sym, ap, ◌∙◌, arith}
use Rattle.std.proofs.Common.{subst, append-nil, append_assoc}
use Rattle.std.proofs.lemmas.List.{map-append}
use Rattle.cue_disk.specs.declared.disk.Disk.{Ghosts}
use Rattle.cue_disk.specs.Disk.{Contents, IsImage}
use Rattle.cue_core.specs.State.{ShowState}
use Rattle.cue_keeper.specs.declared.keeper.Keeper.{Keeper}
use Rattle.cue_keeper.specs.Stands.{Stands, StandsEither, StandsAs, folded_all}
use Rattle.cue_keeper.specs.Observed as kept
use Rattle.cue_keeper.proofs.CommittedLemmas.{out_of_memory}
use Rattle.cue_outbox.specs.Sending.{Send, datagram, datagrams}
use Rattle.cue_engine.specs.declared.engine.Engine.{Engine}
use Rattle.cue_engine.specs.Observed.{keeper_of, state_of, queue_of, first_of, second_of}
use Rattle.cue_engine.specs.Given.{Input}
use Rattle.cue_engine.specs.Groups.{batches_given, sends_given}
use Rattle.cue_engine.specs.Incidents.{Incident, committed, handed_out, Store, running, at_rest, LeavesOnly, Permits}
use Rattle.cue_engine.specs.Incidents.{left_by}
use Rattle.cue_engine.specs.Lives.{Life, with_all, with_next, RunsWith, RestsWith, InEachLifeWith, View, view_of}
use Rattle.cue_engine.specs.Lives.{IsSound}
use Rattle.cue_engine.specs.Permitted.{IsWithin, IsFromTo}
use Rattle.cue_engine.specs.Sources.{Answer, GaveAll}
use Rattle.cue_engine.specs.Wires.{Handed, AllHanded}
use Rattle.cue_engine.proofs.LifeLemmas.{left_more, life_more, rests_more, handed_what_is_owed}
use Rattle.cue_engine.proofs.PromisedLemmas.{recovery_gives_a_prefix}
use Rattle.cue_run.specs.Running.{given_answers, Works}
use Rattle.cue_run.specs.Grouping.{LeavesEitherAtEachMoment, IsPastOf, WentThrough}
use Rattle.cue_run.specs.Through.{Point, point_of, Past, past_of, stop_in, IsSafe, Leads, steps_of, inputs_of}
use Rattle.cue_run.specs.Through.{GoesInSteps}

-- ---- lives and steps more

pub with_none : (life : Life) → with_all life [] ≡ life
with_none life = ap (λ (is : List Incident). record { began = life.began; store = life.store; incidents = is })
    (append-nil life.incidents)

pub with_both : (life : Life) (is js : List Incident) → with_all (with_all life is) js ≡ with_all life (is ++ js)
with_both life is js = ap (λ (ks : List Incident). record { began = life.began; store = life.store; incidents = ks })
    (append_assoc life.incidents is js)

-- steps, and then others
leads_on : (start : View) (past : Past) (life : Life) (is js : List Incident) (p q r : Point)
    → Leads start past life is p q → Leads start past (with_all life is) js q r → Leads start past life (is ++ js) p r
leads_on start past life [] js p q r none more =
    let P : Life → Type 0 = λ l. Leads start past l js q r in
    let Q : Point → Type 0 = λ x. Leads start past life js x r in
    subst Q none (subst P (with_none life) more)
leads_on start past life (i ∷ is) js p q r first more =
    let P : Life → Type 0 = λ l. Leads start past l js q r in (
      first.0,
      first.1,
      first.2,
      leads_on start past (with_next life i) is js first.0 q r first.3
          (subst P (sym (with_both life (i ∷ []) is)) more),
    )

-- one group more
steps_more : (groups : List (List (ℕ × Input))) (group : List (ℕ × Input))
    → steps_of groups ++ committed group ∷ handed_out ∷ [] ≡ steps_of (groups ++ group ∷ [])
steps_more [] group = refl
steps_more (g ∷ gs) group = ap (λ (is : List Incident). handed_out ∷ committed g ∷ is) (steps_more gs group)

inputs_more : (groups : List (List (ℕ × Input))) (group : List (ℕ × Input))
    → inputs_of (groups ++ group ∷ []) ≡ inputs_of groups ++ group
inputs_more [] group = append-nil group
inputs_more (g ∷ gs) group = ap (λ (is : List (ℕ × Input)). g ++ is) (inputs_more gs group)
    ∙ sym (append_assoc g (inputs_of gs) group)

-- an incident more, after which an engine runs with this state and owes this
runs_on : {life : Life} {s : ShowState} {queue : List (ℕ × List ℕ)} (runs : RunsWith life s queue) (i : Incident)
    (then : ShowState) (owed : List (ℕ × Send)) → Permits (running s runs.owed) i
    → left_by (running s runs.owed) i ≡ running then owed → RunsWith (with_next life i) then (datagrams owed)
runs_on {life} {s} runs i then owed ok leaves = record {
  lived = life_more life i (running s runs.owed) runs.lived runs.runs ok;
  owed = owed;
  runs = left_more life i ∙ ap (λ (u : Store). left_by u i) runs.runs ∙ leaves;
  owes = refl;
}

-- ---- a step is safe

module _ {life : Life} {s : ShowState} {queue : List (ℕ × List ℕ)} (runs : RunsWith life s queue) (past : Past)
    (from to : Point) (later : (from.first ≤ to.first) × (from.second ≤ to.second)) where
  -- a stop within it is permitted
  safe_if : (step : Incident)
      → ((n : ℕ) (one other : Contents) → left_by (running s runs.owed) (stop_in step n one other)
      ≡ at_rest one other)
      → ((n i j : ℕ) (one other : Contents) → IsFromTo from.first to.first i → IsFromTo from.second to.second j
      → IsWithin (past.first i) one → IsWithin (past.second j) other
      → Permits (running s runs.owed) (stop_in step n one other))
      → IsSafe past life step from to
  safe_if step leaves ok = record {
    later = later;
    promised = λ n i j x y at_i at_j left_x left_y.
        let one : Contents = past.first i in
        let other : Contents = past.second j in
        let at = at_rests n i j one other at_i at_j (λ image left. left) (λ image left. left) in
        recovery_gives_a_prefix life.began life.store (with_next life (stop_in step n one other)).incidents one other
        x y at.lived.rules at.lived.begins at.lived.happens at.rests (left_x, left_y);
    rests = at_rests;
  }
    where
      at_rests : (n i j : ℕ) (one other : Contents) → IsFromTo from.first to.first i
          → IsFromTo from.second to.second j → IsWithin (past.first i) one → IsWithin (past.second j) other
          → RestsWith (with_next life (stop_in step n one other)) one other
      at_rests n i j one other at_i at_j in_one in_other =
          rests_more life (stop_in step n one other) (running s runs.owed) one other runs.lived runs.runs
          (ok n i j one other at_i at_j in_one in_other) (leaves n one other)

  pub commit_is_safe : (inputs : List (ℕ × Input))
      → ((i j : ℕ) → IsFromTo from.first to.first i → IsFromTo from.second to.second j
      → LeavesOnly (past.first i) (past.second j) (StandsEither s (folded_all s (batches_given s inputs))))
      → IsSafe past life (committed inputs) from to
  commit_is_safe inputs leaves = safe_if (committed inputs) (λ n one other. refl)
      (λ n i j one other at_i at_j in_one in_other x y left_x left_y.
      leaves i j at_i at_j x y (in_one x left_x) (in_other y left_y))

  pub hand_out_is_safe : ((i j : ℕ) → IsFromTo from.first to.first i → IsFromTo from.second to.second j
      → StandsAs (past.first i) (past.second j) s)
      → IsSafe past life handed_out from to
  hand_out_is_safe stands = safe_if handed_out (λ n one other. refl)
      (λ n i j one other at_i at_j in_one in_other x y left_x left_y.
      stands i j at_i at_j x y (in_one x left_x) (in_other y left_y))

-- ---- what the disks held

-- the past of a view is its own
is_own_past : (view : View) → IsPastOf view (past_of view)
is_own_past view = ((λ k up_to. refl), (λ k up_to. refl))

module _ {D : Type 0} {disk : Ghosts D} where
  -- sound disks that were called only by what works are sound
  sound_on : (old new : Engine D disk) → Works (keeper_of old) (keeper_of new) → IsSound (view_of old)
      → IsSound (view_of new)
  sound_on old new works sound =
      ((works.keeps.first_honest.1 sound.0.0, works.keeps.second_honest.1 sound.0.1), works.broken ∙ sound.1)

  module _ (past : Past) (group : List (ℕ × Input)) (old new : Engine D disk)
      (moments : LeavesEitherAtEachMoment group (keeper_of old) (keeper_of new)) (sound : IsSound (view_of old))
      (is : IsPastOf (view_of new) past) where
    -- what was held up to now, was held up to an earlier moment, too
    past_before : IsPastOf (view_of old) past
    past_before =
        let at = moments sound.0.0 sound.0.1 sound.1 in (
          (λ k up_to. is.0 k (omega (arith, up_to, at.later_a)) ∙ at.same_a k up_to),
          (λ k up_to. is.1 k (omega (arith, up_to, at.later_b)) ∙ at.same_b k up_to),
        )

    -- what a crash leaves at each moment of a group
    leaves_either : (i j : ℕ) → IsFromTo (disk.moment (first_of old)) (disk.moment (first_of new)) i
        → IsFromTo (disk.moment (second_of old)) (disk.moment (second_of new)) j
        → LeavesOnly (past.first i) (past.second j)
        (StandsEither (state_of old) (folded_all (state_of old) (batches_given (state_of old) group)))
    leaves_either i j at_i at_j x y left_x left_y =
        let P : Contents → Type 0 = λ c. IsImage c x in
        let Q : Contents → Type 0 = λ c. IsImage c y in
        (moments sound.0.0 sound.0.1 sound.1).each i j at_i.0 at_i.1 at_j.0 at_j.1 x y
        (subst P (is.0 i at_i.1) left_x) (subst Q (is.1 j at_j.1) left_y)

  -- and at the one moment at which nothing is called
  leaves_state : (past : Past) (engine : Engine D disk)
      → LeavesEitherAtEachMoment [] (keeper_of engine) (keeper_of engine) → IsSound (view_of engine)
      → IsPastOf (view_of engine) past → (i j : ℕ)
      → IsFromTo (disk.moment (first_of engine)) (disk.moment (first_of engine)) i
      → IsFromTo (disk.moment (second_of engine)) (disk.moment (second_of engine)) j
      → StandsAs (past.first i) (past.second j) (state_of engine)
  leaves_state past engine moments sound is i j at_i at_j x y left_x left_y =
      one_of (leaves_either past [] engine engine moments sound is i j at_i at_j x y left_x left_y)
    where
      one_of : StandsEither (state_of engine) (state_of engine) x y → Stands x y (state_of engine)
      one_of (inl stands) = stands
      one_of (inr stands) = stands

  -- no call since
  pub nothing_called : ((x : D) → disk.is_honest x → disk.held_at x (disk.moment x) ≡ disk.held x)
      → (keeper : Keeper D disk) → Works keeper keeper → LeavesEitherAtEachMoment [] keeper keeper
  nothing_called now keeper works = λ first second working.
      let stands : disk.is_honest (kept.first_of keeper) → disk.is_honest (kept.second_of keeper)
      → StandsAs (disk.held (kept.first_of keeper)) (disk.held (kept.second_of keeper)) (kept.state_of keeper) =
      λ f s. works.stands f s working in
      (out_of_memory (kept.state_of keeper) [] (kept.pair_of keeper) now stands working).any_moment first second
      working

  -- ---- groups in order

  -- what was owed at first was handed out, and no group was taken yet
  pub went_none : (old new : Engine D disk) {told told_then : Option (List Handed)} {refused : ℕ}
      → keeper_of new ≡ keeper_of old → LeavesEitherAtEachMoment [] (keeper_of old) (keeper_of old)
      → AllHanded told (queue_of old) refused told_then
      → InEachLifeWith (state_of old) (queue_of old) (λ life. WentThrough [] old new told told_then life)
  went_none old new {told} {told_then} {refused} same moments handed = λ life runs.
      let first_same : disk.moment (first_of new) ≡ disk.moment (first_of old) =
      ap (λ (k : Keeper D disk). disk.moment (kept.first_of k)) same in
      let second_same : disk.moment (second_of new) ≡ disk.moment (second_of old) =
      ap (λ (k : Keeper D disk). disk.moment (kept.second_of k)) same in
      let H : List (ℕ × List ℕ) → Type 0 = λ q. AllHanded told q refused told_then in
      record {
        groups = [];
        all = refl;
        runs = runs_on runs handed_out (state_of new) [] tt
            (ap (λ (k : Keeper D disk). running (kept.state_of k) []) (sym same));
        steps = λ past is. (
          point_of (view_of new) told_then,
          (first_same, second_same, (refused, subst H (handed_what_is_owed runs) handed)),
          (λ sound. hand_out_is_safe runs past (point_of (view_of old) told) (point_of (view_of new) told_then)
              (omega (arith, first_same), omega (arith, second_same))
              (λ i j at_i at_j. leaves_state past old moments sound (rw same at (is sound)) i j
              (at_i.0, omega (arith, at_i.1, first_same)) (at_j.0, omega (arith, at_j.1, second_same)))),
          refl,
        );
      }

  module _ {inputs : List (ℕ × Input)} {first old : Engine D disk} {told mid : Option (List Handed)} {life : Life}
      (went : WentThrough inputs first old told mid life) (works : Works (keeper_of first) (keeper_of old))
      (group : List (ℕ × Input)) (new : Engine D disk) {told_then : Option (List Handed)}
      (moments : LeavesEitherAtEachMoment group (keeper_of old) (keeper_of new)) where
    -- a group more was committed and handed out
    pub went_more : {refused : ℕ} → Works (keeper_of old) (keeper_of new)
        → LeavesEitherAtEachMoment [] (keeper_of new) (keeper_of new)
        → state_of new ≡ folded_all (state_of old) (batches_given (state_of old) group)
        → AllHanded mid (datagrams (sends_given (state_of old) group)) refused told_then
        → WentThrough (inputs ++ group) first new told told_then life
    went_more {refused} worked still state handed =
        let s : ShowState = state_of old in
        let done : List Incident = steps_of went.groups in
        let more : List Incident = committed group ∷ handed_out ∷ [] in
        let before : Life = with_all life done in
        let between : Life = with_next before (committed group) in
        let sends : List (ℕ × Send) = sends_given s group in
        let owed : List (ℕ × Send) = went.runs.owed ++ sends in
        let at : Point = point_of (view_of old) mid in
        let kept_at : Point = point_of (view_of new) mid in
        let sent_at : Point = point_of (view_of new) told_then in
        let has : RunsWith between (state_of new) (datagrams owed) =
        runs_on went.runs (committed group) (state_of new) owed tt
        (ap (λ (u : ShowState). running u owed) (sym state)) in
        let rests : RunsWith (with_next between handed_out) (state_of new) [] =
        runs_on has handed_out (state_of new) [] tt refl in
        let owes : datagrams owed ≡ datagrams sends = map-append datagram went.runs.owed sends
        ∙ ap (λ (q : List (ℕ × List ℕ)). q ++ datagrams sends) (sym went.runs.owes) in
        let same_life : with_next between handed_out ≡ with_all life (steps_of (went.groups ++ group ∷ [])) =
        with_both before (committed group ∷ []) (handed_out ∷ []) ∙ with_both life done more
        ∙ ap (λ (is : List Incident). with_all life is) (steps_more went.groups group) in
        let H : List (ℕ × List ℕ) → Type 0 = λ q. AllHanded mid q refused told_then in
        let R : Life → Type 0 = λ l. RunsWith l (state_of new) [] in
        record {
          groups = went.groups ++ group ∷ [];
          all = inputs_more went.groups group ∙ ap (λ (is : List (ℕ × Input)). is ++ group) went.all;
          runs = subst R same_life rests;
          steps = λ past is.
              let L : List Incident → Type 0 =
              λ steps. Leads (view_of first) past life steps (point_of (view_of first) told) sent_at in
              subst L (steps_more went.groups group)
              (leads_on (view_of first) past life done more (point_of (view_of first) told) at sent_at
              (went.steps past (λ sound. past_before past group old new moments (sound_on first old works sound)
              (is sound))) (
                kept_at,
                refl,
                (λ sound.
                    let sound_old = sound_on first old works sound in
                    let leaves = moments sound_old.0.0 sound_old.0.1 sound_old.1 in
                    commit_is_safe went.runs past at kept_at (leaves.later_a, leaves.later_b) group
                    (leaves_either past group old new moments sound_old (is sound))),
                (
                  sent_at,
                  (refl, refl, (refused, subst H (sym owes ∙ handed_what_is_owed has) handed)),
                  (λ sound. hand_out_is_safe has past kept_at sent_at (omega arith, omega arith)
                      (leaves_state past new still (sound_on old new worked (sound_on first old works sound))
                      (is sound))),
                  refl,
                ),
              ));
        }

    -- the run ended with this group: its commit was refused, or it is empty
    pub ends_through : {size turns : ℕ} {left left_then : Option (List Answer)} (after : List Answer)
        → state_of new ≡ state_of old → told_then ≡ mid → length inputs ≡ turns → length after ≤ 1
        → GaveAll size left (given_answers (inputs ++ group) ++ after) left_then
        → GoesInSteps size turns left left_then (view_of first) (view_of new) told told_then life (state_of new)
    ends_through {size} {turns} {left} {left_then} after state none number one_more came =
        let past : Past = past_of (view_of new) in
        let at : Point = point_of (view_of old) mid in
        let end : Point = point_of (view_of new) told_then in
        let R : ShowState → Type 0 = λ s. RunsWith (with_all life (steps_of went.groups)) s [] in
        let G : List (ℕ × Input) → Type 0 =
        λ is. GaveAll size left (given_answers (is ++ group) ++ after) left_then in
        record {
          groups = went.groups;
          refused = group;
          after = after;
          number = ap (λ (is : List (ℕ × Input)). length is) went.all ∙ number;
          one_more = one_more;
          came = subst G (sym went.all) came;
          last = at;
          steps = went.steps past (λ sound. past_before past group old new moments (sound_on first old works sound)
              (is_own_past (view_of new)));
          runs = subst R (sym state) went.runs;
          told_last = none;
          safe = λ sound.
              let sound_old = sound_on first old works sound in
              let leaves = moments sound_old.0.0 sound_old.0.1 sound_old.1 in
              commit_is_safe went.runs past at end (leaves.later_a, leaves.later_b) group
              (leaves_either past group old new moments sound_old (is_own_past (view_of new)));
        }
