-- Each moment of a run lies in one of its steps.
use Rattle.std.proofs.Common.{◌⊎◌, inl, inr, ℕ, ◌≤◌, ◌<◌, List, [], ◌∷◌, ◌++◌, sym, subst, arith}
use Rattle.std.proofs.lemmas.Bool.{cases_lt}
use Rattle.cue_disk.specs.declared.disk.Disk.{Ghosts}
use Rattle.cue_engine.specs.Incidents.{Incident, committed}
use Rattle.cue_engine.specs.Lives.{Life, with_all, with_next, View, view_of, IsSound}
use Rattle.cue_run.specs.Through.{Point, point_of, Past, past_of, IsSafe, Leads, steps_of, InOneOf, EachMomentIsSafe}
use Rattle.cue_run.proofs.ThroughLemmas.{with_none, with_both}

-- in one of the first steps
in_first : (past : Past) (life : Life) (steps more : List Incident) (P : (from to : Point) → Type 0)
    → InOneOf past life steps P → InOneOf past life (steps ++ more) P
in_first past life [] more P found = absurd found
in_first past life (step ∷ steps) more P (inl here) = inl here
in_first past life (step ∷ steps) more P (inr there) = inr (in_first past (with_next life step) steps more P there)

-- in one of the steps after them
in_rest : (past : Past) (life : Life) (steps more : List Incident) (P : (from to : Point) → Type 0)
    → InOneOf past (with_all life steps) more P → InOneOf past life (steps ++ more) P
in_rest past life [] more P found =
    let F : Life → Type 0 = λ l. InOneOf past l more P in subst F (with_none life) found
in_rest past life (step ∷ steps) more P found =
    let F : Life → Type 0 = λ l. InOneOf past l more P in
    inr (in_rest past (with_next life step) steps more P (subst F (sym (with_both life (step ∷ []) steps)) found))

-- the moment of the one disk, or of the other, at a point
module _ (at : Point → ℕ) (start : View) (past : Past) (sound : IsSound start) (i : ℕ) where
  find : (life : Life) (steps : List Incident) (from to : Point) → Leads start past life steps from to → at from ≤ i
      → InOneOf past life steps (λ p q. (at p ≤ i) × (i ≤ at q)) ⊎ (at to ≤ i)
  find life [] from to none since =
      let L : Point → Type 0 = λ p. at p ≤ i in inr (subst L (sym none) since)
  find life (step ∷ steps) from to led since =
      next_or_later (λ after. find (with_next life step) steps led.0 to led.3 after) (cases_lt i (at led.0))
    where
      later : InOneOf past (with_next life step) steps (λ p q. (at p ≤ i) × (i ≤ at q)) ⊎ (at to ≤ i)
          → InOneOf past life (step ∷ steps) (λ p q. (at p ≤ i) × (i ≤ at q)) ⊎ (at to ≤ i)
      later (inl found) = inl (inr found)
      later (inr none) = inr none

      next_or_later : (at led.0 ≤ i
          → InOneOf past (with_next life step) steps (λ p q. (at p ≤ i) × (i ≤ at q)) ⊎ (at to ≤ i))
          → (i < at led.0) ⊎ (at led.0 ≤ i)
          → InOneOf past life (step ∷ steps) (λ p q. (at p ≤ i) × (i ≤ at q)) ⊎ (at to ≤ i)
      next_or_later find_later (inl before) = inl (inl (from, led.0, (since, omega (arith, before)), led.2 sound))
      next_or_later find_later (inr after) = later (find_later after)

  -- and in the commit that was refused after them
  pub find_in_all : (life : Life) (steps : List Incident) (last : Incident) (from mid to : Point)
      → Leads start past life steps from mid → IsSafe past (with_all life steps) last mid to
      → at from ≤ i → i ≤ at to
      → InOneOf past life (steps ++ last ∷ []) (λ p q. (at p ≤ i) × (i ≤ at q))
  find_in_all life steps last from mid to led safe since until = either (find life steps from mid led since)
    where
      either : InOneOf past life steps (λ p q. (at p ≤ i) × (i ≤ at q)) ⊎ (at mid ≤ i)
          → InOneOf past life (steps ++ last ∷ []) (λ p q. (at p ≤ i) × (i ≤ at q))
      either (inl found) = in_first past life steps (last ∷ []) (λ p q. (at p ≤ i) × (i ≤ at q)) found
      either (inr after) = in_rest past life steps (last ∷ []) (λ p q. (at p ≤ i) × (i ≤ at q))
          (inl (mid, to, (after, until), safe))

pub each_moment : {D : Type 0} (disk : Ghosts D) → EachMomentIsSafe disk
each_moment disk size turns left left_then old new told told_then life state run sound =
    let past : Past = past_of (view_of new) in
    let from : Point = point_of (view_of old) told in
    let to : Point = point_of (view_of new) told_then in
    let done : List Incident = steps_of run.groups in
    let last : Incident = committed run.refused in (
      (λ i within. find_in_all (λ p. p.first) (view_of old) past sound i life done
          last from run.last to run.steps (run.safe sound) within.0 within.1),
      (λ j within. find_in_all (λ p. p.second) (view_of old) past sound j life done
          last from run.last to run.steps (run.safe sound) within.0 within.1),
    )
