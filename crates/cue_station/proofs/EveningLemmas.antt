-- An evening grows turn by turn.
use Rattle.std.proofs.Common.{◌≡◌, refl, sym, ap, ◌∙◌, subst, ◌+◌, List, [], ◌∷◌, ◌++◌, length, take, arith}
use Rattle.std.proofs.Common.{length-append, append-nil, Result, Ok, Err, OnErr}
use Rattle.cue_station.specs.declared.heard.Input.{Input}
use Rattle.cue_station.specs.declared.station.Station.{Station}
use Rattle.cue_station.specs.declared.station.Step.{Step}
use Rattle.cue_station.specs.Turns.{Turn}
use Rattle.cue_station.specs.Evening.{Plays, Stops, turns_with}
use Rattle.cue_station.specs.Laws.{KeepsLaw}
use Rattle.cue_station.specs.Memory.{IsAfter, StepKeeps, turn_of}
use Rattle.cue_station.specs.Stepping.{IsSame}
use Rattle.cue_station.proofs.TakenLemmas.{kept_as}

-- one turn more
turns-more : (past : List Turn) (heard : List Input) (steps : List Step) (i : Input) (s : Step)
    → length steps ≡ length heard
    → turns_with past (heard ++ (i ∷ [])) (steps ++ (s ∷ [])) ≡ turn_of i s ∷ turns_with past heard steps
turns-more past [] [] i s e = refl
turns-more past [] (y ∷ steps) i s e = absurd (omega arith)
turns-more past (x ∷ heard) [] i s e = absurd (omega arith)
turns-more past (x ∷ heard) (y ∷ steps) i s e = turns-more (turn_of x y ∷ past) heard steps i s (omega arith)

pub plays-more : (old mid new : Station) (heard : List Input) (steps : List Step) (i : Input) (s : Step)
    → Plays old heard steps mid → StepKeeps mid i new s → Plays old (heard ++ (i ∷ [])) (steps ++ (s ∷ [])) new
plays-more old mid new heard steps i s p k = λ past law after.
    let q = p past law after in
    let e = turns-more past heard steps i s q.each in
    let r = k (turns_with past heard steps) q.after in
    let each : length (steps ++ (s ∷ [])) ≡ length (heard ++ (i ∷ [])) =
    length-append steps (s ∷ []) ∙ ap (λ n. n + 1) q.each ∙ sym (length-append heard (i ∷ [])) in
    record {
      each = each;
      law = subst KeepsLaw (sym e) (r.0, q.law);
      after = subst (λ ts. IsAfter ts new) (sym e) r.1;
    }

-- the machine is as it was
pub plays-same : (old mid new : Station) (heard : List Input) (steps : List Step) → Plays old heard steps mid
    → IsSame mid new → Plays old heard steps new
plays-same old mid new heard steps p same = λ past law after.
    let q = p past law after in
    record {
      each = q.each;
      law = q.law;
      after = kept_as (turns_with past heard steps) mid.notes new.notes (sym same.notes)
          mid.reading new.reading (sym same.reading) mid.relay new.relay (sym same.relay)
          mid.seen.items new.seen.items (sym same.seen) mid.failed.items new.failed.items (sym same.failed)
          mid.views.items new.views.items (sym same.views) q.after;
    }

-- nothing was heard
pub plays-none : (old : Station) → Plays old [] [] old
plays-none old = λ past law after. record { each = refl; law = law; after = after }

take-front : (xs ys : List Input) → take (length xs) (xs ++ ys) ≡ xs
take-front [] ys = refl
take-front (x ∷ xs) ys = ap (λ v. x ∷ v) (take-front xs ys)

-- it ends after the first of them
pub stops : (old new : Station) (all heard rest : List Input) (steps : List Step) → heard ++ rest ≡ all
    → Plays old heard steps new → Stops old all new
stops old new all heard rest steps e p = (
  length heard,
  steps,
  subst (λ is. Plays old is steps new) (sym (ap (take (length heard)) (sym e) ∙ take-front heard rest)) p,
)

-- nothing is left, so all was heard
pub all_heard : (heard rest all : List Input) → heard ++ rest ≡ all → length rest ≡ 0 → heard ≡ all
all_heard heard [] all e h = sym (append-nil heard) ∙ e
all_heard heard (x ∷ rest) all e h = absurd (omega arith)

pub on_err : {T E P : Type 0} (r : Result T E) → P → OnErr r P
on_err (Ok x) p = tt
on_err (Err e) p = p
