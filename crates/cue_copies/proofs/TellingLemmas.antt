-- What records tell: one more batch, and all of them.
use Rattle.std.proofs.Common.{◌≡◌, ◌++◌, ◌∙◌, ℕ, List, [], ◌∷◌, Option, ap, sym, refl, subst}
use Rattle.std.proofs.lemmas.List.{append_assoc, append-nil}
use Rattle.cue_core.specs.declared.event.Event.{Event}
use Rattle.cue_log.specs.Area.{Area}
use Rattle.cue_snap.specs.Pair.{PairReads}
use Rattle.cue_copies.specs.Earlier.{IsEarlier}
use Rattle.cue_copies.specs.Telling.{AreBothTold, AreTold, Tells, TellsOne, or_none}

-- one more record of the rest is read
pub one_more : (tail rest next : List (List ℕ)) (payload : List ℕ) (before after : List Event)
    → ((more : List Event) → AreTold rest more → AreTold tail (before ++ more))
    → rest ≡ payload ∷ next → TellsOne payload before after
    → (more : List Event) → AreTold next more → AreTold tail (after ++ more)
one_more tail rest next payload before after so_far split one more told =
    let all : AreTold (payload ∷ next) (one.batch ++ more) = record {
      batch = one.batch;
      more = more;
      is_batch = one.is_batch;
      text = one.text;
      rest = told;
      is = refl;
    } in
    let at : AreTold rest (one.batch ++ more) =
    subst (λ (l : List (List ℕ)). AreTold l (one.batch ++ more)) (sym split) all in
    let shape : before ++ (one.batch ++ more) ≡ after ++ more =
    sym (append_assoc before one.batch more) ∙ ap (λ (l : List Event). l ++ more) (sym one.is) in
    subst (λ (l : List Event). AreTold tail l) shape (so_far (one.batch ++ more) at)

-- nothing of the rest is left
pub all_told : (tail rest : List (List ℕ)) (events : List Event)
    → ((more : List Event) → AreTold rest more → AreTold tail (events ++ more))
    → rest ≡ [] → AreTold tail events
all_told tail rest events so_far none =
    let at : AreTold rest [] = subst (λ (l : List (List ℕ)). AreTold l []) (sym none) refl in
    subst (λ (l : List Event). AreTold tail l) (append-nil events) (so_far [] at)

-- an area that counts, the one before it, and the events of both
pub tells_both : (area : Area) (x y : List ℕ) → PairReads area x y → (earlier : Option (List (List ℕ)))
    → IsEarlier area.generation x y earlier → (events : List Event)
    → AreBothTold (or_none earlier) area.payloads events → Tells x y events
tells_both area x y reads earlier is_earlier events told =
    record { area = area; reads = reads; earlier = earlier; is_earlier = is_earlier; told = told }
