use Rattle.std.proofs.Common.{◌≡◌, ◌++◌, ◌∷◌, [], List, sym, ◌∙◌, ap, subst, Vec, Global}
use Rattle.cue_core.specs.declared.event.Event.{Event}
use Rattle.cue_keeper.specs.Groups.{batches_view, IsGroup}
use Rattle.cue_keeper.proofs.GroupLemmas.{grown, view_more}
use Rattle.cue_keeper.proofs.group.BatchGroup.push.Goals as goal

pub invariant_of-self-2 : goal.invariant_of-self-2
invariant_of-self-2 c =
    let batch = c.args.batch in
    let inside = c.self.inside in
    let items : batches_view c.push_reserved.new.self.items ≡ batches_view inside.batches.items ++ batch.items ∷ [] =
    ap batches_view (c.push_reserved.ensures.items
    ∙ ap (λ (l : List (Vec Event Global)). l ++ batch ∷ []) c.in_ok-reserve.ensures.items)
    ∙ view_more inside.batches.items batch in
    subst (λ (all : List (List Event)). IsGroup all c.add_framed.new.records c.in_ok-self-inside.field-0) (sym items)
    (grown (batches_view inside.batches.items) batch.items inside.records c.add_framed.new.records inside.bytes
    c.in_ok-self-inside.field-0 c.self.invariant c.requires.batch c.requires.short
    (rw c.as_slice.ensures.value at c.in_ok-self-inside.ensures.ok)
    (rw c.as_slice.ensures.value at c.in_ok-self-inside.ensures.bytes))
