use Rattle.std.proofs.Common.{◌≡◌, ◌∙◌, ◌+◌, ◌-◌, Some, None, ap, sym, arith}
use Rattle.std.specs.Option.{option_map}
use Rattle.cue_kept.proofs.LoopLemmas.{onto, onto_step, onto_stop}
use Rattle.cue_kept.specs.Reading.{told_at, items_at}
use Rattle.cue_kept.proofs.reading.each_told_in.Goals as goal

pub returns-in_default : goal.returns-in_default
returns-in_default c =
    let found : told_at c.loop.rest.now ≡ None =
    sym c.in_ok-told.ensures ∙ ap (option_map (λ x. (x.0, x.1.now))) c.in_default.is in
    sym (c.loop.invariant ∙ onto_stop told_at c.args.count c.loop.counter c.loop.failures.items c.loop.rest.now
    (omega (arith, c.loop-test.true)) found)

pub loop-preserved : goal.loop-preserved
loop-preserved c =
    let found : told_at c.loop.rest.now ≡ Some (c.in-Some.told, c.in-Some.more.now) =
    sym c.in_ok-told.ensures ∙ ap (option_map (λ x. (x.0, x.1.now))) c.in-Some.is in
    c.loop.invariant
    ∙ onto_step told_at c.args.count c.loop.counter c.loop.failures.items c.loop.rest.now
    c.in-Some.more.now c.in-Some.told
    (omega (arith, c.loop-test.true)) found
    ∙ ap (λ xs. onto xs (items_at told_at (c.args.count - (c.loop.counter + 1)) c.in-Some.more.now))
    (sym c.in_ok-push.ensures.items)
