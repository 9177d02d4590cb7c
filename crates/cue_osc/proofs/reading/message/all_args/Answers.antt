use Rattle.std.proofs.Common.{◌≡◌, ◌++◌, ◌∷◌, [], map, length, eqb, true, false, Ok, Err, sym, ◌∙◌}
use Rattle.std.proofs.lemmas.Bool.{cond-true, cond-false}
use Rattle.cue_osc.specs.declared.fault.Fault.TheVariants.{Trailing}
use Rattle.std.proofs.lemmas.Result.{err_from_is_err_and}
use Rattle.std.proofs.lemmas.List.{map_push}
use Rattle.cue_osc.specs.Argument.{arg_view}
use Rattle.cue_osc.specs.Reading.{all_args_at}
use Rattle.cue_osc.proofs.LoopLemmas.{arg_more, arg_fails, args_done}
use Rattle.cue_osc.proofs.reading.message.all_args.Goals as goal

pub returns-in_err-next : goal.returns-in_err-next
returns-in_err-next c =
    let p = err_from_is_err_and c.from_residual-in_err-next.result c.from_residual-in_err-next.ensures.1 in
    rw (p.1, p.2) (arg_fails c.in_err-next.field-0.0 (map arg_view c.loop-kind.args.items) c.args.kinds.now
    c.loop-kind.kind-index c.loop-kind.rest.now (all_args_at c.args.kinds.now c.args.bytes.now)
    c.loop-kind-test.true c.in_err-next.ensures c.loop-kind.invariant)

pub loop-kind-preserved : goal.loop-kind-preserved
loop-kind-preserved c =
    let x = c.in_ok-next.next in
    let e : map arg_view c.push.new.self.items ≡ map arg_view c.loop-kind.args.items ++ arg_view x ∷ [] =
    rw c.in_ok-push.ensures.items (map_push _ c.loop-kind.args.items x) in
    rw e (arg_more (map arg_view c.loop-kind.args.items) c.args.kinds.now c.loop-kind.kind-index c.loop-kind.rest.now
    (arg_view x) c.in_ok-next.after.now (all_args_at c.args.kinds.now c.args.bytes.now) c.loop-kind-test.true
    c.in_ok-next.ensures c.loop-kind.invariant)

pub returns-then-not-is_empty : goal.returns-then-not-is_empty
returns-then-not-is_empty c =
    let test : eqb (length c.loop-kind.rest.now) 0 ≡ false = sym c.is_empty.ensures ∙ c.if-not-is_empty.true in
    sym (args_done (map arg_view c.loop-kind.args.items) c.args.kinds.now c.loop-kind.kind-index c.loop-kind.rest.now
    (all_args_at c.args.kinds.now c.args.bytes.now) c.loop-kind-test.false c.loop-kind.invariant)
    ∙ cond-false (eqb (length c.loop-kind.rest.now) 0) (Ok (map arg_view c.loop-kind.args.items)) (Err Trailing)
    test

pub returns : goal.returns
returns c =
    let test : eqb (length c.loop-kind.rest.now) 0 ≡ true = sym c.is_empty.ensures ∙ c.if-not-is_empty.false in
    sym (args_done (map arg_view c.loop-kind.args.items) c.args.kinds.now c.loop-kind.kind-index c.loop-kind.rest.now
    (all_args_at c.args.kinds.now c.args.bytes.now) c.loop-kind-test.false c.loop-kind.invariant)
    ∙ cond-true (eqb (length c.loop-kind.rest.now) 0) (Ok (map arg_view c.loop-kind.args.items)) (Err Trailing) test
