use Rattle.std.proofs.Common.{◌≡◌, ◌∙◌, ◌-◌, ap, arith, length, drop}
use Rattle.std.proofs.lemmas.List.{drop-drop, length-drop}
use Rattle.cue_web.proofs.connections.make_room.Goals as goal

pub remove-requires : goal.remove-requires
remove-requires c =
    let e : length c.loop.here.items ≡ length c.args.here.now.items - c.loop.counter =
    ap length c.loop.invariant.gone ∙ length-drop c.loop.counter c.args.here.now.items in
    omega arith

pub loop-preserved : goal.loop-preserved
loop-preserved c = record {
  gone = c.remove.ensures.items ∙ ap (drop 1) c.loop.invariant.gone
      ∙ drop-drop 1 c.loop.counter c.args.here.now.items;
  room = c.remove.ensures.capacity ∙ c.loop.invariant.room;
}

pub returns-clause-newest : goal.returns-clause-newest
returns-clause-newest c =
    let e : c.loop.counter ≡ length c.args.here.now.items - 128 = omega arith in
    c.loop.invariant.gone ∙ ap (λ n. drop n c.args.here.now.items) e
