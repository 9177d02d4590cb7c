use Rattle.std.proofs.Common.{◌≡◌, ◌≤◌, arith, length, false}
use Rattle.std.specs.Prelude.{is_ok, vec_capacity}
use Rattle.cue_web.proofs.AdmitLemmas.{come_all, come_next, come_none, come_some, full_if}
use Rattle.cue_web.proofs.connections.Connections.take_waiting.Goals as goal

pub loop-init : goal.loop-init
loop-init c = come_none (vec_capacity c.args.self.now.here) c.args.self.now.here.items

pub loop-preserved : goal.loop-preserved
loop-preserved c =
    let full : is_ok c.push.result ≡ false → vec_capacity c.loop.self.here ≤ length c.loop.self.here.items = λ no.
    let e : vec_capacity c.loop.self.here ≤ c.loop.self.here.len = full_if c.push.result _ c.push.ensures.full no in
    omega arith in
    come_next (vec_capacity c.args.self.now.here) (vec_capacity c.loop.self.here) (vec_capacity c.push.new.self)
    c.args.self.now.here.items c.loop.self.here.items c.push.new.self.items c.loop.counter c.new.result
    (is_ok c.push.result) c.push.ensures.items full c.push.ensures.capacity (omega arith) c.loop.invariant
    c.new.ensures.fresh

pub returns : goal.returns
returns c = record {
  come = come_all (vec_capacity c.args.self.now.here) (vec_capacity c.loop.self.here) c.args.self.now.here.items
      c.loop.self.here.items c.loop.counter (omega arith) (omega arith) c.loop.invariant;
  room = c.loop.invariant.roomy;
}

pub returns-in_default : goal.returns-in_default
returns-in_default c = record {
  come = come_some (vec_capacity c.args.self.now.here) (vec_capacity c.loop.self.here) c.args.self.now.here.items
      c.loop.self.here.items c.loop.counter (omega arith) c.loop.invariant;
  room = c.loop.invariant.roomy;
}
