use Rattle.std.proofs.Common.{length, ap, arith}
use Rattle.cue_machine.proofs.BufferLemmas.{found_at}
use Rattle.cue_machine.proofs.outputs.Outputs.at.Goals as goal

pub slice_bounds-result-count : goal.slice_bounds-result-count
slice_bounds-result-count c =
    (found_at c.self.inside.bytes.items c.self.inside.entries.items c.args.self.now c.args.place
    c.index-entry.result.now c.self.view_is c.requires c.index-entry.ensures c.self.invariant).from

pub slice_bounds-result-start : goal.slice_bounds-result-start
slice_bounds-result-start c =
    let f = found_at c.self.inside.bytes.items c.self.inside.entries.items c.args.self.now c.args.place
    c.index-entry.result.now c.self.view_is c.requires c.index-entry.ensures c.self.invariant in
    omega (arith, f.from, f.to)

pub slice_bounds-result-end : goal.slice_bounds-result-end
slice_bounds-result-end c =
    let f = found_at c.self.inside.bytes.items c.self.inside.entries.items c.args.self.now c.args.place
    c.index-entry.result.now c.self.view_is c.requires c.index-entry.ensures c.self.invariant in
    omega (arith, f.from, f.to, ap length c.deref.ensures.value)

pub returns : goal.returns
returns c =
    let f = found_at c.self.inside.bytes.items c.self.inside.entries.items c.args.self.now c.args.place
    c.index-entry.result.now c.self.view_is c.requires c.index-entry.ensures c.self.invariant in
    rw (c.deref.ensures.value) f.gives
