use Rattle.std.proofs.Common.{rules, arith, below_more, ◌≡◌, ◌<◌, ℕ, get_or, ◌∙◌}
use Rattle.std.proofs.lemmas.Grind.{common_steps}
use Rattle.cue_disk.specs.Crash.{crashed_byte}
use Rattle.cue_disk.specs.Medium.{medium_held}
use Rattle.cue_disk.proofs.medium.Medium.scramble.Goals as goal

-- the byte at the place that the loop has come to
here : (c : goal.Joined-may_change)
    → get_or c.if-may_change.image c.loop-i.i 0 ≡ crashed_byte (medium_held c.args.self.now) c.args.junk.now c.loop-i.i
here c = grind (arith, common_steps)

-- those in front of it stay
same : (c : goal.Joined-may_change) → (k : ℕ) → k < c.loop-i.i
    → get_or c.if-may_change.image k 0 ≡ get_or c.loop-i.image k 0
same c = search rules

pub loop-i-preserved : goal.loop-i-preserved
loop-i-preserved c = record {
  counted = search rules;
  few = search rules;
  done =
      below_more (λ k. get_or c.if-may_change.image k 0 ≡ crashed_byte (medium_held c.args.self.now) c.args.junk.now k)
      c.loop-i.i
      (λ k low. same c k low ∙ c.loop-i.invariant.done k low)
      (here c);
  left = search rules;
}
