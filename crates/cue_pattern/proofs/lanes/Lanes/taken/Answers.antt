use Rattle.std.proofs.Common.{◌∙◌, ◌+◌, ◌*◌, sym, ap, get_or, arith}
use Rattle.cue_pattern.specs.Matching.{takes}
use Rattle.cue_pattern.proofs.LaneLemmas.{zero-row}
use Rattle.cue_pattern.proofs.LaneTableLemmas.{taken-none, taken-more, taken-less, taken-all}
use Rattle.cue_pattern.proofs.lanes.Lanes.taken.Goals.{then-takes, else-takes}
use Rattle.cue_pattern.proofs.lanes.Lanes.taken.Goals as goal

pub loop-letter-init : goal.loop-letter-init
loop-letter-init c = λ j text h k l. taken-none (takes c.args.piece.now) j _ text k (zero-row k) h.known

pub loop-letter-preserved : goal.loop-letter-preserved
loop-letter-preserved c = λ j text h k l.
    let m = c.loop-letter.letter in
    elim c.if-takes.branch [
      | then-takes w ↦ taken-more (takes c.args.piece.now) m j _ _
          (get_or c.args.self.now.letters (m * 17 + k) 0) text k (sym c.takes.ensures ∙ w.if-takes.true)
          (ap (λ row. get_or row k 0) w.row-is ∙ w.add.ensures k l) (c.loop-letter.invariant j text h k l)
          (h.letter m k (omega arith) l) h.known
      | else-takes w ↦ taken-less (takes c.args.piece.now) m j _ _ text k (sym c.takes.ensures ∙ w.if-takes.false)
          (ap (λ row. get_or row k 0) w.row-is) (c.loop-letter.invariant j text h k l) h.known
    ]

pub returns : goal.returns
returns c = λ j text h k l.
    taken-all (takes c.args.piece.now) c.loop-letter.letter j _ text k (omega arith)
    (c.loop-letter.invariant j text h k l) h.known
