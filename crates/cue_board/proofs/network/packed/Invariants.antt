use Rattle.cue_columns.specs.Columns.{AreFit}
use Rattle.cue_board.proofs.network.packed.Given as goal

-- the lines so far fit
abbrev pub invariant-loop-text : goal.invariant-loop-text
invariant-loop-text l = AreFit l.lines.items
