-- The last part of a device that has ended.
use Rattle.std.specs.Prelude.{ℕ, List, Option}
use Rattle.cue_whereabouts.specs.declared.last.End.{End}

-- in which attempt it ended, and how; its cue and its bytes, as far as they are known
pub record PartEnd : Type 0 where
  pub attempt : ℕ
  pub end : End
  pub cue : Option (List ℕ)
  pub bytes : Option (List ℕ)
