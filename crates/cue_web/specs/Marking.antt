-- The move of the curtain that waits to be written down.
use Rattle.std.specs.Prelude.{Bool, Option, None, Some, if◌then◌else◌}
use Rattle.cue_connection.specs.declared.asking.Asking.{Asking}
use Rattle.cue_connection.specs.declared.asking.Asking.TheVariants as asking
use Rattle.cue_connection.specs.declared.marking.CurtainMove.{CurtainMove}

-- the move that waits to be written down, after an asking: of a page that keeps marks, one at a time
abbrev pub waiting_after : Bool → Option CurtainMove → Asking → Option CurtainMove
waiting_after keeps waiting (asking.Mark c) =
    elim waiting [ None ↦ (if keeps then Some c else None) | Some other ↦ Some other ]
waiting_after keeps waiting _ = waiting
