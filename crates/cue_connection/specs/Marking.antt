-- What a press of the page says of the curtain.
use Rattle.std.specs.Prelude.{ℕ, List, codes, Option, None, Some, if◌then◌else◌}
use Rattle.cue_show.specs.Number.{same_text}
use Rattle.cue_connection.specs.declared.marking.CurtainMove.{CurtainMove}
use Rattle.cue_connection.specs.declared.marking.CurtainMove.TheVariants.{Up, Down}

-- the body of such a press
abbrev pub mark_of : CurtainMove → List ℕ
mark_of Up = codes "mark up"
mark_of Down = codes "mark down"

-- what a body says of the curtain
abbrev pub curtain_of : List ℕ → Option CurtainMove
curtain_of body =
    if same_text body (mark_of Up) then Some Up
    else if same_text body (mark_of Down) then Some Down else None
