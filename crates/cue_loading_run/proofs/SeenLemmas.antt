-- A store that may be replaced is at rest.
use Rattle.std.proofs.Common.{◌≡◌, ◌∙◌, Bool, true, false, not, refl, ap}
use Rattle.cue_core.specs.State.{ShowState}
use Rattle.cue_desk.specs.declared.replying.Status.{Status}
use Rattle.cue_load_machine.specs.Plans.{rests}
use Rattle.cue_load_words.specs.Looking.{IsLook, IsLookBy, is_busy}
use Rattle.cue_load_words.specs.declared.looking.Look.{Look}
use Rattle.cue_load_words.specs.declared.looking.Look.TheVariants as look
use Rattle.cue_load_words.specs.declared.looking.Stored.{Stored}
use Rattle.cue_loading_run.specs.Seen.{IsSeen}

-- whatever was looked at
pub seen : (to_rest : Bool) (status : Status) (s : ShowState) (found : Look) → IsLook to_rest status s found
    → IsSeen to_rest found
seen to_rest status s found look = (status, s, look)

pub at_rest : (to_rest : Bool) (stored : Stored) → IsSeen to_rest (look.Same stored) → to_rest ≡ true
    → rests stored.live ≡ true
at_rest false stored found e = cc
at_rest true stored found e = by (is_busy true found.0) refl found.2
  where
    rested : (b : Bool) → not b ≡ false → b ≡ true
    rested true h = refl
    rested false h = cc

    by : (b : Bool) → is_busy true found.0 ≡ b → IsLookBy b found.0 found.1 (look.Same stored)
        → rests stored.live ≡ true
    by true busy is = absurd is
    by false busy is = ap rests is.live ∙ rested (rests found.0.live) busy
