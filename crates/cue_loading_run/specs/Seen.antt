-- What a look at a store came to, whatever the controller said and whatever the store had.
use Rattle.std.specs.Prelude.{Bool}
use Rattle.cue_core.specs.State.{ShowState}
use Rattle.cue_desk.specs.declared.replying.Status.{Status}
use Rattle.cue_load_words.specs.Looking.{IsLook}
use Rattle.cue_load_words.specs.declared.looking.Look.{Look}

-- it is what `look_of` makes of a status and of a state
abbrev pub IsSeen : Bool → Look → Type 0
IsSeen to_rest look = (status : Status) × (s : ShowState) × IsLook to_rest status s look
