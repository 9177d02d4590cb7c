-- What cannot be asked.
use Rattle.std.proofs.Common.{refl}
use Rattle.cue_desk.specs.declared.asking.Asked.{Asked}
use Rattle.cue_desk.specs.Loading.{message_of}
use Rattle.cue_load_machine.specs.Letters.{CannotBeSaid, IsUnaskable}

pub cannot_be_said : (a : Asked) → IsUnaskable a → CannotBeSaid (message_of a)
cannot_be_said a bad = record { asked = a; says = refl; unaskable = bad }
