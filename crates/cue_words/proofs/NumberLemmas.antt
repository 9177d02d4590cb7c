-- Each code, and each refusal, has its own number.
use Rattle.std.proofs.Common.{◌≡◌, pos, refl}
use Rattle.cue_core.specs.Codes.{code_number, refusal_number}
use Rattle.cue_core.specs.declared.command.Code.{Code}
use Rattle.cue_core.specs.declared.command.Code.TheVariants as code
use Rattle.cue_core.specs.declared.refusal.Refusal.{Refusal}
use Rattle.cue_core.specs.declared.refusal.Refusal.TheVariants as refusal
use Rattle.cue_words.specs.CodeWords.{code_words, refusal_words, number_words, NumbersSayTheirCodes}

of-code : (c : Code) → number_words (pos (code_number c)) ≡ code_words c
of-code code.Unread = refl
of-code code.BadPattern = refl
of-code code.NoMethod = refl
of-code code.Arguments = refl
of-code code.BadNumber = refl
of-code code.Duplicate = refl
of-code code.Full = refl
of-code code.BadParts = refl
of-code code.UnknownDevice = refl
of-code code.InUse = refl
of-code code.Busy = refl
of-code code.NotLive = refl
of-code code.NotReady = refl
of-code code.Decided = refl
of-code code.Stale = refl
of-code code.Early = refl
of-code code.WrongPort = refl
of-code code.Clock = refl
of-code code.Exhausted = refl
of-code code.NotPart = refl

of-refusal : (r : Refusal) → number_words (pos (refusal_number r)) ≡ refusal_words r
of-refusal refusal.BadPacket = refl
of-refusal refusal.TooLong = refl
of-refusal refusal.Later = refl
of-refusal refusal.TooMany = refl

pub numbers-say-their-codes : NumbersSayTheirCodes
numbers-say-their-codes = record { code = of-code; refusal = of-refusal }
