-- The codes of replies in words, as the table of codes has them.
use Rattle.std.specs.Prelude.{◌≡◌, ℕ, ℤ, pos, negsuc, List, [], ◌∷◌, codes, Option, find, nat_eq}
use Rattle.std.specs.Option.{option_map_or}
use Rattle.cue_core.specs.Codes.{code_number, refusal_number}
use Rattle.cue_core.specs.declared.command.Code.{Code}
use Rattle.cue_core.specs.declared.command.Code.TheVariants as code
use Rattle.cue_core.specs.declared.refusal.Refusal.{Refusal}
use Rattle.cue_core.specs.declared.refusal.Refusal.TheVariants as refusal

-- what the code of a single command says
abbrev pub code_words : Code → List ℕ
code_words code.Unread = codes "the message could not be read whole"
code_words code.BadPattern = codes "the address is no pattern"
code_words code.NoMethod = codes "no such method, cue or device"
code_words code.Arguments = codes "the arguments are not those of the method"
code_words code.BadNumber = codes "a number is out of range"
code_words code.Duplicate = codes "it is there already, and differs"
code_words code.Full = codes "no room"
code_words code.BadParts = codes "not parts that a cue can have"
code_words code.UnknownDevice = codes "a part is for a device that is not there"
code_words code.InUse = codes "a cue uses the device"
code_words code.Busy = codes "the cue or a device of it is busy"
code_words code.NotLive = codes "nothing is stood by"
code_words code.NotReady = codes "not every device is ready"
code_words code.Decided = codes "the cue was given"
code_words code.Stale = codes "the answer came late"
code_words code.Early = codes "the answer came early"
code_words code.WrongPort = codes "the answer came from another port"
code_words code.Clock = codes "the moment is too late for a deadline"
code_words code.Exhausted = codes "no number is left for an attempt"
code_words code.NotPart = codes "the device is not part of the attempt"

-- what the code of a datagram that is refused whole says
abbrev pub refusal_words : Refusal → List ℕ
refusal_words refusal.BadPacket = codes "the datagram is no OSC packet"
refusal_words refusal.TooLong = codes "the datagram is too long"
refusal_words refusal.Later = codes "the datagram is for later"
refusal_words refusal.TooMany = codes "the datagram asks for too much at once"

-- ---- by their numbers

abbrev pub all_codes : List Code
all_codes =
    code.Unread ∷ code.BadPattern ∷ code.NoMethod ∷ code.Arguments ∷ code.BadNumber ∷ code.Duplicate
    ∷ code.Full ∷ code.BadParts ∷ code.UnknownDevice ∷ code.InUse ∷ code.Busy ∷ code.NotLive
    ∷ code.NotReady ∷ code.Decided ∷ code.Stale ∷ code.Early ∷ code.WrongPort ∷ code.Clock
    ∷ code.Exhausted ∷ code.NotPart ∷ []

abbrev pub all_refusals : List Refusal
all_refusals = refusal.BadPacket ∷ refusal.TooLong ∷ refusal.Later ∷ refusal.TooMany ∷ []

-- the code with the number
abbrev pub code_numbered : ℕ → Option Code
code_numbered n = find (λ c. nat_eq (code_number c) n) all_codes

-- the refusal with the number
abbrev pub refusal_numbered : ℕ → Option Refusal
refusal_numbered n = find (λ r. nat_eq (refusal_number r) n) all_refusals

-- what the number of a refusal says; `refused` for a number that is none
abbrev pub refusal_number_words : ℕ → List ℕ
refusal_number_words n = option_map_or refusal_words (refusal_numbered n) (codes "refused")

-- what the number of a code says; `refused` below 0
abbrev pub number_words : ℤ → List ℕ
number_words (pos n) = option_map_or code_words (code_numbered n) (refusal_number_words n)
number_words (negsuc n) = codes "refused"

-- Each code has its own number, and the number says what the code says.
pub record NumbersSayTheirCodes : Type 0 where
  pub code : (c : Code) → number_words (pos (code_number c)) ≡ code_words c
  pub refusal : (r : Refusal) → number_words (pos (refusal_number r)) ≡ refusal_words r
