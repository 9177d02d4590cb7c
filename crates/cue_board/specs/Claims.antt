-- What devices told the relay of themselves, in words. It is said to be told by them, and nothing is decided by it.
use Rattle.std.specs.Prelude.{ℕ, Bool, true, false, ◌&&◌, ◌++◌, ◌==◌, nat_eq, nat_le, length, codes, find, map}
use Rattle.std.specs.Prelude.{List, [], ◌∷◌, Option, None, Some, is_some, if◌then◌else◌}
use Rattle.std.specs.Fmt.{decimal, signed_decimal}
use Rattle.std.specs.List.{flat_map}
use Rattle.cue_exchange.specs.declared.attempt.Answer.{Answer}
use Rattle.cue_exchange.specs.declared.attempt.Answer.TheVariants as answer
use Rattle.cue_exchange.specs.declared.attempt.DeviceAnswer.{DeviceAnswer}
use Rattle.cue_relay.specs.declared.claims.Claims.{Claims}
use Rattle.cue_relay.specs.declared.claims.Position.{Position}
use Rattle.cue_relay.specs.declared.claims.Reason.{Reason}
use Rattle.cue_view.specs.declared.view.Contacted.{Contacted}
use Rattle.cue_board.specs.declared.claims.Kind.{Kind}
use Rattle.cue_board.specs.declared.claims.Kind.TheVariants as kind

-- a byte as it is shown: a question mark where it is no printed sign of ASCII, and a single quotation mark for a double
-- one, so that words never end their own quotation
abbrev pub sign_of : ℕ → ℕ
sign_of b = if nat_eq b 34 then 39 else if nat_le 32 b && nat_le b 126 then b else 63

abbrev pub plain : List ℕ → List ℕ
plain bytes = map sign_of bytes

-- ---- each claim in words

-- why it aborted, and in which attempt
abbrev pub reason_words : Option Reason → List ℕ
reason_words None = []
reason_words (Some r) = codes "\"" ++ (plain r.words ++ (codes "\" (attempt " ++ (decimal r.seq ++ codes ")")))

-- a unit after a space; nothing if it has none
abbrev pub unit_after : List ℕ → List ℕ
unit_after unit = if length unit == 0 then [] else codes " " ++ plain unit

-- where it is, and where it goes
abbrev pub position_words : Option Position → List ℕ
position_words None = []
position_words (Some p) =
    codes "at " ++ (signed_decimal p.at ++ (codes " of " ++ (signed_decimal p.goal ++ unit_after p.unit)))

-- who made it
abbrev pub identity_words : Option (List ℕ) → List ℕ
identity_words None = []
identity_words (Some words) = codes "it is \"" ++ (plain words ++ codes "\"")

-- what it told of a kind; nothing if it told nothing of it
abbrev pub claim_words : Kind → Claims → List ℕ
claim_words kind.Position c = position_words c.position
claim_words kind.Reason c = reason_words c.reason
claim_words kind.Identity c = identity_words c.identity

-- with the number of the device
abbrev pub claim_text : Kind → Contacted → List ℕ
claim_text k c = decimal c.device ++ (codes ": " ++ claim_words k c.claims)

unfoldable pub claim_texts : Kind → Contacted → List (List ℕ)
claim_texts k c = if length (claim_words k c.claims) == 0 then [] else claim_text k c ∷ []

-- all claims: where each device is, why each one aborted last, and who made each
abbrev pub all_claims : List Contacted → List (List ℕ)
all_claims network =
    flat_map (claim_texts kind.Position) network
    ++ (flat_map (claim_texts kind.Reason) network ++ flat_map (claim_texts kind.Identity) network)

-- ---- why a device aborted in an attempt, as it says

-- what the relay says of the device
abbrev pub contact_of : ℕ → List Contacted → Option Contacted
contact_of d network = find (λ (c : Contacted). nat_eq c.device d) network

-- the words of a reason that is of this attempt
abbrev pub of_attempt : ℕ → Option Reason → Option (List ℕ)
of_attempt q None = None
of_attempt q (Some r) = if nat_eq r.seq q then Some r.words else None

abbrev pub told_by : ℕ → Option Contacted → Option (List ℕ)
told_by q None = None
told_by q (Some c) = of_attempt q c.claims.reason

-- why the device says that it aborted the attempt, if it says so
unfoldable pub reason_of : List Contacted → ℕ → ℕ → Option (List ℕ)
reason_of network q d = told_by q (contact_of d network)

-- that the device says so
abbrev pub says_words : ℕ → List ℕ → List ℕ
says_words d words =
    codes "       device " ++ (decimal d ++ (codes " says: \"" ++ (plain words ++ codes "\"")))

abbrev pub says_or_none : ℕ → Option (List ℕ) → List (List ℕ)
says_or_none d None = []
says_or_none d (Some words) = says_words d words ∷ []

-- the line of it, if it says so of this attempt
unfoldable pub says_lines : List Contacted → ℕ → ℕ → List (List ℕ)
says_lines network q d = says_or_none d (reason_of network q d)

-- whether there is one
unfoldable pub has_said : List Contacted → ℕ → ℕ → Bool
has_said network q d = is_some (reason_of network q d)

-- the device failed
abbrev pub is_failed : Answer → Bool
is_failed answer.Failed = true
is_failed _ = false

-- the line of a device of a live attempt: one that failed in it, and says why
unfoldable pub answer_says : List Contacted → ℕ → DeviceAnswer → List (List ℕ)
answer_says network q a = if is_failed a.answer then says_lines network q a.device else []

-- whether there is one
unfoldable pub has_answer_said : List Contacted → ℕ → DeviceAnswer → Bool
has_answer_said network q a = is_failed a.answer && has_said network q a.device
