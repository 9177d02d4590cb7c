-- What a device tells of itself, as one plain OSC message from its own address: why it aborted an attempt, where it is
-- and where it goes, and who made it.
use Rattle.std.specs.Prelude.{◌≡◌, ℕ, ℤ, Bool, true, ◌&&◌, if◌then◌else◌, List, [], ◌∷◌, ◌++◌, length, take, drop, codes, decimal, nat_lt, nat_le}
use Rattle.std.specs.Prelude.{Option, Some, None, IsTrue, ⊤, FitsSigned, ◌-◌, ◌%◌, ◌==◌}
use Rattle.std.specs.Int.{w32, cast_signed, from_be_bytes}
use Rattle.std.specs.List.{list_all}
use Rattle.cue_osc.specs.Argument.{int, text}
use Rattle.cue_osc.specs.Content.{Content, message}
use Rattle.cue_osc.specs.Reading.{padded_at, text_len}
use Rattle.cue_osc.specs.Writing.{text_of}
use Rattle.cue_device.specs.Datagrams.{number}
use Rattle.cue_show.specs.Number.{same_text}
use Rattle.cue_relay.specs.declared.claims.Claim.{Claim}
use Rattle.cue_relay.specs.declared.claims.Claim.TheVariants.{Why, At, Who}
use Rattle.cue_relay.specs.declared.claims.Claims.{Claims}
use Rattle.cue_relay.specs.declared.claims.Position.{Position}
use Rattle.cue_relay.specs.declared.claims.Reason.{Reason}
use Rattle.cue_relay.specs.declared.claims.TheConstants.{MAX_UNIT, MAX_WORDS}
use Rattle.cue_relay.specs.Messages.{is_attempt}
use Rattle.cue_relay.specs.Pieces.{◌>>=◌, after}

-- ---- what is meant

-- a byte of printable ASCII
abbrev pub is_printable : ℕ → Bool
is_printable b = nat_le 32 b && nat_le b 126

-- 1 to 48 printable bytes
abbrev pub are_words : List ℕ → Bool
are_words w = nat_le 1 (length w) && (nat_le (length w) MAX_WORDS && list_all is_printable w)

-- at most 8 printable bytes
abbrev pub is_unit : List ℕ → Bool
is_unit u = nat_le (length u) MAX_UNIT && list_all is_printable u

-- the number of an attempt, and words
abbrev pub is_reason : Reason → Bool
is_reason r = is_attempt r.seq && are_words r.words

-- a device may tell this
abbrev pub is_claim : Claim → Bool
is_claim (Why r) = is_reason r
is_claim (At at goal unit) = is_unit unit
is_claim (Who words) = are_words words

-- its numbers are int32s
abbrev pub FitsClaim : Claim → Type 0
FitsClaim (Why r) = ⊤
FitsClaim (At at goal unit) = FitsSigned w32 at × FitsSigned w32 goal
FitsClaim (Who words) = ⊤

-- the address of a claim of the device d
abbrev pub claim_address : ℕ → List ℕ → List ℕ
claim_address d name = codes "/device/" ++ (decimal d ++ name)

-- a claim of the device d as an OSC message
abbrev pub claim_content : ℕ → Claim → Content
claim_content d (Why r) = message (claim_address d (codes "/why")) (number r.seq ∷ text r.words ∷ [])
claim_content d (At at goal unit) = message (claim_address d (codes "/at")) (int at ∷ int goal ∷ text unit ∷ [])
claim_content d (Who words) = message (claim_address d (codes "/who")) (text words ∷ [])

-- and its bytes
unfoldable pub claim_text : ℕ → Claim → List ℕ
claim_text d c = text_of (claim_content d c)

-- the datagram is this claim of the device d
pub record IsClaimOf (d : ℕ) (datagram : List ℕ) (c : Claim) : Type 0 where
  pub may_tell : IsTrue (is_claim c)
  pub fits : FitsClaim c
  pub spelled : datagram ≡ claim_text d c

-- ---- what was told last

-- what a device told last, once it told this
abbrev pub after_claim : Claims → Claim → ℕ → Claims
after_claim c (Why r) now = record { reason = Some r; position = c.position; identity = c.identity }
after_claim c (At at goal unit) now = record {
  reason = c.reason;
  position = Some (record { told = now; at = at; goal = goal; unit = unit });
  identity = c.identity;
}
after_claim c (Who words) now = record { reason = c.reason; position = c.position; identity = Some words }

-- a device that told nothing
abbrev pub no_claims : Claims
no_claims = record { reason = None; position = None; identity = None }

-- what passes, if it is there
abbrev pub if_told : {X : Type 0} → (X → Bool) → Option X → Bool
if_told p None = true
if_told p (Some x) = p x

-- a device may have told these
abbrev pub are_claims : Claims → Bool
are_claims c =
    if_told is_reason c.reason && (if_told (λ p. is_unit p.unit) c.position && if_told are_words c.identity)

-- ---- reading

-- an OSC-string at the front, and what follows it
abbrev pub text_at : List ℕ → Option (List ℕ × List ℕ)
text_at bytes = padded_at (text_len bytes) (4 - text_len bytes % 4) bytes

-- four bytes as a number, and what follows them
abbrev pub int_at : List ℕ → Option (ℕ × List ℕ)
int_at bytes =
    if nat_lt (length bytes) 4 then None else Some (from_be_bytes w32 (take 4 bytes), drop 4 bytes)

-- an OSC-string, and nothing after it
unfoldable pub lone_text : List ℕ → Option (List ℕ)
lone_text bytes = text_at bytes >>= λ t. if length t.1 == 0 then Some t.0 else None

-- what passes
abbrev pub kept : {X : Type 0} → (X → Bool) → X → Option X
kept p x = if p x then Some x else None

-- why it aborted
unfoldable pub why_at : List ℕ → Option Claim
why_at bytes = int_at bytes >>= λ n. lone_text n.1 >>= λ t.
    if is_attempt n.0 && are_words t then Some (Why (record { seq = n.0; words = t })) else None

-- where it is, where it goes, and the unit of both
unfoldable pub at_at : List ℕ → Option Claim
at_at bytes = int_at bytes >>= λ a. int_at a.1 >>= λ g. lone_text g.1 >>= λ t.
    if is_unit t then Some (At (cast_signed w32 a.0) (cast_signed w32 g.0) t) else None

-- who made it
unfoldable pub who_at : List ℕ → Option Claim
who_at bytes = lone_text bytes >>= λ t. if are_words t then Some (Who t) else None

-- the claim of this name and with these tags
unfoldable pub named_at : List ℕ → List ℕ → List ℕ → Option Claim
named_at name tags bytes =
    if same_text name (codes "/why") && same_text tags (codes ",is") then why_at bytes else
    if same_text name (codes "/at") && same_text tags (codes ",iis") then at_at bytes else
    if same_text name (codes "/who") && same_text tags (codes ",s") then who_at bytes else None

-- the name in an address of the device d
unfoldable pub name_in : ℕ → List ℕ → Option (List ℕ)
name_in d address = after (codes "/device/") address >>= λ rest. after (decimal d) rest

-- the claim of the device d that the datagram is
unfoldable pub claim_in : ℕ → List ℕ → Option Claim
claim_in d bytes =
    text_at bytes >>= λ a. name_in d a.0 >>= λ name. text_at a.1 >>= λ t. named_at name t.0 t.1
