-- A claim is no answer.
use Rattle.std.proofs.Common.{◌≡◌, ◌∙◌, ℕ, ◌<◌, ◌≤◌, List, [], ◌∷◌, length, true, refl, Ok, sym, ap, subst, arith}
use Rattle.cue_osc.specs.declared.limits.TheConstants.{MAX_LEN}
use Rattle.cue_osc.specs.Argument.{int, text}
use Rattle.cue_osc.specs.Content.{Content, message}
use Rattle.cue_osc.specs.Plain.{IsPlain}
use Rattle.cue_osc.specs.Reading.{datagram_at}
use Rattle.cue_osc.specs.Spelling.{IsAddress}
use Rattle.cue_osc.specs.Writing.{IsInRange}
use Rattle.cue_osc.proofs.FieldLemmas.{ok_is}
use Rattle.cue_device.specs.Datagrams.{answer_content}
use Rattle.cue_show.proofs.TestLemmas.{both}
use Rattle.cue_relay.specs.declared.claims.Claim.{Claim}
use Rattle.cue_relay.specs.declared.claims.Claim.TheVariants.{Why, At, Who}
use Rattle.cue_relay.specs.Claims.{FitsClaim, IsClaimOf, are_words, claim_address, claim_content, claim_text, is_claim}
use Rattle.cue_relay.specs.Messages.{IsAnswerOf, is_attempt}
use Rattle.cue_relay.proofs.ClaimLemmas.{address-text, name_of, unit-text, words-text}
use Rattle.cue_relay.proofs.MessageLemmas.{fits, is_attempt-number, read_back}

-- its address is one
is-address : (d : ℕ) (c : Claim) → IsAddress (claim_address d (name_of c))
is-address d c = (refl, (address-text d c).1)

claim-plain : (d : ℕ) (c : Claim) → is_claim c ≡ true → IsPlain 8 (claim_content d c)
claim-plain d (Why r) may =
    (is-address d (Why r), (tt, (words-text r.words (both (is_attempt r.seq) (are_words r.words) may).1, tt)))
claim-plain d (At at goal unit) may = (is-address d (At at goal unit), (tt, (tt, (unit-text unit may, tt))))
claim-plain d (Who words) may = (is-address d (Who words), (words-text words may, tt))

claim-ranged : (d : ℕ) (c : Claim) → is_claim c ≡ true → FitsClaim c → IsInRange (claim_content d c)
claim-ranged d (Why r) may fit =
    let number = is_attempt-number r.seq (both (is_attempt r.seq) (are_words r.words) may).0 in
    (fits r.seq (omega (arith, number)), (tt, tt))
claim-ranged d (At at goal unit) may fit = (fit.0, (fit.1, (tt, tt)))
claim-ranged d (Who words) may fit = (tt, tt)

-- a claim reads as itself
claim-read : (d : ℕ) (c : Claim) → is_claim c ≡ true → FitsClaim c → length (claim_text d c) ≤ MAX_LEN
    → datagram_at (claim_text d c) ≡ Ok (claim_content d c)
unfolding claim_text
claim-read d c may fit short =
    read_back (claim_content d c)
    (record { plain = claim-plain d c may; in_range = claim-ranged d c may fit; short = short })

-- of an answer there is one argument, a number; of a claim there are more, or a text
abbrev kind : Content → ℕ
kind (message a (int z ∷ [])) = 0
kind _ = 1

claim-kind : (d : ℕ) (c : Claim) → kind (claim_content d c) ≡ 1
claim-kind d (Why r) = refl
claim-kind d (At at goal unit) = refl
claim-kind d (Who words) = refl

-- an answer of one device is a claim of none
pub answer-no-claim : (d e : ℕ) (bytes : List ℕ) (c : Claim) → length bytes ≤ MAX_LEN → IsAnswerOf d bytes
    → IsClaimOf e bytes c → ⊥
answer-no-claim d e bytes c short a is =
    let read : datagram_at bytes ≡ Ok (claim_content e c) =
    ap datagram_at is.spelled
    ∙ claim-read e c is.may_tell is.fits (subst (λ (x : List ℕ). length x ≤ MAX_LEN) is.spelled short) in
    let same : answer_content d a.0 ≡ claim_content e c =
    ok_is (answer_content d a.0) (claim_content e c) (sym a.2 ∙ read) in
    let n : 0 ≡ 1 = ap kind same ∙ claim-kind e c in
    absurd (omega (arith, n))
