-- One record after another, read from the front.
use Rattle.std.proofs.Common.{◌≡◌, ℕ, zero, suc, ◌+◌, ◌-◌, ◌≤◌, Bool, nat_lt, ◌||◌, ◌==◌, if◌then◌else◌, List, [], ◌∷◌}
use Rattle.std.proofs.Common.{◌++◌, length, take, drop, Option, Some, None, refl, inl, inr, sym, ◌∙◌, ap, arith}
use Rattle.std.proofs.Common.{append_assoc, length-append, length-drop}
use Rattle.std.specs.Option.{option_map}
use Rattle.std.proofs.lemmas.Bool.{cases_Bool}
use Rattle.std.proofs.lemmas.Bool.Decides.{nat_tests}
use Rattle.std.proofs.lemmas.List.{length-take}
use Rattle.cue_log.specs.declared.area.TheConstants.{FRAME_LEN, MAX_PAYLOAD}
use Rattle.cue_log.specs.Area.{frame_of, records_text}
use Rattle.cue_log.specs.Reading.{frame_at, four_at, in_front, payloads_after, payloads_at, behind, bytes_left}
use Rattle.cue_log.proofs.TextLemmas.{length-framed}

-- what a frame is of the bytes
pub record FrameParts (most : ℕ) (bytes text rest : List ℕ) : Type 0 where
  pub within : four_at bytes ≤ most
  pub reach : 4 + four_at bytes ≤ length bytes
  pub text_is : text ≡ take (four_at bytes) (drop 4 bytes)
  pub rest_is : rest ≡ drop (4 + four_at bytes) bytes

pub frame_parts : (most : ℕ) (bytes text rest : List ℕ) → frame_at most bytes ≡ Some (text, rest)
    → FrameParts most bytes text rest
unfolding frame_at
frame_parts most bytes text rest is =
    let refused : Bool = nat_lt (length bytes) 4 ||
    (nat_lt most (four_at bytes) || nat_lt (length bytes) (4 + four_at bytes)) in
    let found : List ℕ × List ℕ = (take (four_at bytes) (drop 4 bytes), drop (4 + four_at bytes) bytes) in
    elim (cases_Bool refused) [
      | inl yes_ ↦
          let none : frame_at most bytes ≡ None = ap (λ (b : Bool). if b then None else Some found) yes_ in
          absurd (cc (none, is))
      | inr no_ ↦
          let some : frame_at most bytes ≡ Some found = ap (λ (b : Bool). if b then None else Some found) no_ in
          let same : found ≡ (text, rest) = cc (some, is) in
          record {
            within = grind (arith, nat_tests, no_);
            reach = grind (arith, nat_tests, no_);
            text_is = sym (ap (λ (p : List ℕ × List ℕ). p.0) same);
            rest_is = sym (ap (λ (p : List ℕ × List ℕ). p.1) same);
          }
    ]

-- what a frame takes from the bytes: its length, itself, and what follows
pub length-frame_at : (most : ℕ) (bytes text rest : List ℕ) → frame_at most bytes ≡ Some (text, rest)
    → length bytes ≡ 4 + length text + length rest
length-frame_at most bytes text rest is =
    let parts = frame_parts most bytes text rest is in
    omega (
      arith,
      parts.reach,
      ap length parts.text_is,
      ap length parts.rest_is,
      length-take (four_at bytes)
          (drop 4 bytes),
      length-drop 4 bytes,
      length-drop (4 + four_at bytes) bytes,
    )

-- two readers of what follows that agree there
after_same : (p q : List ℕ → Option (List (List ℕ))) (most : ℕ) (bytes : List ℕ) (frame : Option (List ℕ × List ℕ))
    → frame_at most bytes ≡ frame → ((text rest : List ℕ) → frame_at most bytes ≡ Some (text, rest) → p rest ≡ q rest)
    → payloads_after p frame ≡ payloads_after q frame
after_same p q most bytes None is same = refl
after_same p q most bytes (Some parts) is same = ap (in_front parts.0) (same parts.0 parts.1 is)

-- As many payloads are read as there are, whatever the bound on their number, where the bytes are no more.
pub payloads_enough : (m n : ℕ) (bytes : List ℕ) → length bytes ≤ m → length bytes ≤ n
    → payloads_at m bytes ≡ payloads_at n bytes
payloads_enough zero zero bytes enough_m enough_n = refl
payloads_enough zero (suc n) [] enough_m enough_n = refl
payloads_enough zero (suc n) (gate ∷ bytes) enough_m enough_n = absurd (omega (arith, enough_m))
payloads_enough (suc m) zero [] enough_m enough_n = refl
payloads_enough (suc m) zero (gate ∷ bytes) enough_m enough_n = absurd (omega (arith, enough_n))
payloads_enough (suc m) (suc n) [] enough_m enough_n = refl
payloads_enough (suc m) (suc n) (gate ∷ bytes) enough_m enough_n =
    let same : payloads_after (payloads_at m) (frame_at MAX_PAYLOAD bytes) ≡ payloads_after (payloads_at n)
    (frame_at MAX_PAYLOAD bytes) =
    after_same (payloads_at m) (payloads_at n) MAX_PAYLOAD bytes (frame_at MAX_PAYLOAD bytes) refl
    (λ text rest is. payloads_enough m n rest
    (omega (arith, enough_m, length-frame_at MAX_PAYLOAD bytes text rest is))
    (omega (arith, enough_n, length-frame_at MAX_PAYLOAD bytes text rest is))) in
    ap (λ (o : Option (List (List ℕ))). if gate == 1 then o else Some []) same

-- An open gate and a frame: one payload, and those after it.
pub payloads_step : (after payload rest : List ℕ) → frame_at MAX_PAYLOAD after ≡ Some (payload, rest)
    → payloads_at (length (1 ∷ after)) (1 ∷ after) ≡ in_front payload (payloads_at (length rest) rest)
payloads_step after payload rest is =
    ap (payloads_after (payloads_at (length after))) is
    ∙ ap (in_front payload) (payloads_enough (length after) (length rest) rest
    (omega (arith, length-frame_at MAX_PAYLOAD after payload rest is)) (omega arith))

-- the length after one record more
behind_one : (long short : ℕ) (payload : List ℕ) (rest : Option (List (List ℕ)))
    → long ≡ FRAME_LEN + length payload + short
    → option_map (λ (payloads : List (List ℕ)). long - length (records_text payloads)) (in_front payload rest)
    ≡ option_map (λ (payloads : List (List ℕ)). short - length (records_text payloads)) rest
behind_one long short payload None is = refl
behind_one long short payload (Some payloads) is =
    let same : long - length (records_text (payload ∷ payloads)) ≡ short - length (records_text payloads) =
    omega (arith, is, length-append (1 ∷ frame_of payload) (records_text payloads), length-framed payload) in
    ap Some same

-- The last gate stands where it stood.
pub bytes_behind_step : (after payload rest : List ℕ) → frame_at MAX_PAYLOAD after ≡ Some (payload, rest)
    → bytes_left (1 ∷ after) ≡ bytes_left rest
bytes_behind_step after payload rest is =
    ap (option_map (λ (payloads : List (List ℕ)). length (1 ∷ after) - length (records_text payloads)))
    (payloads_step after payload rest is)
    ∙ behind_one (length (1 ∷ after)) (length rest) payload (payloads_at (length rest) rest)
    (omega (arith, length-frame_at MAX_PAYLOAD after payload rest is))

-- One payload read is in front no more, but among those that are read.
pub behind_step : (front : List (List ℕ)) (payload : List ℕ) (rest : Option (List (List ℕ)))
    → behind front (in_front payload rest) ≡ behind (front ++ payload ∷ []) rest
behind_step front payload None = refl
behind_step front payload (Some payloads) = ap Some (sym (append_assoc front (payload ∷ []) payloads))

-- The same steps at a gate that was read.
module _ (bytes after payload rest : List ℕ) (gate : ℕ) (is : bytes ≡ gate ∷ after) (opened : gate ≡ 1)
    (frame : frame_at MAX_PAYLOAD after ≡ Some (payload, rest)) where
  first : bytes ≡ 1 ∷ after
  first = is ∙ ap (λ (n : ℕ). n ∷ after) opened

  pub bytes_behind_next : bytes_left rest ≡ bytes_left bytes
  bytes_behind_next = sym (ap bytes_left first ∙ bytes_behind_step after payload rest frame)

  pub payloads_next : (front : List (List ℕ))
      → behind (front ++ payload ∷ []) (payloads_at (length rest) rest) ≡ behind front
      (payloads_at (length bytes) bytes)
  payloads_next front =
      sym (ap (λ (l : List ℕ). behind front (payloads_at (length l) l)) first
      ∙ ap (behind front) (payloads_step after payload rest frame)
      ∙ behind_step front payload (payloads_at (length rest) rest))
