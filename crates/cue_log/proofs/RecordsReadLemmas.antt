-- The records that stand in a list of bytes, one payload after another.
use Rattle.std.proofs.Common.{◌≡◌, ℕ, ◌<◌, List, ◌∷◌, length, ◌-◌, Option, Some, None, refl, sym, ◌∙◌, ap, subst, arith}
use Rattle.std.specs.Prelude.{IsSome}
use Rattle.std.specs.Option.{option_map}
use Rattle.cue_log.specs.Area.{records_text}
use Rattle.cue_log.specs.declared.area.TheConstants.{MAX_PAYLOAD}
use Rattle.cue_log.specs.Reading.{frame_at, in_front, payloads_at, or_none, payloads_in, HasRecords, bytes_left}
use Rattle.cue_log.proofs.CompleteLemmas.{length-records_text}
use Rattle.cue_log.proofs.SoundLemmas.{length-read}
use Rattle.cue_log.proofs.StepLemmas.{payloads_step}

pub some_is : (found : Option (List (List ℕ))) → IsSome found → found ≡ Some (or_none found)
some_is None has = absurd (cc (has))
some_is (Some payloads) has = refl

-- They are read where the length after them is.
pub read_in : (bytes : List ℕ) (behind : ℕ) (payloads : List (List ℕ)) → Some behind ≡ bytes_left bytes
    → payloads ≡ payloads_in bytes → payloads_at (length bytes) bytes ≡ Some payloads
read_in bytes behind payloads counted is = by (payloads_at (length bytes) bytes) refl
  where
    by : (found : Option (List (List ℕ))) → payloads_at (length bytes) bytes ≡ found
        → payloads_at (length bytes) bytes ≡ Some payloads
    by None none =
        let lacks : Some behind ≡ None = counted
        ∙ ap (option_map (λ (l : List (List ℕ)). length bytes - length (records_text l))) none in
        absurd (cc (lacks))
    by (Some others) some = some ∙ ap Some (sym (is ∙ ap or_none some))

-- There are fewer than there are bytes.
pub few_in : (bytes : List ℕ) → HasRecords bytes → length (payloads_in bytes) < length bytes
few_in bytes has = omega (
  arith,
  length-read (length bytes) bytes (payloads_in bytes) (some_is (payloads_at (length bytes) bytes) has),
  length-records_text (payloads_in bytes),
)

in_front_of : (payload : List ℕ) (whole rest : Option (List (List ℕ))) → IsSome whole → whole ≡ in_front payload rest
    → IsSome rest × (or_none whole ≡ payload ∷ or_none rest)
in_front_of payload whole None has is =
    let none : IsSome {T = List (List ℕ)} None = subst (λ (o : Option (List (List ℕ))). IsSome o) is has in
    absurd (cc (none))
in_front_of payload whole (Some payloads) has is = (refl, ap or_none is)

-- A gate that was read as open, and a frame after it.
module _ (bytes after : List ℕ) (gate : ℕ) (is : bytes ≡ gate ∷ after) (opened : gate ≡ 1) where
  first : bytes ≡ 1 ∷ after
  first = is ∙ ap (λ (n : ℕ). n ∷ after) opened

  pub one_in : (payload rest : List ℕ) → frame_at MAX_PAYLOAD after ≡ Some (payload, rest) → HasRecords bytes
      → HasRecords rest × (payloads_in bytes ≡ payload ∷ payloads_in rest)
  one_in payload rest frame has =
      in_front_of payload (payloads_at (length bytes) bytes) (payloads_at (length rest) rest) has
      (ap (λ (l : List ℕ). payloads_at (length l) l) first ∙ payloads_step after payload rest frame)
