-- The bytes of records that are ready to be appended.
use Rattle.std.specs.Prelude.{◌≡◌, ◌≤◌, ◌+◌, ◌-◌, ℕ, true, List, length, take, drop}
use Rattle.cue_log.specs.declared.area.TheConstants.{FRAME_LEN, MAX_PAYLOAD}
use Rattle.cue_log.specs.Area.{record_text, group_text, are_records}
use Rattle.cue_log.specs.Reading.{payloads_in}

-- what stands between an open gate with the four bytes of the length and the closed gate
abbrev pub payload_in : List ℕ → List ℕ
payload_in bytes = take (length bytes - (FRAME_LEN + 1)) (drop FRAME_LEN bytes)

-- one record that is not too long, between its open gate and a closed one
pub record IsFramed (bytes : List ℕ) : Type 0 where
  pub text : bytes ≡ record_text (payload_in bytes)
  pub short : length (payload_in bytes) ≤ MAX_PAYLOAD
  pub len : length bytes ≡ FRAME_LEN + 1 + length (payload_in bytes)

-- records that are not too long, each after an open gate, and a closed gate after them
pub record AreFramed (bytes : List ℕ) : Type 0 where
  pub text : bytes ≡ group_text (payloads_in bytes)
  pub short : are_records (payloads_in bytes) ≡ true

-- the same, and so many of them
pub record IsGroup (bytes : List ℕ) (count : ℕ) : Type 0 where
  pub framed : AreFramed bytes
  pub counted : count ≡ length (payloads_in bytes)
