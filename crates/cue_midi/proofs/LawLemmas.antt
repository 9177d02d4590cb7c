-- Which bytes are heard as a key that is struck.
use Rattle.std.proofs.Common.{◌≡◌, ◌∙◌, ℕ, ◌+◌, ◌-◌, ◌<◌, ◌≤◌, ◌++◌, ◌&&◌, if◌then◌else◌, Bool, true, false, List, []}
use Rattle.std.proofs.Common.{◌∷◌, IsTrue}
use Rattle.std.proofs.Common.{Option, None, Some, length, reverse, refl, sym, ap, arith, nat_eq, nat_le, nat_lt}
use Rattle.std.proofs.lemmas.Bool.Decides.{nat_tests}
use Rattle.std.specs.List.{list_all}
use Rattle.cue_show.proofs.TestLemmas.{both}
use Rattle.cue_midi.specs.Laws.{HeardIsStruck, IsStruck, RealTimePasses, StruckIsHeard}
use Rattle.cue_midi.specs.Show.{show_in}
use Rattle.cue_midi.specs.Stream.{status_of, run_of, half_of, joined, is_real_time, is_data, heard_at, by_data_at}
use Rattle.cue_midi.specs.Stream.{by_data, by_second, of_two, note_on, by_status_at, by_status, is_open, ended}
use Rattle.cue_midi.specs.Stream.{ended_by, said_in, exclusive}
use Rattle.cue_midi.specs.declared.heard.Heard.{Heard}
use Rattle.cue_midi.specs.declared.heard.Heard.TheVariants as heard
use Rattle.cue_midi.specs.declared.heard.Kind.TheVariants as kind
use Rattle.cue_midi.specs.declared.show.Show.{Show}

-- ---- bytes of real time

status-passes : (clocks past : List ℕ) → IsTrue (list_all is_real_time clocks)
    → status_of (clocks ++ past) ≡ status_of past
status-passes [] past h = refl
status-passes (c ∷ cs) past h =
    let parts = both (nat_le 248 c) (list_all is_real_time cs) h in
    let real : nat_le 248 c ≡ true = parts.0 in
    let low : nat_lt c 128 ≡ false = grind (arith, nat_tests, real) in
    rw (low, real) (status-passes cs past parts.1)

run-passes : (clocks past : List ℕ) → IsTrue (list_all is_real_time clocks) → run_of (clocks ++ past) ≡ run_of past
run-passes [] past h = refl
run-passes (c ∷ cs) past h =
    let parts = both (nat_le 248 c) (list_all is_real_time cs) h in
    let real : nat_le 248 c ≡ true = parts.0 in
    let low : nat_lt c 128 ≡ false = grind (arith, nat_tests, real) in
    rw (low, real) (run-passes cs past parts.1)

pub real_time-passes : RealTimePasses
real_time-passes past clocks b h = rw (status-passes clocks past h, run-passes clocks past h) refl

-- ---- a key that is struck is heard

struck-two : (channel note velocity : ℕ) → channel < 16 → 0 < velocity
    → by_data (144 + channel) (Some note) velocity ≡ Some (heard.NoteOn channel note velocity)
struck-two channel note velocity few sounds =
    let a : nat_le 240 (144 + channel) ≡ false = grind (arith, nat_tests) in
    let b : nat_lt (144 + channel) 192 ≡ true = grind (arith, nat_tests) in
    let c : nat_lt (144 + channel) 144 ≡ false = grind (arith, nat_tests) in
    let d : nat_lt (144 + channel) 160 ≡ true = grind (arith, nat_tests) in
    let e : nat_eq velocity 0 ≡ false = grind (arith, nat_tests) in
    let f : 144 + channel - 144 ≡ channel = omega arith in
    rw (a, b, c, d, e, f) refl

pub struck-is_heard : StruckIsHeard
struck-is_heard past first second channel note velocity h k few low sounds high =
    let status : nat_lt (144 + channel) 128 ≡ false = grind (arith, nat_tests) in
    let early : nat_le 248 (144 + channel) ≡ false = grind (arith, nat_tests) in
    let note_low : nat_lt note 128 ≡ true = grind (arith, nat_tests) in
    let vel_low : nat_lt velocity 128 ≡ true = grind (arith, nat_tests) in
    let vel_real : nat_le 248 velocity ≡ false = grind (arith, nat_tests) in
    real_time-passes (note ∷ (first ++ ((144 + channel) ∷ past))) second velocity k
    ∙ rw (
      vel_real,
      vel_low,
      note_low,
      status-passes first ((144 + channel) ∷ past) h,
      run-passes first ((144 + channel) ∷ past) h,
      status,
      early,
    ) (struck-two channel note velocity few sounds)

-- ---- nothing else is heard as one

-- what a message of two data bytes says, if it is a key that is struck
record IsKey (status first last channel note velocity : ℕ) : Type 0 where
  pub status_is : status ≡ 144 + channel
  pub first_is : first ≡ note
  pub last_is : last ≡ velocity
  pub sounds : 0 < last

key-note_on : (status first last channel note velocity : ℕ) → nat_lt status 144 ≡ false
    → note_on (status - 144) first last ≡ heard.NoteOn channel note velocity
    → IsKey status first last channel note velocity
key-note_on status first last channel note velocity high e = by (nat_eq last 0) refl
  where
    by : (t : Bool) → nat_eq last 0 ≡ t → IsKey status first last channel note velocity
    by true z =
        let bad : heard.Ignored kind.NoteOff ≡ heard.NoteOn channel note velocity = rw z at e in
        cc
    by false z =
        let same : heard.NoteOn (status - 144) first last ≡ heard.NoteOn channel note velocity = rw z at e in
        let of : status - 144 ≡ channel = cc in
        record {
          status_is = grind (arith, nat_tests, high, of);
          first_is = cc;
          last_is = cc;
          sounds = grind (arith, nat_tests, z);
        }

key-of_two : (status first last channel note velocity : ℕ)
    → of_two status first last ≡ heard.NoteOn channel note velocity → IsKey status first last channel note velocity
key-of_two status first last channel note velocity e =
    by (nat_lt status 144) (nat_lt status 160) (nat_lt status 176) (nat_lt status 192) refl refl refl refl
  where
    by : (a b c d : Bool) → nat_lt status 144 ≡ a → nat_lt status 160 ≡ b → nat_lt status 176 ≡ c
        → nat_lt status 192 ≡ d → IsKey status first last channel note velocity
    by true b c d p q r s =
        let bad : heard.Ignored kind.NoteOff ≡ heard.NoteOn channel note velocity = rw p at e in cc
    by false true c d p q r s = key-note_on status first last channel note velocity p (rw (p, q) at e)
    by false false true d p q r s =
        let bad : heard.Ignored kind.KeyPressure ≡ heard.NoteOn channel note velocity = rw (p, q, r) at e in cc
    by false false false true p q r s =
        let bad : heard.Controller (status - 176) first last ≡ heard.NoteOn channel note velocity =
        rw (p, q, r, s) at e in cc
    by false false false false p q r s =
        let bad : heard.Ignored kind.PitchBend ≡ heard.NoteOn channel note velocity = rw (p, q, r, s) at e in cc

-- the status byte and the first data byte of a key that is struck
record IsHeld (status : Option ℕ) (half : Option ℕ) (b channel note velocity : ℕ) : Type 0 where
  pub status_is : status ≡ Some (144 + channel)
  pub first_is : half ≡ Some note
  pub last_is : b ≡ velocity
  pub sounds : 0 < b

held-by_second : (status : ℕ) (half : Option ℕ) (b channel note velocity : ℕ)
    → by_second status half b ≡ Some (heard.NoteOn channel note velocity)
    → IsHeld (Some status) half b channel note velocity
held-by_second status None b channel note velocity e = cc
held-by_second status (Some first) b channel note velocity e =
    let two : of_two status first b ≡ heard.NoteOn channel note velocity = cc in
    let key = key-of_two status first b channel note velocity two in
    record {
      status_is = ap (λ (n : ℕ). Some n) key.status_is;
      first_is = ap (λ (n : ℕ). Some n) key.first_is;
      last_is = key.last_is;
      sounds = key.sounds;
    }

held-by_data : (status : ℕ) (half : Option ℕ) (b channel note velocity : ℕ)
    → by_data status half b ≡ Some (heard.NoteOn channel note velocity)
    → IsHeld (Some status) half b channel note velocity
held-by_data status half b channel note velocity e =
    by (nat_le 240 status) (nat_lt status 192) (nat_lt status 208) (nat_lt status 224) refl refl refl refl
  where
    by : (k l m n : Bool) → nat_le 240 status ≡ k → nat_lt status 192 ≡ l → nat_lt status 208 ≡ m
        → nat_lt status 224 ≡ n → IsHeld (Some status) half b channel note velocity
    by true l m n p q r s =
        let bad : None ≡ Some (heard.NoteOn channel note velocity) = rw p at e in cc
    by false true m n p q r s = held-by_second status half b channel note velocity (rw (p, q) at e)
    by false false true n p q r s =
        let bad : Some (heard.Ignored kind.Program) ≡ Some (heard.NoteOn channel note velocity) = rw (p, q, r) at e in
        cc
    by false false false true p q r s =
        let bad : Some (heard.Ignored kind.ChannelPressure) ≡ Some (heard.NoteOn channel note velocity) =
        rw (p, q, r, s) at e in cc
    by false false false false p q r s = held-by_second status half b channel note velocity (rw (p, q, r, s) at e)

held-by_data_at : (status half : Option ℕ) (b channel note velocity : ℕ)
    → by_data_at status half b ≡ Some (heard.NoteOn channel note velocity) → IsHeld status half b channel note velocity
held-by_data_at None half b channel note velocity e = cc
held-by_data_at (Some status) half b channel note velocity e = held-by_data status half b channel note velocity e

-- a status byte is none
no-by_status : (is_open : Bool) (b channel note velocity : ℕ)
    → by_status is_open b ≡ Some (heard.NoteOn channel note velocity) → ⊥
no-by_status true b channel note velocity e = cc
no-by_status false b channel note velocity e = by (nat_lt 240 b) refl
  where
    by : (t : Bool) → nat_lt 240 b ≡ t → ⊥
    by true z =
        let bad : Some (heard.Ignored kind.Common) ≡ Some (heard.NoteOn channel note velocity) = rw z at e in cc
    by false z = let bad : None ≡ Some (heard.NoteOn channel note velocity) = rw z at e in cc

no-said_in : (s : Option Show) (channel note velocity : ℕ) → said_in s ≡ heard.NoteOn channel note velocity → ⊥
no-said_in None channel note velocity e = cc
no-said_in (Some s) channel note velocity e = cc

no-ended : (is_long : Bool) (body : List ℕ) (channel note velocity : ℕ)
    → ended_by is_long body ≡ heard.NoteOn channel note velocity → ⊥
no-ended true body channel note velocity e = cc
no-ended false body channel note velocity e = no-said_in (show_in body) channel note velocity e

-- a choice of two that are no key
neither : (k : Bool) (x : Heard) (o : Option Heard) (channel note velocity : ℕ)
    → (if k then Some x else o) ≡ Some (heard.NoteOn channel note velocity)
    → (x ≡ heard.NoteOn channel note velocity → ⊥) → (o ≡ Some (heard.NoteOn channel note velocity) → ⊥) → ⊥
neither true x o channel note velocity e n m = n (cc)
neither false x o channel note velocity e n m = m e

no-by_status_at : (status : Option ℕ) (run : List ℕ) (b channel note velocity : ℕ)
    → by_status_at status run b ≡ Some (heard.NoteOn channel note velocity) → ⊥
no-by_status_at None run b channel note velocity e = no-by_status false b channel note velocity e
no-by_status_at (Some status) run b channel note velocity e =
    neither (nat_eq status 240 && nat_eq b 247) (ended run) (by_status (is_open status (half_of run)) b)
    channel note velocity e
    (no-ended (nat_lt 256 (length run)) (reverse run) channel note velocity)
    (no-by_status (is_open status (half_of run)) b channel note velocity)

pub heard-is_struck : HeardIsStruck
heard-is_struck past b channel note velocity e = by (nat_le 248 b) (nat_lt b 128) refl refl
  where
    by : (k l : Bool) → nat_le 248 b ≡ k → nat_lt b 128 ≡ l → IsStruck past b channel note velocity
    by true l p q =
        let bad : Some (heard.Ignored kind.RealTime) ≡ Some (heard.NoteOn channel note velocity) = rw p at e in cc
    by false true p q =
        let held = held-by_data_at (status_of past) (half_of (run_of past)) b channel note velocity (rw (p, q) at e) in
        record { last = held.last_is; low = q; sounds = held.sounds; status = held.status_is; first = held.first_is }
    by false false p q =
        absurd (no-by_status_at (status_of past) (run_of past) b channel note velocity (rw (p, q) at e))
