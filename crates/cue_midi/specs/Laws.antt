-- What the definition of a stream says of messages.
use Rattle.std.specs.Prelude.{◌≡◌, ℕ, ◌+◌, ◌<◌, ◌≤◌, true, List, [], ◌∷◌, ◌++◌, Option, None, Some, IsTrue}
use Rattle.std.specs.List.{list_all}
use Rattle.cue_midi.specs.Stream.{heard_at, is_data, is_real_time, status_of, half_of, run_of}
use Rattle.cue_midi.specs.declared.heard.Heard.TheVariants as heard

-- bytes of real time between the others change nothing of what the next byte finishes
abbrev pub RealTimePasses : Type 0
RealTimePasses =
    (past clocks : List ℕ) (b : ℕ) → IsTrue (list_all is_real_time clocks)
    → heard_at (clocks ++ past) b ≡ heard_at past b

-- A key that is struck is heard at its velocity, whatever came before and whatever real time stands between.
abbrev pub StruckIsHeard : Type 0
StruckIsHeard =
    (past first second : List ℕ) (channel note velocity : ℕ) → IsTrue (list_all is_real_time first)
    → IsTrue (list_all is_real_time second) → channel < 16 → note < 128 → 0 < velocity → velocity < 128
    → heard_at (second ++ (note ∷ (first ++ ((144 + channel) ∷ past)))) velocity
    ≡ Some (heard.NoteOn channel note velocity)

-- It is heard at nothing else: at a data byte above 0, after the status byte of its channel and its note.
pub record IsStruck (past : List ℕ) (b channel note velocity : ℕ) : Type 0 where
  pub last : b ≡ velocity
  pub low : IsTrue (is_data b)
  pub sounds : 0 < b
  pub status : status_of past ≡ Some (144 + channel)
  pub first : half_of (run_of past) ≡ Some note

abbrev pub HeardIsStruck : Type 0
HeardIsStruck =
    (past : List ℕ) (b channel note velocity : ℕ) → heard_at past b ≡ Some (heard.NoteOn channel note velocity)
    → IsStruck past b channel note velocity
