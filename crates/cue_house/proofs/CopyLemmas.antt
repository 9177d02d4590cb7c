-- What a desk takes for ready was ready in the store at a moment until then.
use Rattle.std.proofs.Common.{◌≡◌, ℕ, ◌≤◌, Bool, true, false, cond, List, [], ◌∷◌, length, Option, None, Some}
use Rattle.std.proofs.Common.{if◌then◌else◌, max, nat_eq, nat_le, refl, subst, arith}
use Rattle.std.proofs.lemmas.List.{length-append}
use Rattle.cue_exchange.specs.declared.attempt.Attempt.{Attempt}
use Rattle.cue_exchange.specs.Live.{attempt_of}
use Rattle.cue_core.specs.declared.event.Event.{Event}
use Rattle.cue_core.specs.State.{ShowState}
use Rattle.cue_station.specs.declared.heard.Copied.{Copied}
use Rattle.cue_station.specs.declared.heard.Heard.{Heard}
use Rattle.cue_station.specs.declared.heard.Heard.TheVariants as heard
use Rattle.cue_station.specs.declared.memory.Reading.{Reading}
use Rattle.cue_station.specs.Reading.{newer, read_with, reading_of, renewed}
use Rattle.cue_stage.specs.Stage.{Happening, meets, befalls, incidents}
use Rattle.cue_house.specs.Copies.{DesksReadTheStore, IsOfStore}
use Rattle.cue_house.specs.House.{Occurrence, on_stage, at_desk, stage_of, turns_of}
use Rattle.cue_house.specs.Presses.{WasReady}
use Rattle.cue_house.proofs.ApartLemmas.{LivesAs}

module _ (events : ℕ → List Event) where
  -- a copy of the store as it was by then
  abbrev IsBy : ℕ → Reading → Type 0
  IsBy met r = IsOfStore events met (heard.Copied r.copy)

  newer_copy : (met : ℕ) (c : Copied) (old : Option Reading) (r : Reading) → IsOfStore events met (heard.Copied c)
      → ((s : Reading) → old ≡ Some s → IsBy met s) → newer c old ≡ Some r → IsBy met r
  newer_copy met c None r is more e =
      let one : record { at = c.begun; copy = c } ≡ r = cc in subst (λ (x : Reading). IsBy met x) one is
  newer_copy met c (Some s) r is more e = by (nat_le s.at c.begun) e
    where
      by : (b : Bool) → (if b then Some (record { at = c.begun; copy = c }) else Some s) ≡ Some r → IsBy met r
      by true k = let one : record { at = c.begun; copy = c } ≡ r = cc in subst (λ (x : Reading). IsBy met x) one is
      by false k = let one : s ≡ r = cc in subst (λ (x : Reading). IsBy met x) one (more s refl)

  same_copy : (met begun : ℕ) (old : Option Reading) (r : Reading) → ((s : Reading) → old ≡ Some s → IsBy met s)
      → renewed begun old ≡ Some r → IsBy met r
  same_copy met begun None r more e = absurd cc
  same_copy met begun (Some s) r more e =
      let one : record { at = max s.at begun; copy = s.copy } ≡ r = cc in
      subst (λ (x : Reading). IsBy met x) one (more s refl)

  one_heard : (met : ℕ) (h : Heard) (old : Option Reading) (r : Reading) → IsOfStore events met h
      → ((s : Reading) → old ≡ Some s → IsBy met s) → read_with h old ≡ Some r → IsBy met r
  one_heard met (heard.Copied c) old r is more e = newer_copy met c old r is more e
  one_heard met (heard.Same begun) old r is more e = same_copy met begun old r more e
  one_heard met _ old r is more e = more r e

  pub by_later : (met later : ℕ) (r : Reading) → met ≤ later → IsBy met r → IsBy later r
  by_later met later r le k = let at : k.0 ≤ met = k.1 in (k.0, omega arith, k.2)

  pub met_before : (h : Happening) (past : List Happening) → length (incidents past) ≤ length (incidents (h ∷ past))
  met_before (meets i) past = let l = length-append (incidents past) (i ∷ []) in rw l (omega arith)
  met_before (befalls d what) past = omega arith

  pub read_copy : (house : List Occurrence) (m : ℕ) (r : Reading) → DesksReadTheStore events house
      → reading_of (turns_of m house) ≡ Some r → IsBy (length (incidents (stage_of house))) r
  read_copy [] m r copies e = absurd cc
  read_copy (on_stage h ∷ past) m r copies e =
      by_later (length (incidents (stage_of past))) (length (incidents (h ∷ stage_of past))) r
      (met_before h (stage_of past)) (read_copy past m r copies e)
  read_copy (at_desk k t ∷ past) m r copies e = by (λ s is. read_copy past m s copies.1 is) (nat_eq k m) e
    where
      by : ((s : Reading) → reading_of (turns_of m past) ≡ Some s → IsBy (length (incidents (stage_of past))) s)
          → (b : Bool) → reading_of (cond b (t ∷ turns_of m past) (turns_of m past)) ≡ Some r
          → IsBy (length (incidents (stage_of past))) r
      by f true is = one_heard (length (incidents (stage_of past))) t.input.heard (reading_of (turns_of m past)) r
          copies.0 f is
      by f false is = f r is

  -- p was live at the cue after some of the incidents that the store had met
  pub record WasLive (met : ℕ) (cue : List ℕ) (p : ℕ) : Type 0 where
    pub number : ℕ
    pub by_then : number ≤ met
    pub attempt : Attempt
    pub lives : LivesAs (events number) p attempt
    pub of_cue : attempt.cue ≡ cue

  pub was_live : (house : List Occurrence) (m : ℕ) (cue : List ℕ) (p : ℕ) → DesksReadTheStore events house
      → WasReady (turns_of m house) cue p → WasLive (length (incidents (stage_of house))) cue p
  was_live house m cue p copies w =
      let k = read_copy house m w.reading copies w.newest in
      record {
        number = k.0;
        by_then = k.1;
        attempt = w.attempt;
        lives = subst (λ (s : ShowState). attempt_of s.live p ≡ Some w.attempt) k.2 w.found;
        of_cue = w.of_cue;
      }
