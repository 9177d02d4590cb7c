-- What happens at a panel, round by round, and how it stands then: in between nothing is forgotten.
use Rattle.std.specs.Prelude.{◌≡◌, ◌≤◌, ◌<◌, ◌⊎◌, ℕ, Bool, true, false, List, [], ◌∷◌, ◌++◌, map, take, get_or, length}
use Rattle.std.specs.Prelude.{Option}
use Rattle.cue_machine.specs.Growing.{Grew}
use Rattle.cue_desk_run.specs.Working.{OnlyLooks, Stays}
use Rattle.cue_midi.specs.declared.heard.Heard.{Heard}
use Rattle.cue_midi.specs.Stream.{HearsAt, KeepsAt}
use Rattle.cue_panel.specs.Playing.{IsOpened, Undoes, begun_at, by_hand, hand_if, strike_if}
use Rattle.cue_panel.specs.declared.player.Player.{Player}
use Rattle.cue_presses.specs.Hand.{emptied}
use Rattle.cue_station.specs.declared.station.Station.{Station}
use Rattle.cue_view.specs.declared.view.View.{View}
use Rattle.cue_buttons_run.specs.Pressing.{Strikes}
use Rattle.cue_buttons_run.specs.Telling.{Reading, Told, bytes_in, gave, nothing, opened_if, reads, silent}
use Rattle.cue_buttons_run.specs.declared.jack.Came.{Came}
use Rattle.cue_buttons_run.specs.declared.jack.Came.TheVariants as came

-- ---- a device is opened

-- if it is opened at all
abbrev pub OpensIf : Bool → ℕ → (p p_then : Player) → Type 0
OpensIf true now p p_then = IsOpened now p p_then
OpensIf false now p p_then = p_then ≡ p

-- the jack tells of it, and of nothing else
abbrev pub Opens : ℕ → (told told_then : Option (List Told)) → (p p_then : Player) → Type 0
Opens now told told_then p p_then =
    (is_opened : Bool) × Grew told (opened_if is_opened) told_then × OpensIf is_opened now p p_then

-- ---- a byte

-- The device gives a byte: what that finishes is taken by the hand as it stands, and what it means is pressed. What it
-- finishes is said by the bytes before it, whichever the parser has heard.
pub record Gives (w : Bool) (byte : ℕ) (p p_then : Player) (old new : Station) (v v_then : View) : Type 0 where
  pub message : Option Heard
  pub hears : HearsAt p.parser byte message
  pub keeps : KeepsAt p.parser byte p_then.parser
  pub setting : p_then.setting ≡ p.setting
  pub strikes : Strikes w (strike_if p.setting p.hand v message) (hand_if p.setting p.hand message) p_then.hand old new
      v v_then

-- ---- one thing after the other

-- how a panel stands: who plays, the desk, and the view that it shows
pub record Stand : Type 0 where
  pub player : Player
  pub station : Station
  pub view : View

abbrev pub stand : Player → Station → View → Stand
stand p s v = record { player = p; station = s; view = v }

-- what happens while a device is heard
pub data Happening : Type 0 where
  -- it gives a byte, and there is memory for what that means, or not
  gives : (whole : Bool) (byte : ℕ) → Happening
  -- a read finds nothing
  empties : Happening

-- how a panel stands after it
abbrev pub Happens : Happening → (a b : Stand) → Type 0
Happens (gives w byte) a b = Gives w byte a.player b.player a.station b.station a.view b.view
Happens empties a b =
    (b.player ≡ by_hand (emptied a.player.hand) a.player) × Stays a.station b.station a.view b.view

-- and after all of these
abbrev pub AllHappen : List Happening → (a b : Stand) → Type 0
AllHappen [] a b = b ≡ a
AllHappen (h ∷ more) a b = (mid : Stand) × Happens h a mid × AllHappen more mid b

-- the byte at which memory ran out, if it did
abbrev pub cut_at : Bool → ℕ → List Happening
cut_at true byte = []
cut_at false byte = gives false byte ∷ []

-- These bytes are handed to a panel, each once and in order: all of them, or those up to the one at which memory ran
-- out.
pub record GivesAll (w : Bool) (bytes : List ℕ) (p p_then : Player) (old new : Station) (v v_then : View) : Type 0 where
  pub count : ℕ
  pub all : w ≡ true → length bytes ≤ count
  pub some : w ≡ false → count < length bytes
  pub happens : AllHappen (map (λ b. gives true b) (take count bytes) ++ cut_at w (get_or bytes count 0))
      (stand p old v) (stand p_then new v_then)

-- ---- what comes of a reading

-- The bytes that a reading gave are heard; nothing else is. If it found nothing, the panel knows that.
abbrev pub HearsCame : Bool → Came → List ℕ → (p p_then : Player) → (old new : Station) → (v v_then : View) → Type 0
HearsCame w (came.Bytes n) room p p_then old new v v_then = GivesAll w (bytes_in n room) p p_then old new v v_then
HearsCame w came.Nothing room p p_then old new v v_then =
    (p_then ≡ by_hand (emptied p.hand) p) × Stays old new v v_then
HearsCame w _ room p p_then old new v v_then = (p_then ≡ p) × Stays old new v v_then

-- what happens at a panel that hears this reading, if there is memory for each byte
abbrev pub happens_by : Reading → List Happening
happens_by (gave bytes) = map (λ b. gives true b) bytes
happens_by nothing = empties ∷ []
happens_by silent = []

-- and these, one after the other
abbrev pub happen_by : List Reading → List Happening
happen_by [] = []
happen_by (r ∷ more) = happens_by r ++ happen_by more

-- Memory ran out at a byte of the last reading: each byte before it was heard, and none after it.
pub record IsCut (readings : List Reading) (happened : List Happening) : Type 0 where
  pub before : List Reading
  pub bytes : List ℕ
  pub count : ℕ
  pub last : readings ≡ before ++ gave bytes ∷ []
  pub within : count < length bytes
  pub heard : happened ≡ happen_by before ++ (map (λ b. gives true b) (take count bytes)
      ++ gives false (get_or bytes count 0) ∷ [])

-- What was read happens at the panel, and nothing else: each byte once, and in order. If it ends in a failure, memory
-- may have run out at a byte.
abbrev pub HeardAs : Bool → List Reading → List Happening → Type 0
HeardAs true readings happened = happened ≡ happen_by readings
HeardAs false readings happened = (happened ≡ happen_by readings) ⊎ IsCut readings happened

-- A panel hears a device: what its jack tells are readings, and the panel hears just what they gave, by the hand that
-- all before had made.
pub record Hears (w : Bool) (told told_then : Option (List Told)) (p p_then : Player) (old new : Station)
    (v v_then : View) : Type 0 where
  pub readings : List Reading
  pub read : Grew told (map (λ r. reads r) readings) told_then
  pub happened : List Happening
  pub heard : HeardAs w readings happened
  pub happens : AllHappen happened (stand p old v) (stand p_then new v_then)

-- ---- rounds

-- A device may be opened; then the round begins, both at this moment; and then the device is heard.
pub record Listens (w : Bool) (now : ℕ) (told told_then : Option (List Told)) (p p_then : Player) (old new : Station)
    (v v_then : View) : Type 0 where
  pub told_mid : Option (List Told)
  pub opened : Player
  pub opens : Opens now told told_mid p opened
  pub hears : Hears w told_mid told_then (begun_at now opened) p_then old new v v_then

-- so it is at this moment; if it ended in a failure, it may not have begun
abbrev pub ListensAt : Bool → ℕ → (told told_then : Option (List Told)) → (p p_then : Player) → (old new : Station)
    → (v v_then : View) → Type 0
ListensAt true now told told_then p p_then old new v v_then = Listens true now told told_then p p_then old new v v_then
ListensAt false now told told_then p p_then old new v v_then =
    Listens false now told told_then p p_then old new v v_then
    ⊎ (Opens now told told_then p p_then × Stays old new v v_then)

-- the same at some moment
abbrev pub HasListened : Bool → (told told_then : Option (List Told)) → (p p_then : Player) → (old new : Station)
    → (v v_then : View) → Type 0
HasListened w told told_then p p_then old new v v_then =
    (now : ℕ) × ListensAt w now told told_then p p_then old new v v_then

-- A whole round: it listens, and then the desk looks at the controller and the store. While that looks nothing is read.
pub record IsRound (told told_then : Option (List Told)) (p p_then : Player) (old new : Station)
    (v v_then : View) : Type 0 where
  pub mid : Stand
  pub listens : HasListened true told told_then p mid.player old mid.station v mid.view
  pub looks : OnlyLooks mid.station new
  pub undoes : Undoes mid.player p_then v_then

-- a round, perhaps one that ended in a failure
abbrev pub Rounds : Bool → (told told_then : Option (List Told)) → (p p_then : Player) → (old new : Station)
    → (v v_then : View) → Type 0
Rounds true told told_then p p_then old new v v_then = IsRound told told_then p p_then old new v v_then
Rounds false told told_then p p_then old new v v_then =
    HasListened false told told_then p p_then old new v v_then ⊎ IsRound told told_then p p_then old new v v_then

-- how it is between two rounds: how the panel stands, and all that the jack told so far
pub record Rest : Type 0 where
  pub told : Option (List Told)
  pub stand : Stand

abbrev pub rest : Option (List Told) → Player → Station → View → Rest
rest told p s v = record { told = told; stand = stand p s v }

-- a round leads from one rest to the next
abbrev pub RoundFrom : (a b : Rest) → Type 0
RoundFrom a b =
    IsRound a.told b.told a.stand.player b.stand.player a.stand.station b.stand.station a.stand.view b.stand.view

-- round by round
abbrev pub AllRounds : List Rest → (a b : Rest) → Type 0
AllRounds [] a b = b ≡ a
AllRounds (s ∷ more) a b = RoundFrom a s × AllRounds more s b

-- how it ends: with the last round, or in one that fails
abbrev pub Ends : Bool → (a b : Rest) → Type 0
Ends true a b = b ≡ a
Ends false a b =
    (b ≡ a) ⊎ Rounds false a.told b.told a.stand.player b.stand.player a.stand.station b.stand.station a.stand.view
    b.stand.view

-- The panel goes on round by round, and nothing happens between two of them: nothing is read, and nothing is heard.
pub record Goes (w : Bool) (told told_then : Option (List Told)) (p p_then : Player) (old new : Station)
    (v v_then : View) : Type 0 where
  pub after_each : List Rest
  pub last : Rest
  pub rounds : AllRounds after_each (rest told p old v) last
  pub ends : Ends w last (rest told_then p_then new v_then)
