-- Whether a store that was read is the one that the controller serves, and whether it may be replaced.
use Rattle.std.specs.Prelude.{◌≡◌, Bool, true, false, ◌&&◌, not, Option, is_some, IfSome}
use Rattle.cue_core.specs.State.{ShowState}
use Rattle.cue_desk.specs.declared.replying.Status.{Status}
use Rattle.cue_load_machine.specs.Agreeing.{agrees, live_cues}
use Rattle.cue_load_machine.specs.Plans.{rests}
use Rattle.cue_load_words.specs.declared.looking.Look.{Look}
use Rattle.cue_load_words.specs.declared.looking.Look.TheVariants as look
use Rattle.cue_load_words.specs.declared.looking.Stored.{Stored}
use Rattle.cue_loading.specs.Loaded.{is_same}
use Rattle.cue_show.specs.Show.{ShowLists}

-- something is live that may not be
abbrev pub is_busy : Bool → Status → Bool
is_busy to_rest status = to_rest && not (rests status.live)

-- the show is that of the state, of which the controller said that so many attempts are live
pub record IsStored (status : Status) (s : ShowState) (stored : Stored) : Type 0 where
  pub agrees : agrees status s ≡ true
  pub show : stored.show ≡ s.show
  pub live : stored.live ≡ status.live

-- the state is the one of which the controller said this, or another one
abbrev pub IsReading : Status → ShowState → Look → Type 0
IsReading status s (look.Same stored) = IsStored status s stored
IsReading status s look.Other = agrees status s ≡ false
IsReading status s (look.Live cues) = ⊥

-- nothing may be replaced while these are live
abbrev pub IsRefusal : Status → ShowState → Look → Type 0
IsRefusal status s (look.Same stored) = ⊥
IsRefusal status s look.Other = ⊥
IsRefusal status s (look.Live cues) = cues.items ≡ live_cues status s

abbrev pub IsLookBy : Bool → Status → ShowState → Look → Type 0
IsLookBy true status s found = IsRefusal status s found
IsLookBy false status s found = IsReading status s found

-- by the status and the state: the same, another one, or one that may not be replaced now
abbrev pub IsLook : Bool → Status → ShowState → Look → Type 0
IsLook to_rest status s found = IsLookBy (is_busy to_rest status) status s found

-- ---- after a load

-- a store was read that is what the file says
abbrev pub IsLoaded : ShowLists → Stored → Type 0
IsLoaded file stored = is_same file stored.show ≡ true

-- one was read exactly if its folder is known, and it is what the file says
pub record IsCompared {A : Type 0} (dir : Option A) (file : ShowLists) (seen : Option Stored) : Type 0 where
  pub read : is_some seen ≡ is_some dir
  pub same : IfSome seen (IsLoaded file)
