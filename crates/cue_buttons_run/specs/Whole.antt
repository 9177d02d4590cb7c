-- Over a whole run: the bytes that a panel heard, and those that the jack of its device told.
use Rattle.std.specs.Prelude.{◌≡◌, ℕ, true, List, [], ◌∷◌, ◌++◌, Option}
use Rattle.cue_machine.specs.Growing.{Grew}
use Rattle.cue_station.specs.declared.station.Station.{Station}
use Rattle.cue_view.specs.declared.view.View.{View}
use Rattle.cue_buttons_run.specs.Playing.{AllRounds, Goes, Happening, Rest, empties, gives, rest}
use Rattle.cue_buttons_run.specs.Telling.{Told, bytes_of, opened, reads}
use Rattle.cue_panel.specs.declared.player.Player.{Player}

-- the bytes that were told, in order
abbrev pub bytes_told : List Told → List ℕ
bytes_told [] = []
bytes_told (opened ∷ more) = bytes_told more
bytes_told (reads r ∷ more) = bytes_of r ++ bytes_told more

-- the bytes that were heard, in order
abbrev pub bytes_heard : List Happening → List ℕ
bytes_heard [] = []
bytes_heard (gives w byte ∷ more) = byte ∷ bytes_heard more
bytes_heard (empties ∷ more) = bytes_heard more

-- what happened at the panel in these rounds
abbrev pub happened_in : (after_each : List Rest) → (a b : Rest) → AllRounds after_each a b → List Happening
happened_in [] a b all = []
happened_in (s ∷ more) a b all = all.0.listens.1.hears.happened ++ happened_in more s b all.1

-- The panel went on round by round. Over all rounds the jack told this, and the bytes that the panel heard are the
-- bytes of that: each once, in order, and no other.
pub record HearsAll (told told_then : Option (List Told)) (p p_then : Player) (old new : Station)
    (v v_then : View) : Type 0 where
  pub goes : Goes true told told_then p p_then old new v v_then
  pub more : List Told
  pub grew : Grew told more told_then
  pub heard : bytes_heard (happened_in goes.after_each (rest told p old v) goes.last goes.rounds) ≡ bytes_told more
