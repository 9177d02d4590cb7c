-- The presses whose end is not told yet, and what is told of them.
use Rattle.std.specs.Prelude.{ℕ, ◌-◌, Bool, true, false, not, ◌&&◌, if◌then◌else◌, Option, None, Some, nat_eq, nat_lt}
use Rattle.cue_panel.specs.declared.line.Line.TheVariants as line
use Rattle.cue_panel.specs.declared.outcome.Outcome.{Outcome}
use Rattle.cue_panel.specs.declared.outcome.Outcome.TheVariants as outcome
use Rattle.cue_panel.specs.declared.pending.Pending.{Pending}
use Rattle.cue_panel.specs.declared.pending.Pendings.{Pendings}
use Rattle.cue_panel.specs.declared.pending.TheConstants.{OPEN_MS}
use Rattle.cue_panel.specs.declared.pending.Told.{Told}
use Rattle.cue_panel.specs.declared.taking.Strike.{Strike}
use Rattle.cue_presses.specs.declared.hand.Hand.{Hand}
use Rattle.cue_view.specs.declared.view.Became.{Became}
use Rattle.cue_view.specs.declared.view.Became.TheVariants as became
use Rattle.cue_view.specs.declared.view.Said.{Said}
use Rattle.cue_view.specs.declared.view.View.{View}

-- a press was not carried out, and never will be
abbrev pub is_undone : Became → Bool
is_undone (became.Refused code) = true
is_undone became.Nobody = true
is_undone became.Lost = true
is_undone _ = false

-- nobody knows yet what became of it
abbrev pub is_open : Became → Bool
is_open became.Open = true
is_open became.Unshown = true
is_open _ = false

-- ---- what a view says of a press

abbrev pub became_if : ℕ → Option Said → Option Became
became_if ask (Some said) = if nat_eq said.ask ask then Some said.became else None
became_if ask None = None

-- this, or that if there is none
abbrev pub or_else : Option Became → Option Became → Option Became
or_else (Some b) other = Some b
or_else None other = other

-- what it says of the press with this ask
abbrev pub became_in : View → ℕ → Option Became
became_in v ask = or_else (became_if ask v.said) (became_if ask v.before)

-- ---- what is told of it

-- it was open for more than half a second, and that was not said
abbrev pub is_long : Pending → ℕ → Bool
is_long p at = not p.is_told && nat_lt OPEN_MS (at - p.since)

-- that it is open is said once, if that lasts
abbrev pub told_open : Pending → Became → ℕ → Told
told_open p b at =
    if is_long p at
    then record { left = Some (record p { is_told = true }); line = Some (line.Became p.what b) }
    else record { left = Some p; line = None }

-- its end is said, and nothing is left to say
abbrev pub told_became : Pending → Option Became → ℕ → Told
told_became p (Some b) at =
    if is_open b then told_open p b at else record { left = None; line = Some (line.Became p.what b) }
told_became p None at = record { left = Some p; line = None }

abbrev pub told : Option Pending → View → ℕ → Told
told (Some p) v at = told_became p (became_in v p.ask) at
told None v at = record { left = None; line = None }

-- ---- which they are

abbrev pub none : Pendings
none = record { newest = None; before = None }

-- a press that was sent is the newest
abbrev pub pendings_after : Strike → Outcome → Hand → Pendings → Pendings
pendings_after s (outcome.Sent ask) h ps =
    record {
      newest = Some (record {
        ask = ask;
        since = h.at;
        what = record { source = s.source; button = s.press.button };
        is_told = false;
        passed = h.passed;
      });
      before = ps.newest;
    }
pendings_after s (outcome.Unsent u) h ps = ps
pendings_after s outcome.Unheard h ps = ps

abbrev pub is_undone_by : Option Became → Bool
is_undone_by (Some b) = is_undone b
is_undone_by None = false

-- if the newest press was not carried out, what was passed before it counts again
abbrev pub undone_by : View → Option Pending → Option (Option ℕ)
undone_by v (Some p) = if is_undone_by (became_in v p.ask) then Some p.passed else None
undone_by v None = None
