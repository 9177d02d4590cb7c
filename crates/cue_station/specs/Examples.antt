-- Turns that do not keep the law.
use Rattle.std.specs.Prelude.{◌≡◌, ℕ, List, [], Some, IsTrue}
use Rattle.cue_desk.specs.declared.orders.DeskCommand.TheVariants as order
use Rattle.cue_operator.specs.declared.method.CueVerb.TheVariants as verb
use Rattle.cue_view.specs.declared.button.Button.TheVariants as button
use Rattle.cue_station.specs.declared.heard.Heard.TheVariants as heard
use Rattle.cue_station.specs.Turns.{Turn}
use Rattle.cue_station.specs.Laws.{Keeps}
use Rattle.cue_station.specs.Offering.{is_lit}

-- GO is lit before anything was heard of the controller
abbrev pub LitUnheardIsRefused : Type 0
LitUnheardIsRefused =
    (t : Turn) (c : List ℕ) (q : ℕ) → t.input.heard ≡ heard.Tick → IsTrue (is_lit (button.Go c q) t.view.lit.items)
    → Keeps t [] → ⊥

-- a message goes out that nobody pressed for
abbrev pub UnpressedIsRefused : Type 0
UnpressedIsRefused =
    (t : Turn) (past : List Turn) (c : List ℕ) (n : ℕ) → t.input.heard ≡ heard.Tick
    → t.sent ≡ Some (record { ask = n; order = order.OfCue verb.Go c }) → Keeps t past → ⊥

-- the press of another cue's GO is sent
abbrev pub OtherCueIsRefused : Type 0
OtherCueIsRefused =
    (t : Turn) (past : List Turn) (v : ℕ) (c d : List ℕ) (q n : ℕ) → t.input.heard ≡ heard.Pressed v (button.Go c q)
    → t.sent ≡ Some (record { ask = n; order = order.OfCue verb.Go d }) → Keeps t past → d ≡ c
