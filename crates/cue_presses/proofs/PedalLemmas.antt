-- What a press tells of what was heard before.
use Rattle.std.proofs.Common.{◌≡◌, ℕ, ◌∷◌, List, [], Bool, true, false, ◌||◌, ◌&&◌, not, if◌then◌else◌, IsTrue}
use Rattle.std.proofs.Common.{Option, None, Some, refl, sym, ap, arith, nat_eq, nat_le}
use Rattle.std.proofs.lemmas.Bool.Decides.{nat_tests}
use Rattle.std.specs.List.{list_any}
use Rattle.cue_show.proofs.TestLemmas.{both}
use Rattle.cue_midi.specs.declared.heard.Heard.{Heard}
use Rattle.cue_midi.specs.declared.heard.Heard.TheVariants as heard
use Rattle.cue_presses.specs.Keys.{intent_of, is_pressed, is_up}
use Rattle.cue_presses.specs.Laws.{PressedAfterLetGo, is_let_go, pedal_of}
use Rattle.cue_presses.specs.declared.intent.Intent.{Intent}
use Rattle.cue_presses.specs.declared.intent.Intent.TheVariants as intent
use Rattle.cue_presses.specs.declared.keys.Key.{Key}
use Rattle.cue_presses.specs.declared.keys.Key.TheVariants as key
use Rattle.cue_presses.specs.declared.keys.Pedal.TheVariants as pedal
use Rattle.cue_presses.specs.declared.keys.TheConstants.{PRESSED}

-- a pedal that is up was heard to be let go
up-let_go : (n : ℕ) (past : List Heard) → IsTrue (is_up (pedal_of (key.Controller n) past))
    → IsTrue (list_any (is_let_go n) past)
up-let_go n [] h = cc
up-let_go n ((heard.NoteOn channel note velocity) ∷ past) h = up-let_go n past h
up-let_go n ((heard.Show show) ∷ past) h = up-let_go n past h
up-let_go n ((heard.Ignored kind) ∷ past) h = up-let_go n past h
up-let_go n ((heard.Controller channel m value) ∷ past) h =
    by (up-let_go n past) (nat_eq m n) (nat_le PRESSED value) h
  where
    by : (IsTrue (is_up (pedal_of (key.Controller n) past)) → IsTrue (list_any (is_let_go n) past))
        → (same down : Bool)
        → IsTrue (is_up (if same then if down then pedal.Down else pedal.Up else pedal_of (key.Controller n) past))
        → IsTrue ((same && not down) || list_any (is_let_go n) past)
    by others true true z = cc
    by others true false z = refl
    by others false down z = others z

-- a key that a controller presses was heard to be let go
pressed-let_go : (k : Key) (past : List Heard) (channel n value : ℕ)
    → IsTrue (is_pressed k (pedal_of k past) (heard.Controller channel n value))
    → IsTrue (list_any (is_let_go n) past)
pressed-let_go (key.Note m) past channel n value h = cc
pressed-let_go (key.Controller m) past channel n value h =
    let parts = both (nat_eq n m && nat_le PRESSED value) (is_up (pedal_of (key.Controller m) past)) h in
    let same = both (nat_eq n m) (nat_le PRESSED value) parts.0 in
    let test : nat_eq n m ≡ true = same.0 in
    let e : n ≡ m = grind (arith, nat_tests, test) in
    rw e (up-let_go m past parts.1)

pub pressed-after_let_go : PressedAfterLetGo
pressed-after_let_go k past channel n value i e =
    by (is_pressed k.standby (pedal_of k.standby past) (heard.Controller channel n value))
    (is_pressed k.go (pedal_of k.go past) (heard.Controller channel n value))
    (is_pressed k.cancel (pedal_of k.cancel past) (heard.Controller channel n value))
    (pressed-let_go k.standby past channel n value)
    (pressed-let_go k.go past channel n value)
    (pressed-let_go k.cancel past channel n value)
    e
  where
    by : (a b c : Bool) → (IsTrue a → IsTrue (list_any (is_let_go n) past))
        → (IsTrue b → IsTrue (list_any (is_let_go n) past)) → (IsTrue c → IsTrue (list_any (is_let_go n) past))
        → (if a then Some (intent.Standby None)
        else if b then Some (intent.Go None) else if c then Some intent.Cancel else None)
        ≡ Some i
        → IsTrue (list_any (is_let_go n) past)
    by true b c x y z e = x refl
    by false true c x y z e = y refl
    by false false true x y z e = z refl
    by false false false x y z e = cc
