-- What is pressed is of the key that was struck.
use Rattle.std.proofs.Common.{◌≡◌, ◌∙◌, ℕ, ◌∷◌, List, [], Bool, true, false, not, ◌&&◌, ◌||◌, if◌then◌else◌, Option}
use Rattle.std.proofs.Common.{None, Some, Result, Ok, Err, refl, sym, ap}
use Rattle.cue_show.specs.Number.{same_text}
use Rattle.cue_view.specs.declared.button.Button.{Button}
use Rattle.cue_view.specs.declared.button.Button.TheVariants as button
use Rattle.cue_view.specs.declared.view.LiveAttempt.{LiveAttempt}
use Rattle.cue_view.specs.declared.view.Next.{Next}
use Rattle.cue_view.specs.declared.view.Next.TheVariants as next
use Rattle.cue_view.specs.declared.view.View.{View}
use Rattle.cue_presses.specs.declared.hand.Hand.{Hand}
use Rattle.cue_presses.specs.declared.hand.Struck.TheVariants as struck
use Rattle.cue_presses.specs.declared.intent.Intent.{Intent}
use Rattle.cue_presses.specs.declared.intent.Intent.TheVariants as intent
use Rattle.cue_presses.specs.declared.pressing.Press.{Press}
use Rattle.cue_presses.specs.declared.pressing.Sole.{Sole}
use Rattle.cue_presses.specs.declared.pressing.Sole.TheVariants as sole
use Rattle.cue_presses.specs.declared.pressing.Wanted.TheVariants as wanted
use Rattle.cue_presses.specs.declared.pressing.Why.{Why}
use Rattle.cue_presses.specs.declared.pressing.Why.TheVariants as why
use Rattle.cue_presses.specs.Hand.{Meant, PressedIsMeant, has_room, is_button_of, meant_by}
use Rattle.cue_presses.specs.Meaning.{cancel_alone, cancel_by, cancel_of, chosen_live, chosen_of, go_alone, go_of, go_sole, is_live, is_meant}
use Rattle.cue_presses.specs.Meaning.{is_passed, joined, meaning, sole_of, standby_by, was_passed}
use Rattle.cue_presses.specs.Settling.{is_over}
use Rattle.cue_presses.specs.Taps.{is_second_tap}

-- what is pressed passes a test; so does nothing
abbrev passes : (Button → Bool) → Result Press Why → Bool
passes t (Ok p) = t p.button
passes t (Err w) = true

-- the cue of the only attempt passes a test
abbrev cue_passes : (List ℕ → Bool) → Sole → Bool
cue_passes t sole.Nobody = true
cue_passes t (sole.One q c) = t c
cue_passes t sole.Many = true

right_of : (a b : Bool) → (a && b) ≡ true → b ≡ true
right_of true b h = h
right_of false b h = cc

-- ---- the only attempt that is ready at a cue is at that cue

sole_at : (cue : List ℕ) (live : List LiveAttempt) → cue_passes (λ c. same_text c cue) (sole_of (wanted.ReadyAt cue) live) ≡ true
sole_at cue [] = refl
sole_at cue (a ∷ others) =
    by (sole_at cue others) (a.ready && same_text a.cue cue) (sole_of (wanted.ReadyAt cue) others) refl refl
  where
    by : cue_passes (λ c. same_text c cue) (sole_of (wanted.ReadyAt cue) others) ≡ true → (f : Bool) (s : Sole)
        → (a.ready && same_text a.cue cue) ≡ f → sole_of (wanted.ReadyAt cue) others ≡ s
        → cue_passes (λ c. same_text c cue) (if f then joined a s else s) ≡ true
    by k true sole.Nobody h z = right_of a.ready (same_text a.cue cue) h
    by k true (sole.One q c) h z = refl
    by k true sole.Many h z = refl
    by k false s h z = ap (cue_passes (λ c. same_text c cue)) (sym z) ∙ k

-- ---- GO, CANCEL and STANDBY

go_passes : (t : Button → Bool) (chosen : Option ℕ) (s : Sole) (w : Why)
    → ((q : ℕ) (c : List ℕ) → s ≡ sole.One q c → t (button.Go c q) ≡ true) → passes t (go_of chosen s w) ≡ true
go_passes t chosen sole.Nobody w f = refl
go_passes t chosen (sole.One q c) w f = f q c refl
go_passes t chosen sole.Many w f = refl

cancel_passes : (chosen : Option ℕ) (s : Sole) (w : Why) → passes (is_button_of intent.Cancel) (cancel_of chosen s w) ≡ true
cancel_passes chosen sole.Nobody w = refl
cancel_passes chosen (sole.One q c) w = refl
cancel_passes chosen sole.Many w = refl

sole_passes : (passed : Option ℕ) (s : Sole) (live : List LiveAttempt)
    → passes (is_button_of (intent.Go None)) (go_sole passed s live) ≡ true
sole_passes passed sole.Nobody live = refl
sole_passes passed (sole.One q c) live = by (is_passed passed q || was_passed q live)
  where
    by : (b : Bool) → passes (is_button_of (intent.Go None))
        (if b then Err why.Passed else go_of None (chosen_of wanted.Ready q live) why.Nobody) ≡ true
    by true = refl
    by false = go_passes (is_button_of (intent.Go None)) None (chosen_of wanted.Ready q live) why.Nobody (λ r d e. refl)
sole_passes passed sole.Many live = refl

alone_passes : (chosen : Option ℕ) (waits : Bool) (passed : Option ℕ) (live : List LiveAttempt)
    → passes (is_button_of (intent.Go None)) (go_alone chosen waits passed live) ≡ true
alone_passes chosen true passed live = refl
alone_passes None false passed live = sole_passes passed (sole_of wanted.Preparing live) live
alone_passes (Some q) false passed live =
    go_passes (is_button_of (intent.Go None)) (Some q) (chosen_of wanted.Ready q live) why.NotThis (λ r d e. refl)

cancels_by : (chosen : Option ℕ) (live : List LiveAttempt)
    → passes (is_button_of intent.Cancel) (cancel_by chosen live) ≡ true
cancels_by None live = cancel_passes None (sole_of wanted.Preparing live) why.Nobody
cancels_by (Some q) live = cancel_passes (Some q) (chosen_of wanted.Preparing q live) why.NotThis

cancels_pass : (chosen : Option ℕ) (waits : Bool) (live : List LiveAttempt)
    → passes (is_button_of intent.Cancel) (cancel_alone chosen waits live) ≡ true
cancels_pass chosen true live = refl
cancels_pass chosen false live = cancels_by (chosen_live chosen live) live

standbys_pass : (n : Next) (live : List LiveAttempt) (named : Option (List ℕ))
    → passes (is_button_of (intent.Standby named)) (standby_by n live named) ≡ true
standbys_pass (next.Cue cue) live named = by (is_meant named cue) (is_live cue live) refl
  where
    by : (m l : Bool) → is_meant named cue ≡ m → passes (is_button_of (intent.Standby named))
        (if m then (if l then Err why.IsLive else Ok (record { choose = None; button = button.Standby cue }))
        else Err why.OtherNext) ≡ true
    by false l h = refl
    by true true h = refl
    by true false h = h
standbys_pass next.Empty live named = refl
standbys_pass next.End live named = refl
standbys_pass next.Unknown live named = refl

-- ---- all of them

meant_passes : (v : View) (passed : Option ℕ) (i : Intent) → passes (is_button_of i) (meaning v passed i) ≡ true
meant_passes v passed (intent.Standby named) = standbys_pass v.next v.live.items named
meant_passes v passed (intent.Go None) = alone_passes v.chosen v.awaits passed v.live.items
meant_passes v passed (intent.Go (Some cue)) =
    go_passes (is_button_of (intent.Go (Some cue))) v.chosen (sole_of (wanted.ReadyAt cue) v.live.items) why.NotThis
    (λ q c e. ap (cue_passes (λ d. same_text d cue)) (sym e) ∙ sole_at cue v.live.items)
meant_passes v passed intent.Cancel = cancels_pass v.chosen v.awaits v.live.items

pub pressed-is_meant : PressedIsMeant
pressed-is_meant h v i p e =
    by (is_over h.settling) (has_room h) (is_second_tap i h.last_go h.at) (meaning v h.passed i) refl refl refl refl e
  where
    by : (o r t : Bool) (m : Result Press Why) → is_over h.settling ≡ o → has_room h ≡ r
        → is_second_tap i h.last_go h.at ≡ t → meaning v h.passed i ≡ m
        → (if not o then struck.Waited else if not r then struck.Flooded else if t then struck.Tap else meant_by m)
        ≡ struck.Presses p
        → Meant h v i p
    by false r t m a b c d z = cc
    by true false t m a b c d z = cc
    by true true true m a b c d z = cc
    by true true false (Err w) a b c d z = cc
    by true true false (Ok q) a b c d z =
        let meant : meaning v h.passed i ≡ Ok p = cc in
        record {
          settled = a;
          room = b;
          once = c;
          meant = meant;
          key = ap (passes (is_button_of i)) (sym meant) ∙ meant_passes v h.passed i;
        }
