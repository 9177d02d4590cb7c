-- What a panel hears, and what it looks at.
use Rattle.std.proofs.Common.{◌≡◌, ◌∙◌, refl, ap, inl, inr, ℕ, Bool, true, false, if◌then◌else◌, Option, Some, None}
use Rattle.std.proofs.Common.{Result, Ok, Err}
use Rattle.std.specs.Prelude.{OnOk, nat_eq}
use Rattle.cue_midi.specs.declared.heard.Heard.{Heard}
use Rattle.cue_midi.specs.Stream.{HearsAt, KeepsAt}
use Rattle.cue_panel.specs.Lines.{Says}
use Rattle.cue_panel.specs.Looking.{SaysEach}
use Rattle.cue_panel.specs.Pending.{became_if, became_in, is_undone, is_undone_by, or_else, undone_by}
use Rattle.cue_panel.specs.Playing.{Gives, HearsByte, TellsUndone, Undoes, by_hand, undone_player}
use Rattle.cue_panel.specs.Taking.{hand_of, strike_of, taken_of}
use Rattle.cue_panel.specs.Telling.{Tells, TellsPress, line_of, line_of_press}
use Rattle.cue_panel.specs.declared.lines.Lines.{Lines}
use Rattle.cue_panel.specs.declared.lines.Looked.{Looked}
use Rattle.cue_panel.specs.declared.outcome.Outcome.{Outcome}
use Rattle.cue_panel.specs.declared.pending.Pending.{Pending}
use Rattle.cue_panel.specs.declared.player.Player.{Player}
use Rattle.cue_panel.specs.declared.taking.Strike.{Strike}
use Rattle.cue_panel.specs.declared.taking.Taken.{Taken}
use Rattle.cue_view.specs.declared.view.Became.{Became}
use Rattle.cue_view.specs.declared.view.Said.{Said}
use Rattle.cue_view.specs.declared.view.View.{View}

-- ---- a byte

gives-at : {E : Type 0} (r : Result (Option Strike) E) (a b : Option Strike) → a ≡ b → Gives r a → Gives r b
gives-at (Ok given) a b e g = g ∙ e
gives-at (Err why) a b e g = tt

-- it finishes a message, and that is taken
pub hears_message : {E : Type 0} (byte : ℕ) (v : View) (m : Heard) (p mid p_then : Player)
    (r : Result (Option Strike) E) → HearsAt p.parser byte (Some m) → KeepsAt p.parser byte mid.parser
    → mid.setting ≡ p.setting → mid.hand ≡ p.hand → p_then ≡ by_hand (hand_of mid.setting mid.hand m) mid
    → Gives r (strike_of (taken_of mid.setting mid.hand v m)) → HearsByte byte v p p_then r
hears_message byte v m p mid p_then r hears keeps set hand takes gives =
    record {
      message = Some m;
      hears = hears;
      keeps = λ past is. rw (ap (λ (x : Player). x.parser) takes) (keeps past is);
      setting = ap (λ (x : Player). x.setting) takes ∙ set;
      hand = ap (λ (x : Player). x.hand) takes ∙ ap (λ s. hand_of s mid.hand m) set ∙ ap (λ h. hand_of p.setting h m) hand;
      gives = gives-at r (strike_of (taken_of mid.setting mid.hand v m)) (strike_of (taken_of p.setting p.hand v m))
          (ap (λ s. strike_of (taken_of s mid.hand v m)) set ∙ ap (λ h. strike_of (taken_of p.setting h v m)) hand)
          gives;
    }

-- it finishes none
pub hears_part : {E : Type 0} (byte : ℕ) (v : View) (p p_then : Player) → HearsAt p.parser byte None
    → KeepsAt p.parser byte p_then.parser → p_then.setting ≡ p.setting → p_then.hand ≡ p.hand
    → HearsByte {E = E} byte v p p_then (Ok None)
hears_part {E} byte v p p_then hears keeps set hand =
    record { message = None; hears = hears; keeps = keeps; setting = set; hand = hand; gives = refl }

-- ---- what was not carried out

-- what a view says of an ask, it says of the last press, or of the one before it
became-if : (said : Option Said) (ask : ℕ) (b : Became) → became_if ask said ≡ Some b
    → (s : Said) × (said ≡ Some s) × (s.became ≡ b)
became-if None ask b e = absurd cc
became-if (Some s) ask b e = by (nat_eq s.ask ask) refl e
  where
    by : (t : Bool) → nat_eq s.ask ask ≡ t → (if t then Some s.became else None) ≡ Some b
        → (x : Said) × (Some s ≡ Some x) × (x.became ≡ b)
    by true h z = (s, refl, cc)
    by false h z = absurd cc

undone-by : (v : View) (ask : ℕ) (first : Option Became) (b : Became) → became_if ask v.said ≡ first
    → or_else first (became_if ask v.before) ≡ Some b → is_undone b ≡ true → TellsUndone v
undone-by v ask (Some a) b is e u =
    let s = became-if v.said ask a is in
    record { said = s.0; told = inl s.1; undone = ap is_undone (s.2 ∙ cc) ∙ u }
undone-by v ask None b is e u =
    let s = became-if v.before ask b e in
    record { said = s.0; told = inr s.1; undone = ap is_undone s.2 ∙ u }

tells-undone : (v : View) (ask : ℕ) (r : Option Became) → became_in v ask ≡ r → is_undone_by r ≡ true → TellsUndone v
tells-undone v ask None e u = absurd cc
tells-undone v ask (Some b) e u = undone-by v ask (became_if ask v.said) b refl e u

undoes-by : (v : View) (p : Player) (press : Pending) (t : Bool) → is_undone_by (became_in v press.ask) ≡ t
    → Undoes p (undone_player (if t then Some press.passed else None) p) v
undoes-by v p press true e = inr (tells-undone v press.ask (became_in v press.ask) refl e, press.passed, refl)
undoes-by v p press false e = inl refl

undoes-newest : (v : View) (p : Player) (newest : Option Pending) → Undoes p (undone_player (undone_by v newest) p) v
undoes-newest v p None = inl refl
undoes-newest v p (Some press) = undoes-by v p press (is_undone_by (became_in v press.ask)) refl

pub undoes : (v : View) (p p_then : Player) (newest : Option Pending)
    → p_then ≡ undone_player (undone_by v newest) p → Undoes p p_then v
undoes v p p_then newest e = rw e (undoes-newest v p newest)

pub undoes_none : (p p_then : Player) (v : View) → p_then ≡ p → Undoes p p_then v
undoes_none p p_then v e = inl e

-- ---- what is said

pub tells_so : (v : View) (t : Taken) (old counted new : Lines) (is_first : Bool) → counted.text ≡ old.text
    → counted.together.now ≡ old.together.now → counted.port ≡ old.port → Says v (line_of t is_first) counted new
    → Tells v t old new
tells_so v t old counted new is_first text together port says =
    record {
      is_first = is_first;
      counted = counted;
      text = text;
      together = together;
      port = port;
      says = says;
    }

pub tells_press : (v : View) (x : Strike) (o : Outcome) (old new : Lines) (is_tapped : Bool)
    → Says v (line_of_press x o is_tapped) old new → TellsPress v x o old new
tells_press v x o old new is_tapped says = record { is_tapped = is_tapped; says = says }

-- what is said one after the other
pub says_each : (v : View) (l : Looked) (old a b c new : Lines) → Says v l.before old a → Says v l.newest a b
    → Says v l.waited b c → Says v l.flooded c new → SaysEach v l old new
says_each v l old a b c new before newest waited flooded =
    record {
      after_before = a;
      after_newest = b;
      after_waited = c;
      before = before;
      newest = newest;
      waited = waited;
      flooded = flooded;
    }

pub says_each_if : {A E : Type 0} (r : Result A E) (v : View) (l : Looked) (old a b c new : Lines)
    → Says v l.before old a → Says v l.newest a b → Says v l.waited b c → OnOk r (Says v l.flooded c new)
    → OnOk r (SaysEach v l old new)
says_each_if (Ok x) v l old a b c new before newest waited flooded =
    says_each v l old a b c new before newest waited flooded
says_each_if (Err e) v l old a b c new before newest waited flooded = tt
