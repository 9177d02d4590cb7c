-- What a desk does of a wish.
use Rattle.std.proofs.Common.{◌≡◌, ◌∙◌, refl, sym, ap, subst, ℕ, List, [], ◌∷◌, ◌++◌, Option, Some, None}
use Rattle.std.proofs.Common.{Result, Ok, Err}
use Rattle.std.specs.Prelude.{OnErr, OnOk}
use Rattle.cue_desk_run.specs.Working.{OnlyLooks}
use Rattle.cue_desk_run.proofs.WorkLemmas.{looks_none}
use Rattle.cue_panel.proofs.WishLemmas.{became-is_sent}
use Rattle.cue_panel.specs.WishLaws.{Turn, after_press, after_turn, end_by, end_in, end_with, press_by}
use Rattle.cue_panel.specs.WishLaws.{pressed_in, sent}
use Rattle.cue_panel.specs.WishLaws.{wish_at}
use Rattle.cue_panel.specs.WishWords.{ending_of}
use Rattle.cue_panel.specs.Wishing.{act_after, act_of, after_act, after_came}
use Rattle.cue_panel.specs.declared.outcome.Outcome.{Outcome}
use Rattle.cue_panel.specs.declared.outcome.Outcome.TheVariants as outcome
use Rattle.cue_panel.specs.declared.wish.Act.{Act}
use Rattle.cue_panel.specs.declared.wish.Act.TheVariants as act
use Rattle.cue_panel.specs.declared.wish.End.{End}
use Rattle.cue_panel.specs.declared.wish.End.TheVariants as end
use Rattle.cue_panel.specs.declared.wish.Hindrance.TheVariants as hindrance
use Rattle.cue_panel.specs.declared.wish.Wish.{Wish}
use Rattle.cue_presses.specs.declared.pressing.Press.{Press}
use Rattle.cue_station.specs.declared.station.Station.{Station}
use Rattle.cue_view.specs.declared.view.View.{View}
use Rattle.cue_buttons_run.specs.Pressing.{Presses}
use Rattle.cue_buttons_run.specs.Wishes.{AllTurns, DoesIf, HasActed, HasPressed, HasTurned, HasWished}
use Rattle.cue_buttons_run.specs.Wishes.{IsTurn, WishedOnce, Wishes, turn_at}

-- ---- one turn

pub has_pressed : (now : ℕ) (p : Press) (ended : Option End) (w w_then : Wish) (old new : Station) (v v_then : View)
    (o : Outcome) → Presses p o old new v v_then → w_then ≡ after_came w now o → ended ≡ end_by (act_after w now o)
    → HasPressed now p ended w w_then old new v v_then
has_pressed now p ended w w_then old new v v_then o presses wish ends =
    record { outcome = o; presses = presses; wish = wish; ends = ends }

-- it gives a press
acted-by : (now : ℕ) (p : Press) (ended : Option End) (w w_then : Wish) (old new : Station) (v v_then : View) (a : Act)
    → act_of w now v ≡ a → a ≡ act.Press p → (h : HasPressed now p ended (after_act a w) w_then old new v v_then)
    → HasActed now ended w w_then old new v v_then
acted-by now p ended w w_then old new v v_then (act.Press q) e is h =
    let same : q ≡ p = cc in
    let acts : act_of w now v ≡ act.Press p = e ∙ is in
    record {
      outcome = h.outcome;
      does = subst (λ (a : Act). DoesIf (press_by a) h.outcome old new v v_then) (sym acts) h.presses;
      wish = h.wish ∙ ap (λ (a : Act). after_press (press_by a) (turn_at now v h.outcome) (after_act a w)) (sym acts);
      ends = h.ends ∙ ends-by acts;
    }
  where
    ends-by : act_of w now v ≡ act.Press p
        → end_by (act_after w now h.outcome) ≡ end_in w (turn_at now v h.outcome)
    ends-by acts = sym (ap (λ (a : Act). end_with (press_by a) w (turn_at now v h.outcome)) acts)
acted-by now p ended w w_then old new v v_then act.Wait e is h = cc
acted-by now p ended w w_then old new v v_then (act.End x) e is h = cc

pub acted_press : (now : ℕ) (p : Press) (ended : Option End) (w mid w_then : Wish) (old new : Station)
    (v v_then : View) (a : Act) → a ≡ act_of w now v → a ≡ act.Press p → mid ≡ after_act (act_of w now v) w
    → HasPressed now p ended mid w_then old new v v_then → HasActed now ended w w_then old new v v_then
acted_press now p ended w mid w_then old new v v_then a e is wish h =
    acted-by now p ended w w_then old new v v_then a (sym e) is
    (subst (λ (x : Wish). HasPressed now p ended x w_then old new v v_then)
    (wish ∙ ap (λ (x : Act). after_act x w) (sym e)) h)

-- it gives none
none-acted : (now : ℕ) (ended : Option End) (w w_then : Wish) (old new : Station) (v v_then : View) (a : Act)
    → act_of w now v ≡ a → press_by a ≡ None → w_then ≡ after_act a w → new ≡ old → v_then ≡ v → ended ≡ end_by a
    → HasActed now ended w w_then old new v v_then
none-acted now ended w w_then old new v v_then a e none wish b c ends =
    let o : Outcome = outcome.Unheard in
    let gives : pressed_in w (turn_at now v o) ≡ None = ap (λ (x : Act). press_by x) e ∙ none in
    record {
      outcome = o;
      does = subst (λ (x : Option Press). DoesIf x o old new v v_then) (sym gives) (b, c);
      wish = wish ∙ ap (λ (x : Act). after_act x w) (sym e)
          ∙ sym (ap (λ (x : Option Press). after_press x (turn_at now v o) (after_act (act_of w now v) w)) gives);
      ends = ends ∙ ap (λ (x : Act). end_by x) (sym e)
          ∙ sym (ap (λ (x : Option Press). end_with x w (turn_at now v o)) gives);
    }

pub acted_wait : (now : ℕ) (w w_then : Wish) (old new : Station) (v v_then : View) (a : Act)
    → a ≡ act_of w now v → a ≡ act.Wait → w_then ≡ after_act (act_of w now v) w → new ≡ old → v_then ≡ v
    → HasActed now None w w_then old new v v_then
acted_wait now w w_then old new v v_then a e is wish b c =
    none-acted now None w w_then old new v v_then act.Wait (sym e ∙ is) refl
    (wish ∙ ap (λ (x : Act). after_act x w) (sym e ∙ is)) b c refl

pub acted_end : (now : ℕ) (x : End) (w w_then : Wish) (old new : Station) (v v_then : View) (a : Act)
    → a ≡ act_of w now v → a ≡ act.End x → w_then ≡ after_act (act_of w now v) w → new ≡ old → v_then ≡ v
    → HasActed now (Some x) w w_then old new v v_then
acted_end now x w w_then old new v v_then a e is wish b c =
    none-acted now (Some x) w w_then old new v v_then (act.End x) (sym e ∙ is) refl
    (wish ∙ ap (λ (y : Act). after_act y w) (sym e ∙ is)) b c refl

-- it looks first
pub has_turned : (now : ℕ) (ended : Option End) (w mid_w w_then : Wish) (old mid new : Station) (v v_then : View)
    → mid_w ≡ w → OnlyLooks old mid → HasActed now ended mid_w w_then mid new v v_then
    → HasTurned ended w w_then old new
has_turned now ended w mid_w w_then old mid new v v_then same looks acted =
    let a : HasActed now ended w w_then mid new v v_then =
    subst (λ (x : Wish). HasActed now ended x w_then mid new v v_then) same acted in
    record {
      turn = turn_at now v a.outcome;
      is = record { mid = mid; looks = looks; shown_then = v_then; does = a.does };
      wish = a.wish;
      ends = a.ends;
    }

-- ---- turn by turn

-- so far it did what the wish says
pub record Turned (w w_then : Wish) (old new : Station) : Type 0 where
  pub turns : List Turn
  pub all : AllTurns w turns old new
  pub wish : w_then ≡ wish_at w turns

pub turned_none : (w : Wish) (s : Station) → Turned w w s s
turned_none w s = record { turns = []; all = refl; wish = refl }

all-then : (w : Wish) (ts : List Turn) (t : Turn) (old mid new : Station) → AllTurns w ts old mid
    → IsTurn (wish_at w ts) t mid new → AllTurns w (ts ++ t ∷ []) old new
all-then w [] t old mid new e turn = (new, subst (λ (s : Station). IsTurn w t s new) e turn, refl)
all-then w (u ∷ ts) t old mid new all turn =
    (all.0, all.1, all-then (after_turn w u) ts t all.0 mid new all.2 turn)

wish-then : (w : Wish) (ts : List Turn) (t : Turn) → wish_at w (ts ++ t ∷ []) ≡ after_turn (wish_at w ts) t
wish-then w [] t = refl
wish-then w (u ∷ ts) t = wish-then (after_turn w u) ts t

all-more : (ended : Option End) (w mid_w w_then : Wish) (old mid new : Station) (so : Turned w mid_w old mid)
    → (more : HasTurned ended mid_w w_then mid new) → AllTurns w (so.turns ++ more.turn ∷ []) old new
all-more ended w mid_w w_then old mid new so more =
    all-then w so.turns more.turn old mid new so.all
    (subst (λ (x : Wish). IsTurn x more.turn mid new) so.wish more.is)

-- one turn more
pub turned_more : (ended : Option End) (w mid_w w_then : Wish) (old mid new : Station) → Turned w mid_w old mid
    → HasTurned ended mid_w w_then mid new → Turned w w_then old new
turned_more ended w mid_w w_then old mid new so more =
    record {
      turns = so.turns ++ more.turn ∷ [];
      all = all-more ended w mid_w w_then old mid new so more;
      wish = more.wish ∙ ap (λ (x : Wish). after_turn x more.turn) so.wish ∙ sym (wish-then w so.turns more.turn);
    }

-- then it waits, and nothing is done
pub turned_rest : (w mid_w w_then : Wish) (old mid new : Station) → Turned w mid_w old mid → w_then ≡ mid_w
    → new ≡ mid → Turned w w_then old new
turned_rest w mid_w w_then old mid new so a b =
    subst (λ (x : Wish). Turned w x old new) (sym a) (subst (λ (s : Station). Turned w mid_w old s) (sym b) so)

-- the last one ended it
pub wished_end : (e : End) (w mid_w w_then : Wish) (old mid new : Station) → Turned w mid_w old mid
    → HasTurned (Some e) mid_w w_then mid new → Wishes w (Some e) old new
wished_end e w mid_w w_then old mid new so more =
    record {
      turns = so.turns ++ more.turn ∷ [];
      mid = new;
      all = all-more (Some e) w mid_w w_then old mid new so more;
      looks = looks_none new;
      ends = record {
        front = so.turns;
        last = more.turn;
        splits = refl;
        ends = ap (λ (x : Wish). end_in x more.turn) (sym so.wish) ∙ sym more.ends;
      };
    }

-- it was cut short while it looked
pub wished_cut : (w mid_w : Wish) (old mid new : Station) → Turned w mid_w old mid → OnlyLooks mid new
    → Wishes w None old new
wished_cut w mid_w old mid new so looks =
    record { turns = so.turns; mid = mid; all = so.all; looks = looks; ends = tt }

pub wished_stop : (w w_then : Wish) (old new : Station) → Turned w w_then old new → Wishes w None old new
wished_stop w w_then old new so = wished_cut w w_then old new new so (looks_none new)

-- whatever was refused, this holds
pub cut_if : {A E : Type 0} (r : Result A E) (w : Wish) (old new : Station) → Wishes w None old new
    → OnErr r (Wishes w None old new)
cut_if (Ok a) w old new h = tt
cut_if (Err e) w old new h = h

pub wished_end_by : (o : Option End) (e : End) (w mid_w w_then : Wish) (old mid new : Station) → o ≡ Some e
    → Turned w mid_w old mid → HasTurned o mid_w w_then mid new → Wishes w (Some e) old new
wished_end_by o e w mid_w w_then old mid new is so more =
    wished_end e w mid_w w_then old mid new so
    (subst (λ (x : Option End). HasTurned x mid_w w_then mid new) is more)

-- ---- the whole

pub has_wished : (w : Wish) (ended : Option End) (old new : Station) → Wishes w ended old new → HasWished w old new
has_wished w ended old new wishes = (ended, wishes)

-- what was printed as done has become something
once-by : (w : Wish) (e : End) (old new : Station) → ending_of e ≡ None → Wishes w (Some e) old new
    → WishedOnce w old new
once-by w (end.Refused y) old new done wishes = cc
once-by w (end.Hindered hindrance.Dark) old new done wishes = cc
once-by w (end.Hindered (hindrance.Why y)) old new done wishes = cc
once-by w (end.Hindered (hindrance.Unsent u)) old new done wishes = cc
once-by w (end.Became b) old new done wishes =
    record {
      became = b;
      wished = wishes;
      once = λ trying.
          ap (λ (ts : List Turn). sent w ts) wishes.ends.splits
          ∙ became-is_sent w wishes.ends.front wishes.ends.last b trying wishes.ends.ends;
    }

pub wished_once : (w : Wish) (e : End) (old new : Station) → Wishes w (Some e) old new → ending_of e ≡ None
    → WishedOnce w old new
wished_once w e old new wishes done = once-by w e old new done wishes

pub wished_once_if : {A E : Type 0} (r : Result A E) (w : Wish) (e : End) (old new : Station)
    → Wishes w (Some e) old new → OnOk r (ending_of e ≡ None) → OnOk r (WishedOnce w old new)
wished_once_if (Ok a) w e old new wishes done = wished_once w e old new wishes done
wished_once_if (Err x) w e old new wishes done = tt
