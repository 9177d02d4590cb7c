-- For what a panel lets the desk hear a press.
use Rattle.std.proofs.Common.{◌≡◌, ◌∙◌, refl, sym, ap, subst, inl, inr, ℕ, Bool, true, false, Option, None, Some}
use Rattle.std.proofs.Common.{List, [], ◌∷◌}
use Rattle.std.proofs.lemmas.Option.{none-some}
use Rattle.cue_desk_run.specs.Working.{HearsFor, OnlyLooks, Stays}
use Rattle.cue_desk_run.proofs.WorkLemmas.{for_if, for_looks, for_stays, for_then}
use Rattle.cue_midi.specs.declared.heard.Heard.{Heard}
use Rattle.cue_midi.specs.declared.parser.Parser.{Parser}
use Rattle.cue_midi.specs.Stream.{heard_at}
use Rattle.cue_panel.specs.Playing.{Undoes, begun_at, hand_if, strike_if}
use Rattle.cue_panel.specs.Taking.{strike_of, taken_of}
use Rattle.cue_panel.specs.declared.outcome.Outcome.{Outcome}
use Rattle.cue_panel.specs.declared.player.Player.{Player}
use Rattle.cue_panel.specs.declared.player.Setting.{Setting}
use Rattle.cue_panel.specs.declared.taking.Strike.{Strike}
use Rattle.cue_presses.specs.declared.hand.Hand.{Hand}
use Rattle.cue_presses.specs.declared.pressing.Press.{Press}
use Rattle.cue_station.specs.declared.station.Station.{Station}
use Rattle.cue_view.specs.declared.button.Button.{Button}
use Rattle.cue_view.specs.declared.button.Button.TheVariants as button
use Rattle.cue_view.specs.declared.view.View.{View}
use Rattle.cue_buttons_run.specs.Playing.{AllHappen, AllRounds, Ends, Goes, Happening, Happens, HasListened, Hears}
use Rattle.cue_buttons_run.specs.Playing.{IsRound, Listens, OpensIf, Rest, Rounds, Stand}
use Rattle.cue_buttons_run.specs.Playing.{empties, gives, rest, stand}
use Rattle.cue_buttons_run.specs.Telling.{Told}
use Rattle.cue_buttons_run.specs.Pressing.{Chooses, HasHeard, IsOfPress, IsPressed, IsStruck, Means}
use Rattle.cue_buttons_run.specs.Pressing.{OnlyStruck, Presses}
use Rattle.cue_buttons_run.specs.Pressing.{PressesIf, StillHears, Strikes}

chooses-for : (reason : ℕ → Button → Type 0) (p : Press) (o : Option ℕ) → p.choose ≡ o → (is_heard : Bool)
    (old new : Station) (v v_then : View) → ((view : ℕ) (b : Button) → IsOfPress p v view b → reason view b)
    → Chooses is_heard o old new v v_then → HearsFor reason old new
chooses-for reason p None e is_heard old new v v_then why c = for_stays reason old new v v_then c.1
chooses-for reason p (Some q) e is_heard old new v v_then why c =
    for_if reason is_heard v.number (button.Choose q) old new v v_then
    (why v.number (button.Choose q) (inr (q, e, refl, refl))) c

-- without a choice the view is the same
same-view : (p : Press) (o : Option ℕ) → p.choose ≡ o → (is_chosen : Bool) (old mid : Station) (v mid_view : View)
    → Chooses is_chosen o old mid v mid_view → p.choose ≡ None → mid_view.number ≡ v.number
same-view p None e is_chosen old mid v mid_view c none = ap (λ (x : View). x.number) c.1.1
same-view p (Some q) e is_chosen old mid v mid_view c none = absurd (none-some q (sym none ∙ e))

presses-if-for : (reason : ℕ → Button → Type 0) (p : Press) (r : Outcome) (is_chosen : Bool) (old new : Station)
    (shown v v_then : View) → (p.choose ≡ None → v.number ≡ shown.number)
    → ((view : ℕ) (b : Button) → IsOfPress p shown view b → reason view b)
    → PressesIf is_chosen p.button r old new v v_then → HearsFor reason old new
presses-if-for reason p r true old new shown v v_then same why c =
    for_if reason c.is_heard v.number p.button old new v v_then (why v.number p.button (inl (refl, same))) c.pressed
presses-if-for reason p r false old new shown v v_then same why c = for_stays reason old new v v_then c.0

presses-for : (reason : ℕ → Button → Type 0) (p : Press) (r : Outcome) (old new : Station) (v v_then : View)
    → ((view : ℕ) (b : Button) → IsOfPress p v view b → reason view b) → Presses p r old new v v_then
    → HearsFor reason old new
presses-for reason p r old new v v_then why c =
    for_then reason old c.mid new (chooses-for reason p p.choose refl c.is_chosen old c.mid v c.mid_view why c.chosen)
    (presses-if-for reason p r c.is_chosen c.mid new v c.mid_view v_then
    (same-view p p.choose refl c.is_chosen old c.mid v c.mid_view c.chosen) why c.pressed)

-- so it is pressed, or left, with memory or without
pressed-for : (reason : ℕ → Button → Type 0) (p : Press) (h h_then : Hand) (old new : Station) (v v_then : View)
    → ((view : ℕ) (b : Button) → IsOfPress p v view b → reason view b)
    → IsPressed p h h_then old new v v_then → HearsFor reason old new
pressed-for reason p h h_then old new v v_then why c = presses-for reason p c.outcome old new v v_then why c.presses

strikes-for : (reason : ℕ → Button → Type 0) (w : Bool) (o : Option Strike) (h h_then : Hand) (old new : Station)
    (v v_then : View)
    → ((x : Strike) → o ≡ Some x → (view : ℕ) (b : Button) → IsOfPress x.press v view b → reason view b)
    → Strikes w o h h_then old new v v_then → HearsFor reason old new
strikes-for reason true (Some x) h h_then old new v v_then why c =
    pressed-for reason x.press h h_then old new v v_then (why x refl) c
strikes-for reason false (Some x) h h_then old new v v_then why (inl c) =
    pressed-for reason x.press h h_then old new v v_then (why x refl) c
strikes-for reason false (Some x) h h_then old new v v_then why (inr c) = for_stays reason old new v v_then c.1
strikes-for reason true None h h_then old new v v_then why c = for_stays reason old new v v_then c.1
strikes-for reason false None h h_then old new v v_then why c = for_stays reason old new v v_then c.1

struck-why : (s : Setting) (past : List ℕ) (byte : ℕ) (h : Hand) (m : Heard) (v : View) (p : Press)
    → heard_at past byte ≡ Some m → Means s h m v p → (view : ℕ) (b : Button) → IsOfPress p v view b → IsStruck s view b
struck-why s past byte h m v p spells means view b is =
    record {
      past = past;
      byte = byte;
      struck = record { message = m; spells = spells; hand = h; shown = v; press = p; means = means; is = is };
    }

-- what a byte lets the desk hear was struck
gives-for : (w : Bool) (s : Setting) (past : List ℕ) (byte : ℕ) (o : Option Heard) → heard_at past byte ≡ o
    → (h h_mid h_then : Hand) (old new : Station) (v v_then : View)
    → Strikes w (strike_if s h v o) h_mid h_then old new v v_then → HearsFor (IsStruck s) old new
gives-for w s past byte (Some m) spells h h_mid h_then old new v v_then c =
    strikes-for (IsStruck s) w (strike_of (taken_of s h v m)) h_mid h_then old new v v_then
    (λ x e. struck-why s past byte h m v x.press spells (record { strike = x; struck = e; press = refl })) c
gives-for w s past byte None spells h h_mid h_then old new v v_then c =
    strikes-for (IsStruck s) w None h_mid h_then old new v v_then (λ x e. absurd (none-some x e)) c

-- ---- one thing after the other

still-same : (p p_then : Parser) → p_then ≡ p → StillHears p p_then
still-same p p_then e = record { still = λ has. subst (λ (x : Parser). HasHeard x) (sym e) has }

-- no press is heard
struck-stays : (p p_then : Player) (old new : Station) (v v_then : View) → p_then.setting ≡ p.setting
    → StillHears p.parser p_then.parser → Stays old new v v_then → OnlyStruck p p_then old new
struck-stays p p_then old new v v_then same still stays =
    record {
      struck = λ has. for_stays (IsStruck p.setting) old new v v_then stays;
      parser = still;
      setting = same;
    }

-- nor does anybody play
struck-by : (p p_then : Player) (old new : Station) (v v_then : View) → p_then.setting ≡ p.setting
    → p_then.parser ≡ p.parser → Stays old new v v_then → OnlyStruck p p_then old new
struck-by p p_then old new v v_then same kept stays =
    struck-stays p p_then old new v v_then same (still-same p.parser p_then.parser kept) stays

-- one thing happens
struck-one : (h : Happening) (a b : Stand) → Happens h a b → OnlyStruck a.player b.player a.station b.station
struck-one empties a b c =
    struck-by a.player b.player a.station b.station a.view b.view (ap (λ (x : Player). x.setting) c.0)
    (ap (λ (x : Player). x.parser) c.0) c.1
struck-one (gives w byte) a b c =
    record {
      struck = λ has.
          gives-for w a.player.setting has.past byte c.message (sym (c.hears has.past has.after)) a.player.hand
          (hand_if a.player.setting a.player.hand c.message) b.player.hand a.station b.station a.view b.view c.strikes;
      parser = record { still = λ has. record { past = byte ∷ has.past; after = c.keeps has.past has.after } };
      setting = c.setting;
    }

-- first the one, and then the other
struck-then : (p mid p_then : Player) (old between new : Station) → OnlyStruck p mid old between
    → OnlyStruck mid p_then between new → OnlyStruck p p_then old new
struck-then p mid p_then old between new a b =
    record {
      struck = λ has. for_then (IsStruck p.setting) old between new (a.struck has)
          (subst (λ (x : Setting). HearsFor (IsStruck x) between new) a.setting (b.struck (a.parser.still has)));
      parser = record { still = λ has. b.parser.still (a.parser.still has) };
      setting = b.setting ∙ a.setting;
    }

struck-same : (a b : Stand) → b ≡ a → OnlyStruck a.player b.player a.station b.station
struck-same a b e =
    struck-by a.player b.player a.station b.station a.view b.view (ap (λ (x : Stand). x.player.setting) e)
    (ap (λ (x : Stand). x.player.parser) e) (ap (λ (x : Stand). x.station) e, ap (λ (x : Stand). x.view) e)

struck-all : (hs : List Happening) (a b : Stand) → AllHappen hs a b → OnlyStruck a.player b.player a.station b.station
struck-all [] a b e = struck-same a b e
struck-all (h ∷ more) a b all =
    struck-then a.player all.0.player b.player a.station all.0.station b.station (struck-one h a all.0 all.1)
    (struck-all more all.0 b all.2)

-- ---- rounds

hears-struck : (w : Bool) (t t_then : Option (List Told)) (p p_then : Player) (old new : Station) (v v_then : View)
    → Hears w t t_then p p_then old new v v_then → OnlyStruck p p_then old new
hears-struck w t t_then p p_then old new v v_then h =
    struck-all h.happened (stand p old v) (stand p_then new v_then) h.happens

opens-struck : (is_opened : Bool) (now : ℕ) (p p_then : Player) (old new : Station) (v v_then : View)
    → OpensIf is_opened now p p_then → Stays old new v v_then → OnlyStruck p p_then old new
opens-struck true now p p_then old new v v_then opens stays =
    struck-stays p p_then old new v v_then opens.setting
    (record { still = λ has. record { past = []; after = opens.parser } }) stays
opens-struck false now p p_then old new v v_then same stays =
    struck-by p p_then old new v v_then (ap (λ (x : Player). x.setting) same) (ap (λ (x : Player). x.parser) same) stays

listens-struck : (w : Bool) (now : ℕ) (t t_then : Option (List Told)) (p p_then : Player) (old new : Station)
    (v v_then : View) → Listens w now t t_then p p_then old new v v_then → OnlyStruck p p_then old new
listens-struck w now t t_then p p_then old new v v_then l =
    struck-then p l.opened p_then old old new
    (opens-struck l.opens.0 now p l.opened old old v v l.opens.2 (refl, refl))
    (struck-then l.opened (begun_at now l.opened) p_then old old new
    (struck-by l.opened (begun_at now l.opened) old old v v refl refl (refl, refl))
    (hears-struck w l.told_mid t_then (begun_at now l.opened) p_then old new v v_then l.hears))

listened-struck : (w : Bool) (t t_then : Option (List Told)) (p p_then : Player) (old new : Station) (v v_then : View)
    → HasListened w t t_then p p_then old new v v_then → OnlyStruck p p_then old new
listened-struck true t t_then p p_then old new v v_then h =
    listens-struck true h.0 t t_then p p_then old new v v_then h.1
listened-struck false t t_then p p_then old new v v_then h =
    elim h.1 [
      | inl l ↦ listens-struck false h.0 t t_then p p_then old new v v_then l
      | inr o ↦ opens-struck o.0.0 h.0 p p_then old new v v_then o.0.2 o.1
    ]

undoes-struck : (p p_then : Player) (v : View) (old new : Station) → OnlyLooks old new → Undoes p p_then v
    → OnlyStruck p p_then old new
undoes-struck p p_then v old new looks (inl same) =
    record {
      struck = λ has. for_looks (IsStruck p.setting) old new looks;
      parser = still-same p.parser p_then.parser (ap (λ (x : Player). x.parser) same);
      setting = ap (λ (x : Player). x.setting) same;
    }
undoes-struck p p_then v old new looks (inr undone) =
    record {
      struck = λ has. for_looks (IsStruck p.setting) old new looks;
      parser = still-same p.parser p_then.parser (ap (λ (x : Player). x.parser) undone.2);
      setting = ap (λ (x : Player). x.setting) undone.2;
    }

round-struck : (t t_then : Option (List Told)) (p p_then : Player) (old new : Station) (v v_then : View)
    → IsRound t t_then p p_then old new v v_then → OnlyStruck p p_then old new
round-struck t t_then p p_then old new v v_then r =
    struck-then p r.mid.player p_then old r.mid.station new
    (listened-struck true t t_then p r.mid.player old r.mid.station v r.mid.view r.listens)
    (undoes-struck r.mid.player p_then v_then r.mid.station new r.looks r.undoes)

failed-struck : (t t_then : Option (List Told)) (p p_then : Player) (old new : Station) (v v_then : View)
    → Rounds false t t_then p p_then old new v v_then → OnlyStruck p p_then old new
failed-struck t t_then p p_then old new v v_then (inl l) =
    listened-struck false t t_then p p_then old new v v_then l
failed-struck t t_then p p_then old new v v_then (inr r) = round-struck t t_then p p_then old new v v_then r

rest-same : (a b : Rest) → b ≡ a → OnlyStruck a.stand.player b.stand.player a.stand.station b.stand.station
rest-same a b e = struck-same a.stand b.stand (ap (λ (x : Rest). x.stand) e)

rounds-struck : (ss : List Rest) (a b : Rest) → AllRounds ss a b
    → OnlyStruck a.stand.player b.stand.player a.stand.station b.stand.station
rounds-struck [] a b e = rest-same a b e
rounds-struck (s ∷ more) a b all =
    struck-then a.stand.player s.stand.player b.stand.player a.stand.station s.stand.station b.stand.station
    (round-struck a.told s.told a.stand.player s.stand.player a.stand.station s.stand.station a.stand.view s.stand.view
    all.0) (rounds-struck more s b all.1)

ends-struck : (w : Bool) (a b : Rest) → Ends w a b
    → OnlyStruck a.stand.player b.stand.player a.stand.station b.stand.station
ends-struck true a b e = rest-same a b e
ends-struck false a b (inl e) = rest-same a b e
ends-struck false a b (inr r) =
    failed-struck a.told b.told a.stand.player b.stand.player a.stand.station b.stand.station a.stand.view
    b.stand.view r

-- a panel that went on so has pressed what was struck
pub goes_struck : (w : Bool) (t t_then : Option (List Told)) (p p_then : Player) (old new : Station) (v v_then : View)
    → Goes w t t_then p p_then old new v v_then → OnlyStruck p p_then old new
goes_struck w t t_then p p_then old new v v_then g =
    struck-then p g.last.stand.player p_then old g.last.stand.station new
    (rounds-struck g.after_each (rest t p old v) g.last g.rounds)
    (ends-struck w g.last (rest t_then p_then new v_then) g.ends)
