-- A step keeps the law.
use Rattle.std.proofs.Common.{◌≡◌, refl, sym, ap, ap₂, ◌∙◌, subst, ℕ, Bool, true, ◌&&◌, cond, List, [], ◌∷◌}
use Rattle.std.proofs.Common.{map, filter}
use Rattle.std.proofs.Common.{Option, None, Some, is_some, IsTrue, option_map, ◌⊎◌, inl, inr, ⊎_elim}
use Rattle.std.specs.List.{list_any}
use Rattle.cue_show.proofs.TestLemmas.{join}
use Rattle.cue_core.specs.declared.event.Event.{Event}
use Rattle.cue_exchange.specs.Answers.{is_preparing}
use Rattle.cue_exchange.specs.Steps.{can_go_now}
use Rattle.cue_exchange.specs.declared.attempt.Attempt.{Attempt}
use Rattle.cue_desk.specs.declared.orders.DeskCommand.TheVariants as order
use Rattle.cue_station.specs.declared.alarms.Facts.{Facts}
use Rattle.cue_view.specs.declared.button.Button.{Button}
use Rattle.cue_view.specs.declared.button.Button.TheVariants as button
use Rattle.cue_station.specs.declared.heard.Heard.{Heard}
use Rattle.cue_station.specs.declared.heard.Heard.TheVariants as heard
use Rattle.cue_station.specs.declared.heard.Input.{Input}
use Rattle.cue_station.specs.declared.heard.Send.{Send}
use Rattle.cue_view.specs.declared.view.Trouble.{Trouble}
use Rattle.cue_station.specs.declared.memory.Notes.{Notes}
use Rattle.cue_station.specs.declared.memory.Reading.{Reading}
use Rattle.cue_station.specs.declared.memory.Relayed.{Relayed}
use Rattle.cue_station.specs.declared.memory.Seen.{Seen}
use Rattle.cue_station.specs.declared.memory.Shown.{Shown}
use Rattle.cue_station.specs.declared.station.Made.{Made}
use Rattle.cue_station.specs.declared.station.Station.{Station}
use Rattle.cue_view.specs.declared.view.LiveAttempt.{LiveAttempt}
use Rattle.cue_view.specs.declared.view.Told.{Told}
use Rattle.cue_view.specs.declared.view.Unsent.{Unsent}
use Rattle.cue_view.specs.declared.view.View.{View}
use Rattle.cue_station.specs.Turns.{Turn}
use Rattle.cue_station.specs.Alarms.{alarms_by, asked_at, awaited_by, differs_since}
use Rattle.cue_station.specs.Alarms.{is_over_by, is_put_back, nobody_of, put_back_in}
use Rattle.cue_station.specs.Alarms.{read_at, stands_by, trouble_of}
use Rattle.cue_station.specs.Asking.{is_press_sent, is_tap, newest_of, presses_of, said_by, unshown_by}
use Rattle.cue_station.specs.Choosing.{chosen_number, is_awaited}
use Rattle.cue_station.specs.Drawing.{ShowsReading, alarms_of, facts_of, live_by}
use Rattle.cue_station.specs.Keeping.{numbers_of, shown_failures}
use Rattle.cue_station.specs.Laws.{Keeps, LitIsSo, PressIsSo, StatusIsAsked}
use Rattle.cue_station.specs.Lighting.{may, may_by}
use Rattle.cue_station.specs.Memory.{IsAfter, IsKept, turn_of}
use Rattle.cue_station.specs.Moving.{back_by, place_by}
use Rattle.cue_station.specs.Network.{network_by, relayed_of, relayed_with, stamped_at}
use Rattle.cue_station.specs.Noting.{footing_by, order_by, send_by}
use Rattle.cue_station.specs.Offering.{is_offered, is_recent, kept_of}
use Rattle.cue_station.specs.Pacing.{is_overdue}
use Rattle.cue_station.specs.Pressing.{is_heeded, order_of, refusal_by, unsent_by, unsent_of}
use Rattle.cue_station.specs.Reading.{answered_of, reading_of, seen_since}
use Rattle.cue_station.specs.Showing.{given_in, given_since, is_in_time, is_passed, left_of, shown_live, since_in}
use Rattle.cue_station.specs.Stepping.{Makes, is_heeded_by, kept_with, noted_now, reading_now, refusal_now}
use Rattle.cue_station.specs.Stepping.{unsent_now}
use Rattle.cue_station.specs.Viewing.{alarms_in, facts_by}
use Rattle.cue_station.proofs.AfterLemmas.{heeded-kept, may-kept, step-after}
use Rattle.cue_station.proofs.FailureLemmas.{seen-lit}
use Rattle.cue_station.proofs.LitLemmas.{lights-dark, lights-lit, lights-moves, shows_stack}
use Rattle.cue_station.proofs.PacingLemmas.{due-sent}
use Rattle.cue_station.proofs.SentLemmas.{sending, sends_status}

-- ---- what is drawn of a copy, whichever way the moments are told

abbrev shown_by : Bool → Option ℕ → Option ℕ → List Event → ℕ → ℕ → Attempt → LiveAttempt
shown_by stands since given events now wall a =
    record {
      seq = a.seq;
      cue = a.cue;
      stage = a.stage;
      devices = a.answers;
      ready = stands && (can_go_now a && is_in_time since now wall a);
      left = left_of since now wall a;
      given = given;
      passed = is_preparing a.stage && is_passed a.seq events;
    }

same_live : (b c : Bool) → b ≡ c → (s t g h : ℕ → Option ℕ) → ((q : ℕ) → s q ≡ t q) → ((q : ℕ) → g q ≡ h q)
    → (events : List Event) (now wall : ℕ) (live : List Attempt)
    → shown_live b s g events now wall live ≡ shown_live c t h events now wall live
same_live b c e s t g h es eg events now wall [] = refl
same_live b c e s t g h es eg events now wall (a ∷ live) =
    ap₂ (λ x xs. x ∷ xs)
    (ap (λ v. shown_by v (s a.seq) (g a.seq) events now wall a) e
    ∙ ap₂ (λ v w. shown_by c v w events now wall a) (es a.seq) (eg a.seq))
    (same_live b c e s t g h es eg events now wall live)

same_reading : (b c : Bool) → b ≡ c → (s t g h : ℕ → Option ℕ) → ((q : ℕ) → s q ≡ t q) → ((q : ℕ) → g q ≡ h q)
    → (now wall : ℕ) (v : View) (r : Option Reading) → ShowsReading b s g now wall v r
    → ShowsReading c t h now wall v r
same_reading b c e s t g h es eg now wall v None k = k
same_reading b c e s t g h es eg now wall v (Some r) k =
    record {
      next = k.next;
      place = k.place;
      stack = k.stack;
      last = k.last;
      past = k.past;
      live = k.live ∙ same_live b c e s t g h es eg r.copy.events.items now wall r.copy.state.live;
    }

-- ---- the alarms

same_put_back : (s t : ℕ → Option ℕ) → ((q : ℕ) → s q ≡ t q) → (now wall : ℕ) (live : List Attempt)
    → filter (is_put_back s now wall) live ≡ filter (is_put_back t now wall) live
same_put_back s t e now wall [] = refl
same_put_back s t e now wall (a ∷ live) =
    ap₂ (λ b xs. cond b (a ∷ xs) xs) (ap (λ o. is_over_by o now wall a) (e a.seq)) (same_put_back s t e now wall live)

abbrev facts : ℕ → Option ℕ → Bool → Option ℕ → Option ℕ → Option ℕ → Option Trouble → Option ℕ → Facts
facts now asked nobody differs stamped read trouble unshown =
    record {
      at = now;
      asked = asked;
      nobody = nobody;
      differs = differs;
      stamped = stamped;
      read = read;
      trouble = trouble;
      unshown = unshown;
    }

facts-kept : (turns : List Turn) (n : Notes) (r : Option Reading) (relay : Option Relayed) (seen : List Seen)
    (failures : List Told) (views : List Shown) → IsKept turns n r relay seen failures views → (now : ℕ)
    → facts_by n r relay now ≡ facts_of turns now
facts-kept turns n r relay seen failures views k now =
    ap₂ (λ a b. facts now (asked_at a) b n.differs (stamped_at relay) (read_at r) n.trouble (unshown_by n.press))
    k.answered k.nobody
    ∙ ap₂ (λ a b. facts now (asked_at (answered_of turns)) (nobody_of turns) a (stamped_at b) (read_at r) n.trouble
    (unshown_by n.press)) k.differs k.relay
    ∙ ap₂ (λ a b. facts now (asked_at (answered_of turns)) (nobody_of turns) (differs_since turns)
    (stamped_at (relayed_of turns)) (read_at a) b (unshown_by n.press)) k.reading k.trouble
    ∙ ap (λ p. facts now (asked_at (answered_of turns)) (nobody_of turns) (differs_since turns)
    (stamped_at (relayed_of turns)) (read_at (reading_of turns)) (trouble_of turns) (unshown_by p)) k.press

alarms-kept : (turns : List Turn) (n : Notes) (r : Option Reading) (relay : Option Relayed) (seen : List Seen)
    (failures : List Told) (views : List Shown) → IsKept turns n r relay seen failures views → (now wall : ℕ)
    → alarms_in n r relay seen failures (footing_by n r now wall) ≡ alarms_of turns now wall
alarms-kept turns n r relay seen failures views k now wall =
    ap₂ (λ f q. alarms_by f q (numbers_of (shown_failures r failures))
    (awaited_by r (network_by relay now)))
    (facts-kept turns n r relay seen failures views k now)
    (ap (map (λ a. a.seq)) (same_put_back (since_in seen) (λ q. seen_since q turns) k.since now wall (live_by r)))
    ∙ ap₂ (λ o x. alarms_by (facts_of turns now) (put_back_in (λ q. seen_since q turns) now wall (live_by o))
    (numbers_of (shown_failures o failures)) (awaited_by o (network_by x now))) k.reading k.relay
    ∙ ap (λ l. alarms_by (facts_of turns now)
    (put_back_in (λ q. seen_since q turns) now wall (live_by (reading_of turns)))
    (numbers_of (shown_failures (reading_of turns) l))
    (awaited_by (reading_of turns) (network_by (relayed_of turns) now))) k.failed

-- ---- what is sent

-- what is sent in a turn, by what was heard in it
record Sends (s : Station) (i : Input) (past : List Turn) (send : Option Send) : Type 0 where
  pub message : (x : Send) → send ≡ Some x
      → (x.order ≡ order.Status)
      ⊎ ((view : ℕ) × (b : Button) × (i.heard ≡ heard.Pressed view b) × IsTrue (is_heeded_by s i view b)
      × (order_of b ≡ Some x.order))
  pub own : (x : Send) → send ≡ Some x → x.ask ≡ s.notes.next_ask

sends_no_press : (s : Station) (i : Input) (past : List Turn) (due : Bool) (send : Option Send)
    → send ≡ send_by None due s.notes.next_ask → Sends s i past send
sends_no_press s i past due send is =
    record {
      message = λ x h. inl (ap (λ (y : Send). y.order) (sends_status due s.notes.next_ask x (sym is ∙ h)));
      own = λ x h. ap (λ (y : Send). y.ask) (sends_status due s.notes.next_ask x (sym is ∙ h));
    }

sends_press : (s : Station) (i : Input) (past : List Turn) (due : Bool) (send : Option Send) (view : ℕ) (b : Button)
    → i.heard ≡ heard.Pressed view b
    → send ≡ send_by (cond (is_heeded_by s i view b) (order_of b) None) due s.notes.next_ask → Sends s i past send
sends_press s i past due send view b h is =
    let told = sending (is_heeded_by s i view b) due b s.notes.next_ask in
    record {
      message = λ x e. ⊎_elim
          (λ (k : x.order ≡ order.Status). inl k)
          (λ (k : (is_heeded_by s i view b ≡ true) × (order_of b ≡ Some x.order)). inr (view, b, h, k.0, k.1))
          (told.message x (sym is ∙ e));
      own = λ x e. told.own x (sym is ∙ e);
    }

sends_by : (s : Station) (i : Input) (past : List Turn) (due : Bool) (send : Option Send) (h : Heard) → i.heard ≡ h
    → send ≡ send_by (order_by h (is_heeded_by s i)) due s.notes.next_ask → Sends s i past send
sends_by s i past due send (heard.Copied c) h is = sends_no_press s i past due send is
sends_by s i past due send (heard.Same begun) h is = sends_no_press s i past due send is
sends_by s i past due send (heard.Unread why) h is = sends_no_press s i past due send is
sends_by s i past due send (heard.Replied n a) h is = sends_no_press s i past due send is
sends_by s i past due send (heard.Nobody n) h is = sends_no_press s i past due send is
sends_by s i past due send (heard.Pressed view b) h is = sends_press s i past due send view b h is
sends_by s i past due send (heard.Relay x) h is = sends_no_press s i past due send is
sends_by s i past due send (heard.Kept x) h is = sends_no_press s i past due send is
sends_by s i past due send heard.Tick h is = sends_no_press s i past due send is

-- whether the message is that of a press
pressed-sent : (s : Station) (i : Input) (due : Bool) (send : Option Send) (view : ℕ) (b : Button)
    → send ≡ send_by (order_by i.heard (is_heeded_by s i)) due s.notes.next_ask → i.heard ≡ heard.Pressed view b
    → is_press_sent send ≡ (is_heeded_by s i view b && is_some (order_of b))
pressed-sent s i due send view b is h =
    ap is_press_sent (is ∙ ap (λ x. send_by (order_by x (is_heeded_by s i)) due s.notes.next_ask) h)
    ∙ (sending (is_heeded_by s i view b) due b s.notes.next_ask).press

-- why a press is refused, whichever way that is told
unsent-same : (f g : ℕ → Button → Option Unsent) → ((view : ℕ) (b : Button) → f view b ≡ g view b) → (h : Heard)
    → unsent_by f h ≡ unsent_by g h
unsent-same f g e (heard.Copied c) = refl
unsent-same f g e (heard.Same begun) = refl
unsent-same f g e (heard.Unread why) = refl
unsent-same f g e (heard.Replied n a) = refl
unsent-same f g e (heard.Nobody n) = refl
unsent-same f g e (heard.Pressed view b) = e view b
unsent-same f g e (heard.Relay x) = refl
unsent-same f g e (heard.Kept x) = refl
unsent-same f g e heard.Tick = refl

unsent-kept : (past : List Turn) (s : Station) → IsAfter past s → (i : Input) → unsent_now s i ≡ unsent_of past i
unsent-kept past s k i =
    unsent-same (refusal_now s i)
    (λ view b. refusal_by (is_tap i.at b (newest_of (presses_of past)))
    (list_any (is_recent view i.at) (kept_of past)) (is_offered view i.at b (kept_of past))
    (may past i.at i.wall b))
    (λ view b.
    ap (λ p. refusal_by (is_tap i.at b p) (list_any (is_recent view i.at) s.views.items)
    (is_offered view i.at b s.views.items)
    (may_by (footing_by s.notes s.reading i.at i.wall) (since_in s.seen.items) s.reading b)) k.press
    ∙ ap₂ (λ v m. refusal_by (is_tap i.at b (newest_of (presses_of past))) (list_any (is_recent view i.at) v) (is_offered view i.at b v) m) k.views
    (may-kept past s.notes s.reading s.relay s.seen.items s.failed.items s.views.items k i.at i.wall b)) i.heard

press-kept : (past : List Turn) (s : Station) (i : Input) (m : Made) → IsAfter past s → Makes s i m
    → PressIsSo (turn_of i m.step) past
press-kept past s i m k makes =
    let sends = sends_by s i past makes.due m.step.send i.heard refl makes.send in
    let same : (view : ℕ) (b : Button) → is_heeded_by s i view b ≡ is_heeded past i.at i.wall view b =
    λ view b. heeded-kept past s k i view b in
    record {
      sent = λ x h. ⊎_elim
          (λ (e : x.order ≡ order.Status). inl e)
          (λ (e : (view : ℕ) × (b : Button) × (i.heard ≡ heard.Pressed view b) × IsTrue (is_heeded_by s i view b)
          × (order_of b ≡ Some x.order)).
          inr (record {
            view = e.0;
            pressed_button = e.1;
            pressed = e.2;
            heeded = sym (same e.0 e.1) ∙ e.3;
            message = e.4;
          }))
          (sends.message x h);
      own = λ x h. sends.own x h ∙ k.asks;
      heeded = λ view b h e o.
          pressed-sent s i makes.due m.step.send view b makes.send h
          ∙ join (is_heeded_by s i view b) (is_some (order_of b)) (same view b ∙ e) o;
      told = makes.unsent ∙ unsent-kept past s k i;
    }

asked-kept : (past : List Turn) (s : Station) (i : Input) (m : Made) → IsAfter past s → Makes s i m
    → StatusIsAsked (turn_of i m.step) past
asked-kept past s i m k makes h =
    ap is_some makes.send
    ∙ due-sent (order_by i.heard (is_heeded_by s i)) makes.due (noted_now s i).next_ask
    (makes.overdue (subst (λ o. IsTrue (is_overdue o i.at)) (sym k.question) h))

-- ---- the law

lit-kept : (past : List Turn) (s : Station) (i : Input) (m : Made) → IsAfter past s → Makes s i m
    → LitIsSo (turn_of i m.step) past
lit-kept past s i m k makes =
    let turns = turn_of i m.step ∷ past in
    let r = reading_now s i in
    let after = step-after past s i m k makes in
    let same : (b : Button) → may_by (footing_by m.notes r i.at i.wall) (since_in m.seen.items) r b
    ≡ may turns i.at i.wall b =
    λ b. may-kept turns m.notes r (relayed_with i.heard i.at s.relay) m.seen.items m.failed.items
    (kept_with m.shown s.views.items) after i.at i.wall b in
    let f = footing_by m.notes r i.at i.wall in
    let v = m.step.view in
    record {
      lit = λ b h. sym (same b) ∙ lights-lit f m.seen.items r v.stack.items v.alarms.items v.lit.items
          makes.view.lit b h;
      dark = λ b key h. lights-dark f m.seen.items r v.stack.items v.alarms.items v.lit.items makes.view.lit b key
          (same b ∙ h);
      moves = λ c h. lights-moves f m.seen.items r v.stack.items v.alarms.items v.lit.items makes.view.lit
          (shows_stack f.stands (since_in m.seen.items) (given_in m.seen.items) i.at i.wall v r makes.view.copy) c
          (same (button.MoveTo c) ∙ h);
      seen = seen-lit f m.seen.items r v.stack.items v.alarms.items v.lit.items makes.view.lit turns i.at i.wall
          after.reading
          (makes.view.alarms ∙ alarms-kept turns m.notes r (relayed_with i.heard i.at s.relay) m.seen.items
          m.failed.items (kept_with m.shown s.views.items) after i.at i.wall);
    }

pub step-keeps : (past : List Turn) (s : Station) (i : Input) (m : Made) → IsAfter past s → Makes s i m
    → Keeps (turn_of i m.step) past
step-keeps past s i m k makes =
    let turns = turn_of i m.step ∷ past in
    let r = reading_now s i in
    let relay = relayed_with i.heard i.at s.relay in
    let after = step-after past s i m k makes in
    record {
      lit = lit-kept past s i m k makes;
      press = press-kept past s i m k makes;
      asked = asked-kept past s i m k makes;
      answer = makes.view.said ∙ ap₂ (λ o p. option_map (said_by o) p) after.reading after.press;
      before = makes.view.before ∙ ap₂ (λ o p. option_map (said_by o) p) after.reading after.before;
      age = record {
        made = makes.view.at;
        read = makes.view.read ∙ ap read_at after.reading;
        served = makes.view.served ∙ ap asked_at after.answered;
        stamped = makes.view.stamped ∙ ap stamped_at after.relay;
      };
      copy = subst
          (λ o. ShowsReading (stands_by i.at (trouble_of turns) (answered_of turns) (reading_of turns))
          (λ q. seen_since q turns) (λ q. given_since q turns) i.at i.wall m.step.view o) after.reading
          (same_reading (stands_by i.at m.notes.trouble m.notes.answered r)
          (stands_by i.at (trouble_of turns) (answered_of turns) (reading_of turns))
          (ap (λ w. stands_by i.at w m.notes.answered r) after.trouble
          ∙ ap₂ (λ a o. stands_by i.at (trouble_of turns) a o) after.answered after.reading)
          (since_in m.seen.items) (λ q. seen_since q turns) (given_in m.seen.items) (λ q. given_since q turns)
          after.since after.given i.at i.wall m.step.view r makes.view.copy);
      chosen = makes.view.chosen ∙ ap chosen_number after.choice;
      unsettled = record {
        awaits = makes.view.awaits ∙ ap is_awaited after.choice;
        differs = makes.view.differs ∙ ap is_some after.differs;
      };
      back = makes.view.back ∙ ap₂ (λ v o. back_by v (place_by o)) after.moved after.reading;
      alarm = makes.view.alarms
          ∙ alarms-kept turns m.notes r relay m.seen.items m.failed.items (kept_with m.shown s.views.items) after i.at
          i.wall;
      failed = makes.view.failed ∙ ap₂ (λ o l. shown_failures o l) after.reading after.failed;
      network = makes.view.network ∙ ap (λ o. network_by o i.at) after.relay;
      newest = makes.number ∙ k.number;
    }
