-- What is kept after a turn says what the evening says with that turn.
use Rattle.std.proofs.Common.{◌≡◌, refl, sym, ap, ap₂, ◌∙◌, subst, ℕ, suc, ◌+◌, Bool, true, not, ◌&&◌, ◌||◌, List, []}
use Rattle.std.proofs.Common.{◌∷◌, map, take, length, add-one}
use Rattle.std.proofs.Common.{Option, None, Some, is_some, is_none, filter, nat_eq, IsTrue, IsSome, option_map, inl}
use Rattle.std.proofs.Common.{inr, ⊎_elim, cond, zero}
use Rattle.std.specs.List.{list_any, list_all}
use Rattle.cue_show.proofs.TestLemmas.{both}
use Rattle.cue_view.specs.declared.button.Button.{Button}
use Rattle.cue_view.specs.declared.button.Button.TheVariants as button
use Rattle.cue_station.specs.declared.heard.Heard.{Heard}
use Rattle.cue_station.specs.declared.heard.Heard.TheVariants as heard
use Rattle.cue_station.specs.declared.heard.Input.{Input}
use Rattle.cue_station.specs.declared.heard.Send.{Send}
use Rattle.cue_station.specs.declared.lighting.Footing.{Footing}
use Rattle.cue_station.specs.declared.limits.TheConstants.{KEPT_VIEWS}
use Rattle.cue_station.specs.declared.memory.Answered.{Answered}
use Rattle.cue_station.specs.declared.memory.Choice.{Choice}
use Rattle.cue_station.specs.declared.memory.Choice.TheVariants as choice
use Rattle.cue_station.specs.declared.memory.Notes.{Notes}
use Rattle.cue_station.specs.declared.memory.Pending.{Pending}
use Rattle.cue_station.specs.declared.memory.Question.{Question}
use Rattle.cue_station.specs.declared.memory.Reading.{Reading}
use Rattle.cue_station.specs.declared.memory.Relayed.{Relayed}
use Rattle.cue_station.specs.declared.memory.Seen.{Seen}
use Rattle.cue_station.specs.declared.memory.Shown.{Shown}
use Rattle.cue_station.specs.declared.station.Made.{Made}
use Rattle.cue_station.specs.declared.station.Station.{Station}
use Rattle.cue_view.specs.declared.view.Told.{Told}
use Rattle.cue_station.specs.Turns.{Turn}
use Rattle.cue_station.specs.Alarms.{acknowledged_by, acknowledged_of, differs_by, lasting, nobody_by}
use Rattle.cue_station.specs.Alarms.{stands_by, trouble_of, trouble_with}
use Rattle.cue_station.specs.Asking.{followed, going_by, going_of, if_open, is_final, is_open, is_open_ask}
use Rattle.cue_station.specs.Asking.{is_press_sent, is_quiet, newest_of, presses_of, sent_press}
use Rattle.cue_station.specs.Choosing.{chosen_by_press, chosen_by_sending, chosen_number, chosen_of, found_in, grown}
use Rattle.cue_station.specs.Choosing.{is_refused}
use Rattle.cue_station.specs.Keeping.{failed_after, with_kept}
use Rattle.cue_station.specs.Lighting.{footing_of, is_live_as, is_ready, is_number, may, may_by}
use Rattle.cue_station.specs.Memory.{IsAfter, IsKept, is_beside, is_cancel, open_in, turn_of}
use Rattle.cue_station.specs.Moving.{moved_by, place_by}
use Rattle.cue_station.specs.Network.{relayed_with}
use Rattle.cue_station.specs.Noting.{before_after, beside_after, footing_by, order_by, press_after, send_by, waits_by}
use Rattle.cue_station.specs.Offering.{is_offered, kept_in, kept_of}
use Rattle.cue_station.specs.Opening.{has_ask, is_some_final}
use Rattle.cue_station.specs.Pressing.{ask_after, is_heeded, order_of}
use Rattle.cue_station.specs.Reading.{answered_of, answered_with, question_of, question_with, read_with, reading_of}
use Rattle.cue_station.specs.Reading.{seen_since}
use Rattle.cue_station.specs.Seeing.{seen_after}
use Rattle.cue_station.specs.Showing.{given_in, given_since, since_in}
use Rattle.cue_station.specs.Stepping.{Makes, is_heeded_by, kept_with, noted_now, reading_now, shown_in}
use Rattle.cue_show.specs.Number.{same_text}
use Rattle.cue_station.proofs.OpenLemmas.{LeavesOne, beside_followed, leaves_one, newest-sent, one_open, second-sent, still_closed}
use Rattle.cue_station.proofs.OpenLemmas.{gone_beside, was_open}
use Rattle.cue_station.proofs.PressLemmas.{all-filter, any-filter, ask-two, final-two, newest-map, none-filter}
use Rattle.cue_station.proofs.PressLemmas.{none_in, none_in-two, open_followed}
use Rattle.cue_station.proofs.SeeingLemmas.{given-seen, since-seen}
use Rattle.cue_station.proofs.SentLemmas.{KeepsOpen, keeps_none, keeps_pressed, may_leaves, sending}

-- ---- the open presses, as the notes have them

-- no press is open exactly if none of the two is
quiet-kept : (r : Option Reading) (press beside : Option Pending) (all : List Pending)
    → open_in r press beside ≡ filter (is_open r) all
    → (is_none (if_open r press) && is_none beside) ≡ list_all (λ p. not (is_open r p)) all
quiet-kept r press beside all e =
    sym (none_in-two (if_open r press) beside) ∙ ap none_in e ∙ sym (none-filter (is_open r) all)

calm-kept : (r : Option Reading) (press beside : Option Pending) (all : List Pending)
    → open_in r press beside ≡ filter (is_open r) all
    → (not (is_some_final (if_open r press)) && not (is_some_final beside))
    ≡ list_all (λ p. not (is_open r p && is_final p.button)) all
calm-kept r press beside all e =
    sym (final-two (if_open r press) beside) ∙ ap (list_all (λ x. not (is_final x.button))) e
    ∙ sym (all-filter (is_open r) (λ x. is_final x.button) all)

asked-kept : (r : Option Reading) (press beside : Option Pending) (all : List Pending)
    → open_in r press beside ≡ filter (is_open r) all → (n : ℕ)
    → (has_ask n (if_open r press) || has_ask n beside) ≡ is_open_ask n r all
asked-kept r press beside all e n =
    sym (ask-two n (if_open r press) beside) ∙ ap (list_any (λ x. nat_eq x.ask n)) e
    ∙ sym (any-filter (is_open r) (λ x. nat_eq x.ask n) all)

-- ---- what a lit button rests on

abbrev footing : ℕ → ℕ → Bool → Option ℕ → Option ℕ → Bool → Bool → Footing
footing now wall stands chosen going quiet calm =
    record {
      at = now;
      wall = wall;
      stands = stands;
      chosen = chosen;
      going = going;
      is_quiet = quiet;
      is_calm = calm;
    }

-- the copy stands, by the turns
abbrev stands_now : List Turn → ℕ → Bool
stands_now turns now = stands_by now (trouble_of turns) (answered_of turns) (reading_of turns)

pub footing-kept : (turns : List Turn) (n : Notes) (r : Option Reading) → r ≡ reading_of turns
    → n.trouble ≡ trouble_of turns → n.answered ≡ answered_of turns → n.choice ≡ chosen_of turns
    → n.press ≡ newest_of (presses_of turns)
    → open_in (reading_of turns) n.press n.beside ≡ filter (is_open (reading_of turns)) (presses_of turns)
    → (now wall : ℕ) → footing_by n r now wall ≡ footing_of turns now wall
footing-kept turns n r er et ea ec ep eo now wall =
    ap (λ o. footing_by n o now wall) er
    ∙ ap (λ p. footing now wall (stands_by now n.trouble n.answered (reading_of turns)) (chosen_number n.choice)
    (going_by (if_open (reading_of turns) p)) (is_none (if_open (reading_of turns) n.press) && is_none n.beside)
    (not (is_some_final (if_open (reading_of turns) n.press)) && not (is_some_final n.beside))) ep
    ∙ ap₂ (λ w a. footing now wall (stands_by now w a (reading_of turns)) (chosen_number n.choice) (going_of turns)
    (is_none (if_open (reading_of turns) n.press) && is_none n.beside)
    (not (is_some_final (if_open (reading_of turns) n.press)) && not (is_some_final n.beside))) et ea
    ∙ ap (λ c. footing now wall (stands_now turns now) (chosen_number c) (going_of turns)
    (is_none (if_open (reading_of turns) n.press) && is_none n.beside)
    (not (is_some_final (if_open (reading_of turns) n.press)) && not (is_some_final n.beside))) ec
    ∙ ap (λ q. footing now wall (stands_now turns now) (chosen_number (chosen_of turns))
    (going_of turns) q (not (is_some_final (if_open (reading_of turns) n.press)) && not (is_some_final n.beside)))
    (quiet-kept (reading_of turns) n.press n.beside (presses_of turns) eo)
    ∙ ap (λ q. footing now wall (stands_now turns now) (chosen_number (chosen_of turns))
    (going_of turns) (is_quiet turns) q)
    (calm-kept (reading_of turns) n.press n.beside (presses_of turns) eo)

-- whichever way the moments since which attempts are seen are told
may-since : (f : Footing) (s t : ℕ → Option ℕ) → ((q : ℕ) → s q ≡ t q) → (r : Option Reading) (b : Button)
    → may_by f s r b ≡ may_by f t r b
may-since f s t e None b = refl
may-since f s t e (Some r) (button.Go c q) =
    ap (λ o. (f.stands && (f.is_quiet && is_number q f.chosen))
    && is_live_as q (λ a. same_text a.cue c && is_ready o f.at f.wall a) r.copy.state.live) (e q)
may-since f s t e (Some r) (button.Cancel c q) = refl
may-since f s t e (Some r) (button.Standby c) = refl
may-since f s t e (Some r) (button.Release q d) = refl
may-since f s t e (Some r) (button.MoveTo c) = refl
may-since f s t e (Some r) (button.Choose q) = refl
may-since f s t e (Some r) (button.Seen q) = refl

pub may-kept : (turns : List Turn) (n : Notes) (r : Option Reading) (relay : Option Relayed) (seen : List Seen)
    (failures : List Told) (views : List Shown) → IsKept turns n r relay seen failures views → (now wall : ℕ)
    (b : Button) → may_by (footing_by n r now wall) (since_in seen) r b ≡ may turns now wall b
may-kept turns n r relay seen failures views k now wall b =
    ap (λ f. may_by f (since_in seen) r b)
    (footing-kept turns n r k.reading k.trouble k.answered k.choice k.press k.opened now wall)
    ∙ ap (λ o. may_by (footing_of turns now wall) (since_in seen) o b) k.reading
    ∙ may-since (footing_of turns now wall) (since_in seen) (λ q. seen_since q turns) k.since (reading_of turns) b

pub heeded-kept : (past : List Turn) (s : Station) → IsAfter past s → (i : Input) (view : ℕ) (b : Button)
    → is_heeded_by s i view b ≡ is_heeded past i.at i.wall view b
heeded-kept past s k i view b =
    ap (λ v. is_offered view i.at b v
    && may_by (footing_by s.notes s.reading i.at i.wall) (since_in s.seen.items) s.reading b)
    k.views
    ∙ ap (λ m. is_offered view i.at b (kept_of past) && m)
    (may-kept past s.notes s.reading s.relay s.seen.items s.failed.items s.views.items k i.at i.wall b)

-- ---- the presses once this was heard

abbrev reading_next : List Turn → Input → Option Reading
reading_next past i = read_with i.heard (reading_of past)

abbrev answered_next : List Turn → Input → Option Answered
answered_next past i = answered_with i.heard i.at (question_of past) (answered_of past)

-- each press, once this was heard
abbrev next_of : List Turn → Input → Pending → Pending
next_of past i = followed i.heard i.at (answered_next past i) (reading_next past i)

pub record HeardPresses (past : List Turn) (i : Input) (press beside : Option Pending) : Type 0 where
  pub press_is : press ≡ newest_of (map (next_of past i) (presses_of past))
  pub opened : open_in (reading_next past i) press beside
      ≡ filter (is_open (reading_next past i)) (map (next_of past i) (presses_of past))
  pub beside_is : is_beside press beside ≡ true

pub heard-kept : (past : List Turn) (s : Station) → IsAfter past s → (i : Input)
    → HeardPresses past i (option_map (next_of past i) s.notes.press)
    (if_open (reading_next past i) (option_map (next_of past i) s.notes.beside))
heard-kept past s k i =
    record {
      press_is = newest-map (next_of past i) s.notes.press (presses_of past) k.press;
      opened = open_followed (next_of past i) (is_open (reading_of past)) (is_open (reading_next past i))
          (λ x h. was_open i.heard i.at (answered_next past i) (reading_of past) x h) s.notes.press s.notes.beside
          (presses_of past) k.opened;
      beside_is = beside_followed (is_open (reading_next past i)) (next_of past i) (λ x. refl) s.notes.press
          s.notes.beside k.beside;
    }

-- what a press left open, once this was heard
leaves_next : (past : List Turn) (i : Input) (b : Button) (press beside : Option Pending)
    → LeavesOne b (if_open (reading_of past) press) beside
    → LeavesOne b (if_open (reading_next past i) (option_map (next_of past i) press))
    (if_open (reading_next past i) (option_map (next_of past i) beside))
leaves_next past i b press beside k =
    let f = next_of past i in
    let p = is_open (reading_of past) in
    let q = is_open (reading_next past i) in
    let h : (x : Pending) → q (f x) ≡ true → p x ≡ true =
    λ x e. was_open i.heard i.at (answered_next past i) (reading_of past) x e in
    record {
      one = one_open f p q h press beside k.one;
      final = ⊎_elim
          (λ (e : is_cancel b ≡ true). inl e)
          (λ (e : (if_open (reading_of past) press ≡ None) × (beside ≡ None)).
          inr (still_closed f p q h press e.0, gone_beside f q beside e.1))
          k.final;
    }

-- a press that is heeded leaves one open at most
heeded_leaves : (past : List Turn) (s : Station) → IsAfter past s → (i : Input) (view : ℕ) (b : Button)
    → IsTrue (is_heeded_by s i view b) → IsSome (order_of b)
    → LeavesOne b (if_open (reading_of past) s.notes.press) s.notes.beside
heeded_leaves past s k i view b h o =
    let f = footing_by s.notes s.reading i.at i.wall in
    let may = (both (is_offered view i.at b s.views.items) (may_by f (since_in s.seen.items) s.reading b) h).1 in
    let low = may_leaves f (since_in s.seen.items) s.reading b o may in
    subst (λ r. LeavesOne b (if_open r s.notes.press) s.notes.beside) k.reading
    (leaves_one b f s.reading s.notes.press s.notes.beside k.beside refl refl refl low)

-- the presses with the one that is sent
sent_by_heard : (h : Heard) (at : ℕ) (send : Option Send) (r : Option Reading) (press beside : Option Pending)
    (all : List Pending) → open_in r press beside ≡ filter (is_open r) all → is_beside press beside ≡ true
    → ((view : ℕ) (b : Button) → h ≡ heard.Pressed view b → is_press_sent send ≡ true
    → LeavesOne b (if_open r press) beside)
    → KeepsOpen r (sent_press h at r send) press beside all
sent_by_heard (heard.Copied c) at send r press beside all e k g = keeps_none r press beside all e k
sent_by_heard (heard.Same begun) at send r press beside all e k g = keeps_none r press beside all e k
sent_by_heard (heard.Unread why) at send r press beside all e k g = keeps_none r press beside all e k
sent_by_heard (heard.Replied n a) at send r press beside all e k g = keeps_none r press beside all e k
sent_by_heard (heard.Nobody n) at send r press beside all e k g = keeps_none r press beside all e k
sent_by_heard (heard.Pressed v b) at send r press beside all e k g =
    keeps_pressed r at b v send press beside all e k (λ h. (g v b refl h).one) (λ h. (g v b refl h).final)
sent_by_heard (heard.Relay x) at send r press beside all e k g = keeps_none r press beside all e k
sent_by_heard (heard.Kept x) at send r press beside all e k g = keeps_none r press beside all e k
sent_by_heard heard.Tick at send r press beside all e k g = keeps_none r press beside all e k

-- a press is sent only if it is heeded
sent_leaves : (past : List Turn) (s : Station) → IsAfter past s → (i : Input) (due : Bool) (ask : ℕ)
    (send : Option Send)
    → send ≡ send_by (order_by i.heard (is_heeded_by s i)) due ask → (view : ℕ) (b : Button)
    → i.heard ≡ heard.Pressed view b → is_press_sent send ≡ true
    → LeavesOne b (if_open (reading_of past) s.notes.press) s.notes.beside
sent_leaves past s k i due ask send is view b h e =
    let told = sending (is_heeded_by s i view b) due b ask in
    let pressed : send ≡ send_by (order_by (heard.Pressed view b) (is_heeded_by s i)) due ask =
    is ∙ ap (λ x. send_by (order_by x (is_heeded_by s i)) due ask) h in
    let sent : (is_heeded_by s i view b && is_some (order_of b)) ≡ true =
    sym told.press ∙ ap is_press_sent (sym pressed) ∙ e in
    let k2 = both (is_heeded_by s i view b) (is_some (order_of b)) sent in
    heeded_leaves past s k i view b k2.0 k2.1

-- ---- the choice

grown-waits : (h : Heard) (v w : ℕ → Bool) → ((n : ℕ) → v n ≡ w n) → (r : Option Reading) (c : Choice)
    → grown h v r c ≡ grown h w r c
grown-waits h v w e r choice.Nothing = refl
grown-waits h v w e r (choice.Attempt q) = refl
grown-waits h v w e r (choice.Awaited n c) =
    ap (λ x. cond (is_refused n h) choice.Nothing (found_in r x n c)) (e n)

-- ---- the views

-- the first n of the first n + 1 are the first n
take-shorter : (n : ℕ) (xs : List Shown) → take n (take (suc n) xs) ≡ take n xs
take-shorter zero xs = refl
take-shorter (suc n) [] = refl
take-shorter (suc n) (x ∷ xs) = ap (λ v. x ∷ v) (take-shorter n xs)

take_front : (n : ℕ) (x : Shown) (xs : List Shown) → take n (x ∷ take n xs) ≡ take n (x ∷ xs)
take_front zero x xs = refl
take_front (suc n) x xs = ap (λ v. x ∷ v) (take-shorter n xs)

-- ---- all that is kept

-- what the notes of a turn come to, once what they rest on is what the evening says
pub record Noted (past : List Turn) (s : Station) (i : Input) : Type 0 where
  pub reading : reading_now s i ≡ reading_next past i
  pub answered : (noted_now s i).answered ≡ answered_next past i
  pub press : (noted_now s i).press ≡ option_map (next_of past i) s.notes.press
  pub beside : (noted_now s i).beside ≡ if_open (reading_next past i) (option_map (next_of past i) s.notes.beside)
  pub before : (noted_now s i).before ≡ option_map (next_of past i) s.notes.before
  pub waits : (n : ℕ) → waits_by (reading_now s i) (noted_now s i) n
      ≡ is_open_ask n (reading_next past i) (map (next_of past i) (presses_of past))

noted : (past : List Turn) (s : Station) → IsAfter past s → (i : Input) → Noted past s i
noted past s k i =
    let er : reading_now s i ≡ reading_next past i = ap (read_with i.heard) k.reading in
    let ea : answered_with i.heard i.at s.notes.question s.notes.answered ≡ answered_next past i =
    ap₂ (λ q a. answered_with i.heard i.at q a) k.question k.answered in
    let ef : followed i.heard i.at (answered_with i.heard i.at s.notes.question s.notes.answered) (reading_now s i)
    ≡ next_of past i = ap₂ (λ a r. followed i.heard i.at a r) ea er in
    let ep : (noted_now s i).press ≡ option_map (next_of past i) s.notes.press =
    ap (λ (f : Pending → Pending). option_map f s.notes.press) ef in
    let eb : (noted_now s i).beside ≡ if_open (reading_next past i) (option_map (next_of past i) s.notes.beside) =
    ap₂ (λ r (f : Pending → Pending). if_open r (option_map f s.notes.beside)) er ef in
    let both_kept = heard-kept past s k i in
    record {
      reading = er;
      answered = ea;
      press = ep;
      beside = eb;
      before = ap (λ (f : Pending → Pending). option_map f s.notes.before) ef;
      waits = λ n.
          ap (λ r. has_ask n (if_open r (noted_now s i).press) || has_ask n (noted_now s i).beside) er
          ∙ ap₂ (λ p b. has_ask n (if_open (reading_next past i) p) || has_ask n b) ep eb
          ∙ asked-kept (reading_next past i) (option_map (next_of past i) s.notes.press)
          (if_open (reading_next past i) (option_map (next_of past i) s.notes.beside))
          (map (next_of past i) (presses_of past)) both_kept.opened n;
    }

choice-kept : (past : List Turn) (s : Station) → IsAfter past s → (i : Input)
    → (noted_now s i).choice ≡ chosen_by_press i.heard i.at (kept_of past)
    (grown i.heard (λ n. is_open_ask n (reading_next past i) (map (next_of past i) (presses_of past)))
    (reading_next past i) (chosen_of past))
choice-kept past s k i =
    let n = noted past s k i in
    ap (λ v. chosen_by_press i.heard i.at v
    (grown i.heard (waits_by (reading_now s i) (noted_now s i)) (reading_now s i) s.notes.choice)) k.views
    ∙ ap (chosen_by_press i.heard i.at (kept_of past))
    (grown-waits i.heard (waits_by (reading_now s i) (noted_now s i))
    (λ q. is_open_ask q (reading_next past i) (map (next_of past i) (presses_of past))) n.waits
    (reading_now s i) s.notes.choice
    ∙ ap₂ (λ r c. grown i.heard
    (λ q. is_open_ask q (reading_next past i) (map (next_of past i) (presses_of past))) r c)
    n.reading k.choice)

-- What is kept after a turn says what the evening says with that turn.
pub step-after : (past : List Turn) (s : Station) (i : Input) (m : Made) → IsAfter past s → Makes s i m
    → IsKept (turn_of i m.step ∷ past) m.notes (reading_now s i) (relayed_with i.heard i.at s.relay) m.seen.items
    m.failed.items (kept_with m.shown s.views.items)
step-after past s i m k makes =
    let t = turn_of i m.step in
    let n = noted past s k i in
    let h = heard-kept past s k i in
    let r = reading_next past i in
    let f = next_of past i in
    let press = option_map f s.notes.press in
    let beside = if_open r (option_map f s.notes.beside) in
    let sent = sent_press i.heard i.at r m.step.send in
    let keeps = sent_by_heard i.heard i.at m.step.send r press beside (map f (presses_of past)) h.opened h.beside_is
    (λ view b e g. leaves_next past i b s.notes.press s.notes.beside
    (sent_leaves past s k i makes.due (noted_now s i).next_ask m.step.send makes.send view b e g)) in
    let ep : m.notes.press ≡ press_after sent press =
    ap (λ (x : Notes). x.press) makes.notes
    ∙ ap (λ x. press_after (sent_press i.heard i.at x m.step.send) (noted_now s i).press) n.reading
    ∙ ap (press_after sent) n.press in
    let before = option_map f s.notes.before in
    let ef : m.notes.before ≡ before_after sent press before =
    ap (λ (x : Notes). x.before) makes.notes
    ∙ ap (λ x. before_after (sent_press i.heard i.at x m.step.send) (noted_now s i).press (noted_now s i).before)
    n.reading
    ∙ ap₂ (λ p b. before_after sent p b) n.press n.before in
    let es : m.notes.acknowledged ≡ acknowledged_of (t ∷ past) =
    ap (λ (x : Notes). x.acknowledged) makes.notes
    ∙ ap₂ (λ v o. acknowledged_by i.heard i.at v o) k.views k.acknowledged in
    let eb : m.notes.beside ≡ beside_after r sent press beside =
    ap (λ (x : Notes). x.beside) makes.notes
    ∙ ap (λ x. beside_after x (sent_press i.heard i.at x m.step.send) (noted_now s i).press (noted_now s i).beside)
    n.reading
    ∙ ap₂ (λ p b. beside_after r sent p b) n.press n.beside in
    record {
      number = ap (λ (x : Notes). x.number) makes.notes ∙ ap (λ v. v + 1) k.number ∙ add-one (length past);
      asks = ap (λ (x : Notes). x.next_ask) makes.notes ∙ ap (ask_after m.step.send) k.asks;
      reading = n.reading;
      answered = ap (λ (x : Notes). x.answered) makes.notes ∙ n.answered;
      question = ap (λ (x : Notes). x.question) makes.notes ∙ ap (question_with m.step.send i.at) k.question;
      nobody = ap (λ (x : Notes). x.nobody) makes.notes
          ∙ ap₂ (λ q o. nobody_by (option_map (λ (x : Question). x.ask) q) i.heard o) k.question k.nobody;
      trouble = ap (λ (x : Notes). x.trouble) makes.notes ∙ ap (trouble_with i.heard) k.trouble;
      differs = ap (λ (x : Notes). x.differs) makes.notes
          ∙ ap₂ (λ a o. lasting (differs_by i.at a o) i.at s.notes.differs) n.answered n.reading
          ∙ ap (lasting (differs_by i.at (answered_next past i) r) i.at) k.differs;
      failed = makes.failed
          ∙ ap₂ (λ a o. failed_after a o (with_kept i.heard s.failed.items)) es n.reading
          ∙ ap (λ l. failed_after (acknowledged_of (t ∷ past)) r (with_kept i.heard l)) k.failed;
      acknowledged = es;
      relay = ap (relayed_with i.heard i.at) k.relay;
      since = λ q. ap (λ v. since_in v q) makes.seen
          ∙ ap (λ o. since_in (seen_after s.seen.items i.at o) q) n.reading
          ∙ since-seen s.seen.items i.at q (seen_since q past) (k.since q) r;
      given = λ q. ap (λ v. given_in v q) makes.seen
          ∙ ap (λ o. given_in (seen_after s.seen.items i.at o) q) n.reading
          ∙ given-seen s.seen.items i.at q (given_since q past) (k.given q) r;
      choice = ap (λ (x : Notes). x.choice) makes.notes ∙ ap (chosen_by_sending m.step.send) (choice-kept past s k i);
      moved = ap (λ (x : Notes). x.moved) makes.notes
          ∙ ap₂ (λ o v. moved_by m.step.send (place_by o) v) n.reading k.moved;
      views = ap (λ x. kept_with x s.views.items) makes.shown ∙ ap (kept_with (shown_in m.step.view)) k.views
          ∙ take_front KEPT_VIEWS (kept_in t) (map kept_in past);
      press = ep ∙ newest-sent sent f s.notes.press (presses_of past) k.press;
      before = ef ∙ second-sent sent f s.notes.press s.notes.before (presses_of past) k.press k.before;
      opened = ap₂ (λ p b. open_in r p b) ep eb ∙ keeps.opened;
      beside = ap₂ (λ p b. is_beside p b) ep eb ∙ keeps.beside_is;
    }
