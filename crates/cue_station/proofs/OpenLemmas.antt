-- What is open stays so only as long as nothing closes it; and what is kept beside a new press.
use Rattle.std.proofs.Common.{◌≡◌, refl, sym, ap, ◌∙◌, subst, ℕ, ◌<◌, ◌≤◌, Bool, true, false, not, ◌&&◌, ◌||◌, cond, max, List}
use Rattle.std.proofs.Common.{[], ◌∷◌, ◌++◌, map}
use Rattle.std.proofs.Common.{Option, None, Some, is_none, is_some, nat_le, nat_lt, IsTrue, arith, inl, inr, ◌⊎◌, ⊎_elim, option_map}
use Rattle.std.proofs.Common.{option_to_list}
use Rattle.std.proofs.lemmas.Bool.{leb-true, lt-ltb, ltb-true}
use Rattle.cue_show.proofs.TestLemmas.{both, cases, join, not_so}
use Rattle.cue_view.specs.declared.button.Button.{Button}
use Rattle.cue_view.specs.declared.button.Button.TheVariants as button
use Rattle.cue_station.specs.declared.heard.Copied.{Copied}
use Rattle.cue_station.specs.declared.heard.Heard.{Heard}
use Rattle.cue_station.specs.declared.heard.Heard.TheVariants as heard
use Rattle.cue_station.specs.declared.lighting.Footing.{Footing}
use Rattle.cue_station.specs.declared.memory.Answered.{Answered}
use Rattle.cue_station.specs.declared.memory.Pending.{Pending}
use Rattle.cue_station.specs.declared.memory.Reading.{Reading}
use Rattle.cue_station.specs.declared.memory.Word.{Word}
use Rattle.cue_view.specs.declared.view.Became.{Became}
use Rattle.cue_station.specs.Asking.{first_of, followed, going_by, if_open, is_final, is_open, is_read_later}
use Rattle.cue_station.specs.Asking.{newest_of, only, second_of}
use Rattle.cue_station.specs.Memory.{is_beside, is_cancel}
use Rattle.cue_station.specs.Noting.{before_after, press_after}
use Rattle.cue_station.specs.Opening.{is_some_final}
use Rattle.cue_station.specs.Reading.{read_with}
use Rattle.cue_station.proofs.PressLemmas.{newest-map, second-map, two}

-- ---- the copy grows younger

-- the copy that is known is not replaced by an older one
pub record Rises (r : Reading) (new : Option Reading) : Type 0 where
  pub next : Reading
  pub is : new ≡ Some next
  pub later : r.at ≤ next.at

rises_copied : (c : Copied) (r : Reading) (b : Bool) → nat_le r.at c.begun ≡ b
    → Rises r (cond b (Some (record { at = c.begun; copy = c })) (Some r))
rises_copied c r true e =
    record { next = record { at = c.begun; copy = c }; is = refl; later = leb-true r.at c.begun e }
rises_copied c r false e = record { next = r; is = refl; later = omega arith }

rises_same : (begun : ℕ) (r : Reading) → r.at ≤ max r.at begun
rises_same begun r = omega arith

pub rises : (h : Heard) (r : Reading) → Rises r (read_with h (Some r))
rises (heard.Copied c) r = rises_copied c r (nat_le r.at c.begun) refl
rises (heard.Same begun) r =
    record { next = record { at = max r.at begun; copy = r.copy }; is = refl; later = rises_same begun r }
rises (heard.Unread why) r = record { next = r; is = refl; later = omega arith }
rises (heard.Replied n a) r = record { next = r; is = refl; later = omega arith }
rises (heard.Nobody n) r = record { next = r; is = refl; later = omega arith }
rises (heard.Pressed v b) r = record { next = r; is = refl; later = omega arith }
rises (heard.Relay s) r = record { next = r; is = refl; later = omega arith }
rises (heard.Kept k) r = record { next = r; is = refl; later = omega arith }
rises heard.Tick r = record { next = r; is = refl; later = omega arith }

-- ---- what is open was open

later_unread : (m x y : ℕ) → x ≤ y → IsTrue (not (nat_lt m y)) → IsTrue (not (nat_lt m x))
later_unread m x y e h =
    ⊎_elim
    (λ (k : nat_lt m x ≡ true).
    let low : m < x = ltb-true m x k in
    let high : m < y = omega arith in
    absurd (cc (not_so (nat_lt m y) h, lt-ltb m y high)))
    (λ (k : nat_lt m x ≡ false). ap not k)
    (cases (nat_lt m x))

unread_before : (answer new : Option Word) (h : Heard) (r : Option Reading)
    → IsTrue (not (is_read_later (first_of answer new) (read_with h r))) → IsTrue (not (is_read_later answer r))
unread_before None new h r k = refl
unread_before (Some w) new h None k = refl
unread_before (Some w) new h (Some r) k =
    let up = rises h r in
    later_unread w.at r.at up.next.at up.later (subst (λ o. IsTrue (not (is_read_later (Some w) o))) up.is k)

unsettled_before : (settled new : Option Became) → IsTrue (is_none (first_of settled new)) → IsTrue (is_none settled)
unsettled_before None new k = refl
unsettled_before (Some b) new k = k

-- what is open once this was heard was open before
pub was_open : (h : Heard) (at : ℕ) (a : Option Answered) (r : Option Reading) (p : Pending)
    → is_open (read_with h r) (followed h at a (read_with h r) p) ≡ true → is_open r p ≡ true
was_open h at a r p k =
    let next = followed h at a (read_with h r) p in
    let e = both (not (is_read_later next.answer (read_with h r))) (is_none next.settled) k in
    join (not (is_read_later p.answer r)) (is_none p.settled) (unread_before p.answer _ h r e.0)
    (unsettled_before p.settled _ e.1)

-- ---- a press beside the newest one

beside_only : (q : Pending → Bool) (f : Pending → Pending) → ((x : Pending) → is_cancel (f x).button ≡ is_cancel x.button)
    → (press : Option Pending) (y : Pending) → is_beside press (Some y) ≡ true → (b : Bool)
    → is_beside (option_map f press) (cond b (Some (f y)) None) ≡ true
beside_only q f same press y h false = refl
beside_only q f same None y h true = h
beside_only q f same (Some x) y h true = same x ∙ h

-- the press beside the newest one, once both were followed
pub beside_followed : (q : Pending → Bool) (f : Pending → Pending)
    → ((x : Pending) → is_cancel (f x).button ≡ is_cancel x.button) → (press beside : Option Pending)
    → is_beside press beside ≡ true → is_beside (option_map f press) (only q (option_map f beside)) ≡ true
beside_followed q f same press None h = refl
beside_followed q f same press (Some y) h = beside_only q f same press y h (q (f y))

-- ---- what a press leaves open

-- no press is open, or this is a CANCEL, and no go and no cancel is open or the last press is an open GO
abbrev pub leaves : Footing → Button → Bool
leaves f (button.Cancel c q) = f.is_calm || is_some f.going
leaves f (button.Go c q) = f.is_quiet
leaves f (button.Standby c) = f.is_quiet
leaves f (button.Release q d) = f.is_quiet
leaves f (button.MoveTo c) = f.is_quiet
leaves f (button.Choose q) = f.is_quiet
leaves f (button.Seen q) = f.is_quiet

-- none of the two is open, or the button is a cancel and one of them is not
pub record LeavesOne (b : Button) (press beside : Option Pending) : Type 0 where
  pub one : (press ≡ None) ⊎ (beside ≡ None)
  pub final : (is_cancel b ≡ true) ⊎ ((press ≡ None) × (beside ≡ None))

none_is : (o : Option Pending) → IsTrue (is_none o) → o ≡ None
none_is None h = refl
none_is (Some x) h = (cc)

leaves_quiet : (b : Button) (press beside : Option Pending) → IsTrue (is_none press && is_none beside)
    → LeavesOne b press beside
leaves_quiet b press beside h =
    let e = both (is_none press) (is_none beside) h in
    record {
      one = inl (none_is press e.0);
      final = inr (none_is press e.0, none_is beside e.1);
    }

calm_closed : (x : Pending) (b : Bool) → is_final x.button ≡ true
    → IsTrue (not (is_some_final (cond b (Some x) None))) → cond b (Some x) None ≡ None
calm_closed x true f h = absurd (cc (f, not_so (is_final x.button) h))
calm_closed x false f h = refl

cancel_final : (b : Button) → is_cancel b ≡ true → is_final b ≡ true
cancel_final (button.Cancel c q) h = refl
cancel_final (button.Go c q) h = refl
cancel_final (button.Standby c) h = (cc)
cancel_final (button.Release q d) h = (cc)
cancel_final (button.MoveTo c) h = (cc)
cancel_final (button.Choose q) h = (cc)
cancel_final (button.Seen q) h = (cc)

leaves_calm : (c : List ℕ) (q : ℕ) (r : Option Reading) (press beside : Option Pending) → is_beside press beside ≡ true
    → IsTrue (not (is_some_final (if_open r press)) && not (is_some_final beside))
    → LeavesOne (button.Cancel c q) (if_open r press) beside
leaves_calm c q r press None k h = record { one = inr refl; final = inl refl }
leaves_calm c q r None (Some y) k h = (cc)
leaves_calm c q r (Some x) (Some y) k h =
    let e = both (not (is_some_final (if_open r (Some x)))) (not (is_some_final (Some y))) h in
    record { one = inl (calm_closed x (is_open r x) (cancel_final x.button k) e.0); final = inl refl }

-- the last press is an open GO, so nothing is open beside it
go_alone : (b : Button) (t : Bool) (p : Pending) → is_cancel b ≡ true → p.button ≡ b
    → going_by (cond t (Some p) None) ≡ None
go_alone (button.Cancel c q) true p h e = rw e refl
go_alone (button.Cancel c q) false p h e = refl
go_alone (button.Go c q) t p h e = (cc)
go_alone (button.Standby c) t p h e = (cc)
go_alone (button.Release q d) t p h e = (cc)
go_alone (button.MoveTo c) t p h e = (cc)
go_alone (button.Choose q) t p h e = (cc)
go_alone (button.Seen q) t p h e = (cc)

leaves_going : (c : List ℕ) (q : ℕ) (r : Option Reading) (press beside : Option Pending) → is_beside press beside ≡ true
    → IsTrue (is_some (going_by (if_open r press))) → LeavesOne (button.Cancel c q) (if_open r press) beside
leaves_going c q r press None k h = record { one = inr refl; final = inl refl }
leaves_going c q r None (Some y) k h = (cc)
leaves_going c q r (Some x) (Some y) k h = absurd (cc (h, go_alone x.button (is_open r x) x k refl))

leaves_cancel : (c : List ℕ) (q : ℕ) (r : Option Reading) (press beside : Option Pending)
    → is_beside press beside ≡ true
    → IsTrue ((not (is_some_final (if_open r press)) && not (is_some_final beside))
    || is_some (going_by (if_open r press)))
    → LeavesOne (button.Cancel c q) (if_open r press) beside
leaves_cancel c q r press beside k h =
    let calm = not (is_some_final (if_open r press)) && not (is_some_final beside) in
    ⊎_elim
    (λ (e : calm ≡ true). leaves_calm c q r press beside k e)
    (λ (e : calm ≡ false).
    leaves_going c q r press beside k (ap (λ b. b || is_some (going_by (if_open r press))) (sym e) ∙ h))
    (cases calm)

pub leaves_one : (b : Button) (f : Footing) (r : Option Reading) (press beside : Option Pending)
    → is_beside press beside ≡ true
    → f.is_quiet ≡ (is_none (if_open r press) && is_none beside)
    → f.is_calm ≡ (not (is_some_final (if_open r press)) && not (is_some_final beside))
    → f.going ≡ going_by (if_open r press)
    → IsTrue (leaves f b) → LeavesOne b (if_open r press) beside
leaves_one (button.Cancel c q) f r press beside k quiet calm going h =
    leaves_cancel c q r press beside k
    (ap (λ b. b || is_some (going_by (if_open r press))) (sym calm)
    ∙ ap (λ o. f.is_calm || is_some o) (sym going) ∙ h)
leaves_one (button.Go c q) f r press beside k quiet calm going h =
    leaves_quiet (button.Go c q) (if_open r press) beside (sym quiet ∙ h)
leaves_one (button.Standby c) f r press beside k quiet calm going h =
    leaves_quiet (button.Standby c) (if_open r press) beside (sym quiet ∙ h)
leaves_one (button.Release q d) f r press beside k quiet calm going h =
    leaves_quiet (button.Release q d) (if_open r press) beside (sym quiet ∙ h)
leaves_one (button.MoveTo c) f r press beside k quiet calm going h =
    leaves_quiet (button.MoveTo c) (if_open r press) beside (sym quiet ∙ h)
leaves_one (button.Choose q) f r press beside k quiet calm going h =
    leaves_quiet (button.Choose q) (if_open r press) beside (sym quiet ∙ h)
leaves_one (button.Seen q) f r press beside k quiet calm going h =
    leaves_quiet (button.Seen q) (if_open r press) beside (sym quiet ∙ h)

-- ---- a new press

-- the two that are kept, as one where at most one is there
pub first_two : (one other : Option Pending) → (one ≡ None) ⊎ (other ≡ None)
    → option_to_list (first_of one other) ≡ two one other
first_two None other h = refl
first_two (Some x) None h = refl
first_two (Some x) (Some y) h = ⊎_elim (λ (e : Some x ≡ None). absurd (cc)) (λ (e : Some y ≡ None). absurd (cc)) h

-- it was closed before, so it is closed now
pub still_closed : (f : Pending → Pending) (p q : Pending → Bool) → ((x : Pending) → q (f x) ≡ true → p x ≡ true)
    → (press : Option Pending) → only p press ≡ None → only q (option_map f press) ≡ None
still_closed f p q h None e = refl
still_closed f p q h (Some x) e =
    ⊎_elim
    (λ (k : q (f x) ≡ true).
    let was : cond (p x) (Some x) None ≡ Some x = ap (λ b. cond b (Some x) None) (h x k) in
    absurd (cc (was, e)))
    (λ (k : q (f x) ≡ false). ap (λ b. cond b (Some (f x)) None) k)
    (cases (q (f x)))

pub gone_beside : (f : Pending → Pending) (q : Pending → Bool) (beside : Option Pending) → beside ≡ None
    → only q (option_map f beside) ≡ None
gone_beside f q beside e = ap (λ o. only q (option_map f o)) e

-- of the two that were kept at most one is open now
pub one_open : (f : Pending → Pending) (p q : Pending → Bool) → ((x : Pending) → q (f x) ≡ true → p x ≡ true)
    → (press beside : Option Pending) → (only p press ≡ None) ⊎ (beside ≡ None)
    → (only q (option_map f press) ≡ None) ⊎ (only q (option_map f beside) ≡ None)
one_open f p q h press beside e =
    ⊎_elim
    (λ (k : only p press ≡ None). inl (still_closed f p q h press k))
    (λ (k : beside ≡ None). inr (gone_beside f q beside k)) e

-- the newest press, where one may be sent
pub newest-sent : (sent : List Pending) (f : Pending → Pending) (press : Option Pending) (xs : List Pending)
    → press ≡ newest_of xs → press_after sent (option_map f press) ≡ newest_of (sent ++ map f xs)
newest-sent [] f press xs e = newest-map f press xs e
newest-sent (p ∷ ps) f press xs e = refl

pub second-sent : (sent : List Pending) (f : Pending → Pending) (press before : Option Pending) (xs : List Pending)
    → press ≡ newest_of xs → before ≡ second_of xs
    → before_after sent (option_map f press) (option_map f before) ≡ second_of (sent ++ map f xs)
second-sent [] f press before xs e k = second-map f before xs k
second-sent (p ∷ ps) f press before xs e k = newest-sent ps f press xs e
