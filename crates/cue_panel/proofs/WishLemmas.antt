-- What a wish presses, and when it ends.
use Rattle.std.proofs.Common.{◌≡◌, ◌∙◌, refl, sym, ap, subst, inl, inr, arith, ℕ, ◌+◌, ◌<◌, ◌≤◌, ◌⊎◌, Bool, true, false}
use Rattle.std.proofs.Common.{not, ◌&&◌, ◌||◌, if◌then◌else◌, List, [], ◌∷◌, ◌++◌, Option, None, Some, Result, Ok, Err}
use Rattle.std.proofs.Common.{nat_lt}
use Rattle.std.proofs.lemmas.Bool.Decides.{nat_tests}
use Rattle.cue_panel.specs.Lit.{is_lit}
use Rattle.cue_panel.specs.Pending.{is_open}
use Rattle.cue_panel.specs.WishLaws.{AreMeant, BecameIsSent, EachIsMeant, EndsInTime, EndsOnceSent, IsMeantBy}
use Rattle.cue_panel.specs.WishLaws.{MeantIf, NothingAfter, SentOnce, Turn, after_press, after_turn, count_of, end_by}
use Rattle.cue_panel.specs.WishLaws.{end_with, is_trying, listed, press_by, pressed, pressed_in, sent, sent_by}
use Rattle.cue_panel.specs.WishLaws.{wish_at}
use Rattle.cue_panel.specs.Wishing.{act_after, act_at, act_of, after_act, after_came, attempt_by, became_of}
use Rattle.cue_panel.specs.Wishing.{hindered}
use Rattle.cue_panel.specs.Wishing.{is_settled, settle, unmeant}
use Rattle.cue_panel.specs.declared.outcome.Outcome.{Outcome}
use Rattle.cue_panel.specs.declared.outcome.Outcome.TheVariants as outcome
use Rattle.cue_panel.specs.declared.wish.Act.{Act}
use Rattle.cue_panel.specs.declared.wish.Act.TheVariants as act
use Rattle.cue_panel.specs.declared.wish.End.{End}
use Rattle.cue_panel.specs.declared.wish.End.TheVariants as end
use Rattle.cue_panel.specs.declared.wish.Hindrance.{Hindrance}
use Rattle.cue_panel.specs.declared.wish.Hindrance.TheVariants as hindrance
use Rattle.cue_panel.specs.declared.wish.Stage.{Stage}
use Rattle.cue_panel.specs.declared.wish.Stage.TheVariants as stage
use Rattle.cue_panel.specs.declared.wish.Wish.{Wish}
use Rattle.cue_presses.specs.Meaning.{is_hopeless, meaning}
use Rattle.cue_presses.specs.declared.intent.Intent.{Intent}
use Rattle.cue_presses.specs.declared.pressing.Press.{Press}
use Rattle.cue_presses.specs.declared.pressing.Why.{Why}
use Rattle.cue_view.specs.declared.view.Became.{Became}
use Rattle.cue_view.specs.declared.view.View.{View}

-- ---- one that is tried no more

-- what an act leaves, of a wish that is tried no more
after-act-over : (a : Act) (w : Wish) → is_trying w.stage ≡ false → is_trying (after_act a w).stage ≡ false
after-act-over (act.Press p) w e = e
after-act-over act.Wait w e = e
after-act-over (act.End x) w e = refl

settle-none : (b : Became) (over : Bool) → press_by (settle b over) ≡ None
settle-none b over = by (not (is_open b) || over)
  where
    by : (t : Bool) → press_by (if t then act.End (end.Became b) else act.Wait) ≡ None
    by true = refl
    by false = refl

none-at : (s : Stage) (w : Wish) (t : Turn) → is_trying s ≡ false → press_by (act_at s w t.now t.view) ≡ None
none-at stage.Trying w t e = cc
none-at (stage.Sent ask until) w t e = settle-none (became_of t.view ask) (nat_lt until t.now)
none-at stage.Over w t e = refl

-- a turn of it presses nothing, and leaves it so
none-in : (w : Wish) (t : Turn) → is_trying w.stage ≡ false → pressed_in w t ≡ None
none-in w t e = none-at w.stage w t e

stays-over : (w : Wish) (t : Turn) → is_trying w.stage ≡ false → is_trying (after_turn w t).stage ≡ false
stays-over w t e =
    ap (λ (o : Option Press). is_trying (after_press o t (after_act (act_of w t.now t.view) w)).stage) (none-in w t e)
    ∙ after-act-over (act_of w t.now t.view) w e

pub nothing-after : NothingAfter
nothing-after w [] e = refl
nothing-after w (t ∷ ts) e =
    ap (λ (o : Option Press). listed o ++ pressed (after_turn w t) ts) (none-in w t e)
    ∙ nothing-after (after_turn w t) ts (stays-over w t e)

-- ---- it is sent once

sum-is : (a b n m : ℕ) → a ≡ n → b ≡ m → a + b ≡ n + m
sum-is a b n m e f = omega arith

none-sent : (w : Wish) (ts : List Turn) → is_trying w.stage ≡ false → sent w ts ≡ 0
none-sent w [] e = refl
none-sent w (t ∷ ts) e =
    sum-is (sent_by (pressed_in w t) t.outcome) (sent (after_turn w t) ts) 0 0
    (ap (λ (o : Option Press). sent_by o t.outcome) (none-in w t e))
    (none-sent (after_turn w t) ts (stays-over w t e))

-- a turn sends nothing, or it is tried no more
sends-last : (o : Option Press) (c : Outcome) (t : Turn) (w : Wish) → t.outcome ≡ c
    → (sent_by o c ≡ 0) ⊎ ((sent_by o c ≡ 1) × (is_trying (after_press o t w).stage ≡ false))
sends-last None c t w e = inl refl
sends-last (Some p) (outcome.Sent ask) t w e =
    inr (refl, ap (λ (x : Outcome). is_trying (after_came w t.now x).stage) e)
sends-last (Some p) (outcome.Unsent u) t w e = inl refl
sends-last (Some p) outcome.Unheard t w e = inl refl

sum-none : (a b : ℕ) → a ≡ 0 → b ≤ 1 → a + b ≤ 1
sum-none a b e p = omega arith

sum-one : (a b : ℕ) → a ≡ 1 → b ≡ 0 → a + b ≤ 1
sum-one a b e p = omega arith

pub sent-once : SentOnce
sent-once w [] = omega arith
sent-once w (t ∷ ts) =
    by (sends-last (pressed_in w t) t.outcome t (after_act (act_of w t.now t.view) w) refl)
    (sent-once (after_turn w t) ts)
  where
    by : (sent_by (pressed_in w t) t.outcome ≡ 0)
        ⊎ ((sent_by (pressed_in w t) t.outcome ≡ 1) × (is_trying (after_turn w t).stage ≡ false))
        → sent (after_turn w t) ts ≤ 1 → sent w (t ∷ ts) ≤ 1
    by (inl e) most = sum-none (sent_by (pressed_in w t) t.outcome) (sent (after_turn w t) ts) e most
    by (inr e) most =
        sum-one (sent_by (pressed_in w t) t.outcome) (sent (after_turn w t) ts) e.0
        (none-sent (after_turn w t) ts e.1)

-- ---- it is what was meant

hindered-none : (over : Bool) (h : Hindrance) → press_by (hindered over h) ≡ None
hindered-none true h = refl
hindered-none false h = refl

unmeant-none : (w : Wish) (over : Bool) (v : View) (y : Why) → press_by (unmeant w over v y) ≡ None
unmeant-none w over v y = by (not (is_settled v)) (w.waits && not (is_hopeless v w.intent y))
  where
    by : (a b : Bool) → press_by (if a then hindered over hindrance.Dark
        else if b then hindered over (hindrance.Why y) else act.End (end.Refused y)) ≡ None
    by true b = hindered-none over hindrance.Dark
    by false true = hindered-none over (hindrance.Why y)
    by false false = refl

none-some : (o : Option Press) (p : Press) → o ≡ None → o ≡ Some p → ⊥
none-some None p a b = cc
none-some (Some q) p a b = cc

lit-meant : (i : Intent) (v : View) (p q : Press) (over l : Bool) → is_lit v q ≡ l → meaning v None i ≡ Ok q
    → press_by (if l then act.Press q else hindered over hindrance.Dark) ≡ Some p → IsMeantBy i v p
lit-meant i v p q over true e m z =
    let same : q ≡ p = cc in
    record {
      meant = m ∙ ap (λ (x : Press). Ok x) same;
      lit = ap (λ (x : Press). is_lit v x) (sym same) ∙ e;
    }
lit-meant i v p q over false e m z =
    absurd (none-some (press_by (hindered over hindrance.Dark)) p (hindered-none over hindrance.Dark) z)

attempt-meant : (w : Wish) (v : View) (p : Press) (over : Bool) (m : Result Press Why) → meaning v None w.intent ≡ m
    → press_by (attempt_by m w over v) ≡ Some p → IsMeantBy w.intent v p
attempt-meant w v p over (Ok q) e z = lit-meant w.intent v p q over (is_lit v q) refl e z
attempt-meant w v p over (Err y) e z =
    absurd (none-some (press_by (unmeant w over v y)) p (unmeant-none w over v y) z)

press-meant : (s : Stage) (w : Wish) (t : Turn) (p : Press) → press_by (act_at s w t.now t.view) ≡ Some p
    → IsMeantBy w.intent t.view p
press-meant stage.Trying w t p z =
    attempt-meant w t.view p (nat_lt w.until t.now) (meaning t.view None w.intent) refl z
press-meant (stage.Sent ask until) w t p z =
    absurd (none-some (press_by (settle (became_of t.view ask) (nat_lt until t.now))) p
    (settle-none (became_of t.view ask) (nat_lt until t.now)) z)
press-meant stage.Over w t p z = absurd (none-some None p refl z)

meant-if : (w : Wish) (t : Turn) (o : Option Press) → pressed_in w t ≡ o → MeantIf w.intent t.view o
meant-if w t None e = tt
meant-if w t (Some p) e = press-meant w.stage w t p e

-- the intent stays
act-intent : (a : Act) (w : Wish) → (after_act a w).intent ≡ w.intent
act-intent (act.Press p) w = refl
act-intent act.Wait w = refl
act-intent (act.End x) w = refl

came-intent : (now : ℕ) (c : Outcome) (w : Wish) → (after_came w now c).intent ≡ w.intent
came-intent now (outcome.Sent ask) w = refl
came-intent now (outcome.Unsent u) w = act-intent (hindered (nat_lt w.until now) (hindrance.Unsent u)) w
came-intent now outcome.Unheard w = act-intent (hindered (nat_lt w.until now) hindrance.Dark) w

press-intent : (o : Option Press) (t : Turn) (w : Wish) → (after_press o t w).intent ≡ w.intent
press-intent None t w = refl
press-intent (Some p) t w = came-intent t.now t.outcome w

turn-intent : (w : Wish) (t : Turn) → (after_turn w t).intent ≡ w.intent
turn-intent w t =
    press-intent (pressed_in w t) t (after_act (act_of w t.now t.view) w) ∙ act-intent (act_of w t.now t.view) w

are-meant : (i : Intent) (w : Wish) (ts : List Turn) → w.intent ≡ i → AreMeant i w ts
are-meant i w [] e = tt
are-meant i w (t ∷ ts) e = (
  subst (λ (x : Intent). MeantIf x t.view (pressed_in w t)) e (meant-if w t (pressed_in w t) refl),
  are-meant i (after_turn w t) ts (turn-intent w t ∙ e),
)

pub each-is_meant : EachIsMeant
each-is_meant w ts = are-meant w.intent w ts refl

-- ---- it ends

-- what is done once its time is over
came-over : (w : Wish) (now : ℕ) (c : Outcome) → nat_lt w.until now ≡ true
    → is_trying (after_came w now c).stage ≡ false
came-over w now (outcome.Sent ask) e = refl
came-over w now (outcome.Unsent u) e =
    ap (λ (b : Bool). is_trying (after_act (hindered b (hindrance.Unsent u)) w).stage) e
came-over w now outcome.Unheard e =
    ap (λ (b : Bool). is_trying (after_act (hindered b hindrance.Dark) w).stage) e

-- an act that is none of waiting leaves it untried, whatever comes of the press
abbrev is_final : Act → Bool
is_final (act.Press p) = true
is_final (act.End x) = true
is_final act.Wait = false

final-over : (a : Act) (w : Wish) (t : Turn) → is_final a ≡ true → nat_lt w.until t.now ≡ true
    → is_trying (after_press (press_by a) t (after_act a w)).stage ≡ false
final-over (act.Press p) w t f e = came-over w t.now t.outcome e
final-over (act.End x) w t f e = refl
final-over act.Wait w t f e = cc

unmeant-final : (w : Wish) (v : View) (y : Why) → is_final (unmeant w true v y) ≡ true
unmeant-final w v y = by (not (is_settled v)) (w.waits && not (is_hopeless v w.intent y))
  where
    by : (a b : Bool) → is_final (if a then hindered true hindrance.Dark
        else if b then hindered true (hindrance.Why y) else act.End (end.Refused y)) ≡ true
    by true b = refl
    by false true = refl
    by false false = refl

lit-final : (q : Press) (l : Bool) → is_final (if l then act.Press q else hindered true hindrance.Dark) ≡ true
lit-final q true = refl
lit-final q false = refl

attempt-final : (w : Wish) (v : View) (m : Result Press Why) → is_final (attempt_by m w true v) ≡ true
attempt-final w v (Ok q) = lit-final q (is_lit v q)
attempt-final w v (Err y) = unmeant-final w v y

act-final : (w : Wish) (t : Turn) (s : Stage) → nat_lt w.until t.now ≡ true → is_trying s ≡ true
    → is_final (act_at s w t.now t.view) ≡ true
act-final w t stage.Trying e trying =
    ap (λ (b : Bool). is_final (attempt_by (meaning t.view None w.intent) w b t.view)) e
    ∙ attempt-final w t.view (meaning t.view None w.intent)
act-final w t (stage.Sent ask until) e trying = cc
act-final w t stage.Over e trying = cc

is-past : (until now : ℕ) → until < now → nat_lt until now ≡ true
is-past until now e = by (nat_lt until now) refl
  where
    by : (b : Bool) → nat_lt until now ≡ b → b ≡ true
    by true h = refl
    by false h = absurd (grind (arith, nat_tests, h, e))

pub ends-in_time : EndsInTime
ends-in_time w t past = by (is_trying w.stage) refl
  where
    by : (b : Bool) → is_trying w.stage ≡ b → is_trying (after_turn w t).stage ≡ false
    by false e = stays-over w t e
    by true e =
        let p : nat_lt w.until t.now ≡ true = is-past w.until t.now past in
        final-over (act_of w t.now t.view) w t (act-final w t w.stage p e) p

settle-over : (b : Became) → settle b true ≡ act.End (end.Became b)
settle-over b = by (not (is_open b))
  where
    by : (t : Bool) → (if t || true then act.End (end.Became b) else act.Wait) ≡ act.End (end.Became b)
    by true = refl
    by false = refl

sent-over : (w : Wish) (t : Turn) (ask until : ℕ) (a : Act) → nat_lt until t.now ≡ true
    → a ≡ settle (became_of t.view ask) (nat_lt until t.now)
    → (after_press (press_by a) t (after_act a w)).stage ≡ stage.Over
sent-over w t ask until a e is =
    ap (λ (x : Act). (after_press (press_by x) t (after_act x w)).stage)
    (is ∙ ap (λ (b : Bool). settle (became_of t.view ask) b) e ∙ settle-over (became_of t.view ask))

pub ends-once_sent : EndsOnceSent
ends-once_sent w t ask until e past =
    sent-over w t ask until (act_of w t.now t.view) (is-past until t.now past)
    (ap (λ (s : Stage). act_at s w t.now t.view) e)

-- ---- who is told what became of it

abbrev is_waiting : Stage → Bool
is_waiting stage.Trying = false
is_waiting (stage.Sent ask until) = true
is_waiting stage.Over = false

abbrev is_over : Stage → Bool
is_over stage.Trying = false
is_over (stage.Sent ask until) = false
is_over stage.Over = true

true-false : (x : Bool) → x ≡ true → x ≡ false → ⊥
true-false true a b = cc
true-false false a b = cc

-- an end that says what became of it
abbrev is_became : Option End → Bool
is_became (Some (end.Became b)) = true
is_became (Some (end.Refused y)) = false
is_became (Some (end.Hindered h)) = false
is_became None = false

hindered-not : (over : Bool) (h : Hindrance) → is_became (end_by (hindered over h)) ≡ false
hindered-not true h = refl
hindered-not false h = refl

after-not : (w : Wish) (now : ℕ) (c : Outcome) → is_became (end_by (act_after w now c)) ≡ false
after-not w now (outcome.Sent ask) = refl
after-not w now (outcome.Unsent u) = hindered-not (nat_lt w.until now) (hindrance.Unsent u)
after-not w now outcome.Unheard = hindered-not (nat_lt w.until now) hindrance.Dark

unmeant-not : (w : Wish) (over : Bool) (v : View) (y : Why) → is_became (end_by (unmeant w over v y)) ≡ false
unmeant-not w over v y = by (not (is_settled v)) (w.waits && not (is_hopeless v w.intent y))
  where
    by : (a b : Bool) → is_became (end_by (if a then hindered over hindrance.Dark
        else if b then hindered over (hindrance.Why y) else act.End (end.Refused y))) ≡ false
    by true b = hindered-not over hindrance.Dark
    by false true = hindered-not over (hindrance.Why y)
    by false false = refl

lit-not : (q : Press) (over l : Bool)
    → is_became (end_by (if l then act.Press q else hindered over hindrance.Dark)) ≡ false
lit-not q over true = refl
lit-not q over false = hindered-not over hindrance.Dark

attempt-not : (w : Wish) (v : View) (over : Bool) (m : Result Press Why)
    → is_became (end_by (attempt_by m w over v)) ≡ false
attempt-not w v over (Ok q) = lit-not q over (is_lit v q)
attempt-not w v over (Err y) = unmeant-not w over v y

-- only one that waits ends so
waits-by : (s : Stage) (w : Wish) (t : Turn) → is_became (end_by (act_at s w t.now t.view)) ≡ true → is_waiting s ≡ true
waits-by stage.Trying w t z =
    let not_so : is_became (end_by (act_at stage.Trying w t.now t.view)) ≡ false =
    attempt-not w t.view (nat_lt w.until t.now) (meaning t.view None w.intent) in
    sym not_so ∙ z
waits-by (stage.Sent ask until) w t z = refl
waits-by stage.Over w t z = z

waits-with : (o : Option Press) (w : Wish) (t : Turn) → is_became (end_with o w t) ≡ true → is_waiting w.stage ≡ true
waits-with None w t z = waits-by w.stage w t z
waits-with (Some p) w t z =
    absurd (true-false (is_became (end_by (act_after w t.now t.outcome))) z (after-not w t.now t.outcome))

-- a turn of one that is over leaves it so
over-turn : (s : Stage) (w : Wish) (t : Turn) → w.stage ≡ s → is_over s ≡ true
    → is_over (after_press (press_by (act_at s w t.now t.view)) t (after_act (act_at s w t.now t.view) w)).stage ≡ true
over-turn stage.Over w t e z = ap (λ (x : Stage). is_over x) e
over-turn stage.Trying w t e z = cc
over-turn (stage.Sent ask until) w t e z = cc

over-all : (w : Wish) (ts : List Turn) → is_over w.stage ≡ true → is_over (wish_at w ts).stage ≡ true
over-all w [] e = e
over-all w (t ∷ ts) e = over-all (after_turn w t) ts (over-turn w.stage w t refl e)

over-waits : (s : Stage) → is_over s ≡ true → is_waiting s ≡ true → ⊥
over-waits stage.Over a b = cc
over-waits stage.Trying a b = cc
over-waits (stage.Sent ask until) a b = cc

trying-waits : (s : Stage) → is_trying s ≡ true → is_waiting s ≡ true → ⊥
trying-waits stage.Trying a b = cc
trying-waits (stage.Sent ask until) a b = cc
trying-waits stage.Over a b = cc

-- a turn in which it begins to wait has sent it
act-waits : (a : Act) (w : Wish) → is_trying w.stage ≡ true → is_waiting (after_act a w).stage ≡ true → ⊥
act-waits (act.End x) w e z = cc
act-waits act.Wait w e z = trying-waits w.stage e z
act-waits (act.Press p) w e z = trying-waits w.stage e z

came-waits : (w : Wish) (now : ℕ) (c : Outcome) → is_trying w.stage ≡ true
    → is_waiting (after_came w now c).stage ≡ true → count_of c ≡ 1
came-waits w now (outcome.Sent ask) e z = refl
came-waits w now (outcome.Unsent u) e z =
    absurd (act-waits (hindered (nat_lt w.until now) (hindrance.Unsent u)) w e z)
came-waits w now outcome.Unheard e z = absurd (act-waits (hindered (nat_lt w.until now) hindrance.Dark) w e z)

act-trying : (a : Act) (w : Wish) (p : Press) → press_by a ≡ Some p → after_act a w ≡ w
act-trying (act.Press q) w p e = refl
act-trying act.Wait w p e = refl
act-trying (act.End x) w p e = cc

waits-sent : (w : Wish) (t : Turn) (o : Option Press) → pressed_in w t ≡ o → is_trying w.stage ≡ true
    → is_waiting (after_press o t (after_act (act_of w t.now t.view) w)).stage ≡ true → sent_by o t.outcome ≡ 1
waits-sent w t None p e z = absurd (act-waits (act_of w t.now t.view) w e z)
waits-sent w t (Some q) p e z =
    came-waits w t.now t.outcome e
    (ap (λ (x : Wish). is_waiting (after_came x t.now t.outcome).stage)
    (sym (act-trying (act_of w t.now t.view) w q p)) ∙ z)

-- of the three, a stage is one
stage-is : (s : Stage) → (is_trying s ≡ true) ⊎ ((is_waiting s ≡ true) ⊎ (is_over s ≡ true))
stage-is stage.Trying = inl refl
stage-is (stage.Sent ask until) = inr (inl refl)
stage-is stage.Over = inr (inr refl)

waiting-untried : (s : Stage) → is_waiting s ≡ true → is_trying s ≡ false
waiting-untried stage.Trying e = cc
waiting-untried (stage.Sent ask until) e = refl
waiting-untried stage.Over e = refl

-- a turn after which it is still tried has sent nothing
trying-unsent : (w : Wish) (t : Turn) → is_trying (after_turn w t).stage ≡ true
    → sent_by (pressed_in w t) t.outcome ≡ 0
trying-unsent w t e = by (sends-last (pressed_in w t) t.outcome t (after_act (act_of w t.now t.view) w) refl)
  where
    by : (sent_by (pressed_in w t) t.outcome ≡ 0)
        ⊎ ((sent_by (pressed_in w t) t.outcome ≡ 1) × (is_trying (after_turn w t).stage ≡ false))
        → sent_by (pressed_in w t) t.outcome ≡ 0
    by (inl z) = z
    by (inr z) = absurd (true-false (is_trying (after_turn w t).stage) e z.1)

-- one that is tried, and waits after a turn and those that follow, was sent
sent-by_turn : (w : Wish) (t : Turn) (ts : List Turn) → is_trying w.stage ≡ true
    → is_waiting (wish_at (after_turn w t) ts).stage ≡ true
    → (is_trying (after_turn w t).stage ≡ true → sent (after_turn w t) ts ≡ 1)
    → (is_trying (after_turn w t).stage ≡ true)
    ⊎ ((is_waiting (after_turn w t).stage ≡ true) ⊎ (is_over (after_turn w t).stage ≡ true)) → sent w (t ∷ ts) ≡ 1
sent-by_turn w t ts e z later (inl still) =
    sum-is (sent_by (pressed_in w t) t.outcome) (sent (after_turn w t) ts) 0 1 (trying-unsent w t still) (later still)
sent-by_turn w t ts e z later (inr (inl waits)) =
    sum-is (sent_by (pressed_in w t) t.outcome) (sent (after_turn w t) ts) 1 0
    (waits-sent w t (pressed_in w t) refl e waits)
    (none-sent (after_turn w t) ts (waiting-untried (after_turn w t).stage waits))
sent-by_turn w t ts e z later (inr (inr over)) =
    absurd (over-waits (wish_at (after_turn w t) ts).stage (over-all (after_turn w t) ts over) z)

-- one that waits was sent
waiting-sent : (w : Wish) (ts : List Turn) → is_trying w.stage ≡ true → is_waiting (wish_at w ts).stage ≡ true
    → sent w ts ≡ 1
waiting-sent w [] e z = absurd (trying-waits w.stage e z)
waiting-sent w (t ∷ ts) e z =
    sent-by_turn w t ts e z (λ still. waiting-sent (after_turn w t) ts still z) (stage-is (after_turn w t).stage)

sum-assoc : (a b c : ℕ) → a + (b + c) ≡ (a + b) + c
sum-assoc a b c = omega arith

sent-both : (w : Wish) (ts us : List Turn) → sent w (ts ++ us) ≡ sent w ts + sent (wish_at w ts) us
sent-both w [] us = omega arith
sent-both w (t ∷ ts) us =
    ap (λ (n : ℕ). sent_by (pressed_in w t) t.outcome + n) (sent-both (after_turn w t) ts us)
    ∙ sum-assoc (sent_by (pressed_in w t) t.outcome) (sent (after_turn w t) ts)
    (sent (wish_at (after_turn w t) ts) us)

-- the turn that tells it presses nothing
last-none : (w : Wish) (t : Turn) → is_waiting w.stage ≡ true → sent w (t ∷ []) ≡ 0
last-none w t e = none-sent w (t ∷ []) (waiting-untried w.stage e)

pub became-is_sent : BecameIsSent
became-is_sent w ts t b e z =
    let waits : is_waiting (wish_at w ts).stage ≡ true =
    waits-with (pressed_in (wish_at w ts) t) (wish_at w ts) t (ap (λ (x : Option End). is_became x) z) in
    sent-both w ts (t ∷ [])
    ∙ sum-is (sent w ts) (sent (wish_at w ts) (t ∷ [])) 1 0
    (waiting-sent w ts (ap (λ (x : Stage). is_trying x) e) waits) (last-none (wish_at w ts) t waits)
