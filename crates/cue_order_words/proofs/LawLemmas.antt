-- What is told of a command is what its reply says.
use Rattle.std.proofs.Common.{◌≡◌, ℕ, ◌≤◌, ◌<◌, Bool, true, false, cond, ◌||◌, ◌&&◌, ◌⊎◌, Option, Some, None, List}
use Rattle.std.proofs.Common.{ℤ, refl, sym, subst, inl, inr, arith, ◌+◌}
use Rattle.std.specs.Prelude.{pos, ◌+ℤ◌, ◌<ℤ◌, int_lt, nat_lt, not}
use Rattle.std.specs.Ordering.{int_eq}
use Rattle.std.proofs.lemmas.Bool.{and_parts}
use Rattle.std.proofs.lemmas.Bool.Decides.{Decides-int_eq, nat_tests}
use Rattle.std.proofs.lemmas.Int.{ints}
use Rattle.std.proofs.lemmas.Option.{none-some, same_Some}
use Rattle.cue_osc.specs.Reading.{datagram_at}
use Rattle.cue_machine.specs.Living.{Turn}
use Rattle.cue_desk.specs.declared.replying.Replied.{Replied}
use Rattle.cue_desk.specs.declared.replying.Replied.TheVariants as replied
use Rattle.cue_desk.specs.Replies.{replied_in}
use Rattle.cue_desk.specs.Together.{are_all, are_numbers, code_by, condensed, condensed_by, is_none_made, reply_of}
use Rattle.cue_ask_machine.specs.declared.machine.AskMachine.{AskMachine}
use Rattle.cue_ask_machine.specs.declared.question.Question.{Question}
use Rattle.cue_ask_machine.specs.declared.stage.AskEnd.TheVariants as end
use Rattle.cue_ask_machine.specs.Answers.{is_alone, is_of_one, of_asked, of_one, of_said}
use Rattle.cue_ask_machine.specs.Letters.{count_of, is_status, shown_of}
use Rattle.cue_ask_machine.specs.Lives.{IsTold}
use Rattle.cue_order_words.specs.declared.told.Told.{Told}
use Rattle.cue_order_words.specs.declared.told.Told.TheVariants as told
use Rattle.cue_order_words.specs.Laws.{Came, CameStatus, CountedAll, CountedMade, CountedNone, CountedSome}
use Rattle.cue_order_words.specs.Laws.{DoneIsReplied, EachIsClear, MadeIsReplied, NobodyIsSaid, PartlyIsReplied}
use Rattle.cue_order_words.specs.Laws.{RefusedIsReplied}
use Rattle.cue_order_words.specs.Told.{ending_of, told_by, told_in}

-- what is told fits what the reply says: of so many cues, or of the status, if that was asked
abbrev Fits : Bool → ℕ → Replied → Told → Type 0
Fits status count (replied.Reply m k f c) told.Made = (m +ℤ k ≡ pos count) × (pos 0 <ℤ m)
Fits status count (replied.Reply m k f c) told.Known = m +ℤ k ≡ pos count
Fits status count (replied.Reply m k f c) (told.Refused code) =
    (is_none_made m k ≡ true) × (pos 0 <ℤ f) × (c ≡ code)
Fits status count (replied.Reply m k f c) (told.Partly code) =
    (is_none_made m k ≡ false) × (m +ℤ k ≡ pos count → ⊥)
Fits status count (replied.Reply m k f c) (told.Status w) = ⊥
Fits status count (replied.Reply m k f c) told.Nobody = ⊥
Fits status count (replied.Reply m k f c) told.Silent = ⊥
Fits status count (replied.Reply m k f c) told.Unclear = ⊥
Fits status count (replied.Status u) (told.Status w) = status ≡ true
Fits status count (replied.Status u) told.Made = ⊥
Fits status count (replied.Status u) told.Known = ⊥
Fits status count (replied.Status u) (told.Refused code) = ⊥
Fits status count (replied.Status u) (told.Partly code) = ⊥
Fits status count (replied.Status u) told.Nobody = ⊥
Fits status count (replied.Status u) told.Silent = ⊥
Fits status count (replied.Status u) told.Unclear = ⊥

less : (a b : ℤ) → int_lt a b ≡ true → a <ℤ b
less a b h = grind (arith, ints)

-- ---- one command

abbrev Counts : ℤ → ℤ → ℤ → ℤ → Type 0
Counts m k f c = Fits false 1 (replied.Reply m k f c) (told_by m k f c)

-- the first number is 1, and the others are 0
alone : (n one other : ℤ) → is_alone n one other ≡ true → (n ≡ pos 1) × (one ≡ pos 0) × (other ≡ pos 0)
alone n one other h =
    let a = and_parts (int_eq n (pos 1)) (int_eq one (pos 0) && int_eq other (pos 0)) h in
    let b = and_parts (int_eq one (pos 0)) (int_eq other (pos 0)) a.1 in
    ((Decides-int_eq n (pos 1)).0 a.0, (Decides-int_eq one (pos 0)).0 b.0, (Decides-int_eq other (pos 0)).0 b.1)

counts_at : (m k f c a b d : ℤ) → m ≡ a → k ≡ b → f ≡ d → Counts a b d c → Counts m k f c
counts_at m k f c a b d em ek ef h =
    subst (λ (x : ℤ). Counts x k f c) (sym em)
    (subst (λ (x : ℤ). Counts a x f c) (sym ek) (subst (λ (x : ℤ). Counts a b x c) (sym ef) h))

sums : (m k : ℤ) (n : ℕ) → m ≡ pos n → k ≡ pos 0 → m +ℤ k ≡ pos n
sums m k n em ek = omega (arith, ints)

first_of : (a b d : Bool) → (a || (b || d)) ≡ true → (a ≡ true) ⊎ (b ≡ true) ⊎ (d ≡ true)
first_of true b d h = inl refl
first_of false true d h = inr (inl refl)
first_of false false d h = inr (inr h)

one_of : (m k f c : ℤ)
    → (is_alone m k f ≡ true) ⊎ (is_alone k m f ≡ true) ⊎ (is_alone f m k ≡ true) → Counts m k f c
one_of m k f c (inl h) =
    let a = alone m k f h in
    counts_at m k f c (pos 1) (pos 0) (pos 0) a.0 a.1 a.2
    (sums (pos 1) (pos 0) 1 refl refl, less (pos 0) (pos 1) refl)
one_of m k f c (inr (inl h)) =
    let a = alone k m f h in
    counts_at m k f c (pos 0) (pos 1) (pos 0) a.1 a.0 a.2 refl
one_of m k f c (inr (inr h)) =
    let a = alone f m k h in
    counts_at m k f c (pos 0) (pos 0) (pos 1) a.1 a.2 a.0 (refl, less (pos 0) (pos 1) refl, refl)

one_fits : (m k f c : ℤ) (r : Replied) (b : Bool) → is_of_one m k f ≡ b
    → cond b (Some (replied.Reply m k f c)) None ≡ Some r → Fits false 1 (replied.Reply m k f c) (told_in r)
one_fits m k f c r false e h = absurd (none-some r h)
one_fits m k f c r true e h =
    subst (λ (x : Replied). Fits false 1 (replied.Reply m k f c) (told_in x)) (same_Some (replied.Reply m k f c) r h)
    (one_of m k f c (first_of (is_alone m k f) (is_alone k m f) (is_alone f m k) e))

-- ---- several cues

made_by : (n : ℕ) (m k f c : ℤ) (b : Bool) → int_lt (pos 0) m ≡ b → m +ℤ k ≡ pos n
    → Fits false n (replied.Reply m k f c)
    (told_in (cond b (reply_of (pos 1) (pos 0) (pos 0) (pos 0)) (reply_of (pos 0) (pos 1) (pos 0) (pos 0))))
made_by n m k f c true lt all = (all, less (pos 0) m lt)
made_by n m k f c false lt all = all

all_by : (n : ℕ) (m k f c : ℤ) (b : Bool) → are_all n m k ≡ b → is_none_made m k ≡ false
    → Fits false n (replied.Reply m k f c) (told_in (cond b
    (cond (int_lt (pos 0) m) (reply_of (pos 1) (pos 0) (pos 0) (pos 0)) (reply_of (pos 0) (pos 1) (pos 0) (pos 0)))
    (reply_of (pos 1) (pos 0) (pos 1) (code_by f c))))
all_by n m k f c true e none =
    made_by n m k f c (int_lt (pos 0) m) refl ((Decides-int_eq (m +ℤ k) (pos n)).0 e)
all_by n m k f c false e none = (none, λ same. apart ((Decides-int_eq (m +ℤ k) (pos n)).1 same))
  where
    apart : are_all n m k ≡ true → ⊥
    apart t = cc

-- if none was made or known, one was refused
refused_some : (m k f : ℤ) → are_numbers m k f ≡ true → is_none_made m k ≡ true → pos 0 <ℤ f
refused_some m k f numbers none =
    let zero = and_parts (int_eq m (pos 0)) (int_eq k (pos 0)) none in
    let a = and_parts (not (int_lt m (pos 0))) (not (int_lt k (pos 0)) && (not (int_lt f (pos 0))
    && (int_lt (pos 0) m || (int_lt (pos 0) k || int_lt (pos 0) f)))) numbers in
    let b = and_parts (not (int_lt k (pos 0))) (not (int_lt f (pos 0))
    && (int_lt (pos 0) m || (int_lt (pos 0) k || int_lt (pos 0) f))) a.1 in
    let d = and_parts (not (int_lt f (pos 0))) (int_lt (pos 0) m || (int_lt (pos 0) k || int_lt (pos 0) f)) b.1 in
    let some : (int_lt (pos 0) (pos 0) || (int_lt (pos 0) (pos 0) || int_lt (pos 0) f)) ≡ true =
    subst (λ (x : ℤ). (int_lt (pos 0) (pos 0) || (int_lt (pos 0) x || int_lt (pos 0) f)) ≡ true)
    ((Decides-int_eq k (pos 0)).0 zero.1)
    (subst (λ (x : ℤ). (int_lt (pos 0) x || (int_lt (pos 0) k || int_lt (pos 0) f)) ≡ true)
    ((Decides-int_eq m (pos 0)).0 zero.0) d.1) in
    less (pos 0) f some

none_by : (n : ℕ) (m k f c : ℤ) (b : Bool) → is_none_made m k ≡ b → are_numbers m k f ≡ true
    → Fits false n (replied.Reply m k f c) (told_in (cond b (reply_of (pos 0) (pos 0) (pos 1) c) (cond (are_all n m k)
    (cond (int_lt (pos 0) m) (reply_of (pos 1) (pos 0) (pos 0) (pos 0)) (reply_of (pos 0) (pos 1) (pos 0) (pos 0)))
    (reply_of (pos 1) (pos 0) (pos 1) (code_by f c)))))
none_by n m k f c true e numbers = (e, refused_some m k f numbers e, refl)
none_by n m k f c false e numbers = all_by n m k f c (are_all n m k) refl e

several_fit : (n : ℕ) (m k f c : ℤ) (r : Replied) (b : Bool) → are_numbers m k f ≡ b
    → cond b (Some (condensed_by n m k f c)) None ≡ Some r → Fits false n (replied.Reply m k f c) (told_in r)
several_fit n m k f c r false e h = absurd (none-some r h)
several_fit n m k f c r true e h =
    subst (λ (x : Replied). Fits false n (replied.Reply m k f c) (told_in x)) (same_Some (condensed_by n m k f c) r h)
    (none_by n m k f c (is_none_made m k) refl e)

-- ---- what was asked

only_one : (n : ℕ) → 1 ≤ n → nat_lt 1 n ≡ false → n ≡ 1
only_one n some h = grind (arith, nat_tests)

counted_fits : (n : ℕ) (s r : Replied) (b : Bool) → 1 ≤ n → nat_lt 1 n ≡ b
    → cond b (condensed n s) (of_one s) ≡ Some r → Fits false n s (told_in r)
counted_fits n (replied.Reply m k f c) r true some e h =
    several_fit n m k f c r (are_numbers m k f) refl h
counted_fits n (replied.Reply m k f c) r false some e h =
    subst (λ (x : ℕ). Fits false x (replied.Reply m k f c) (told_in r)) (sym (only_one n some e))
    (one_fits m k f c r (is_of_one m k f) refl h)
counted_fits n (replied.Status u) r true some e h = absurd (none-some r h)
counted_fits n (replied.Status u) r false some e h = absurd (none-some r h)

asked_fits : (status : Bool) (n : ℕ) (s r : Replied) → 1 ≤ n → of_asked status n s ≡ Some r
    → Fits status n s (told_in r)
asked_fits true n (replied.Reply m k f c) r some h = absurd (none-some r h)
asked_fits true n (replied.Status u) r some h =
    subst (λ (x : Replied). Fits true n (replied.Status u) (told_in x)) (same_Some (replied.Status u) r h) refl
asked_fits false n (replied.Reply m k f c) r some h =
    counted_fits n (replied.Reply m k f c) r (nat_lt 1 n) some refl h
asked_fits false n (replied.Status u) r some h =
    counted_fits n (replied.Status u) r (nat_lt 1 n) some refl h

said_fits : (status : Bool) (n : ℕ) (o : Option Replied) (r : Replied) → 1 ≤ n → of_said status n o ≡ Some r
    → (s : Replied) × (o ≡ Some s) × Fits status n s (told_in r)
said_fits status n None r some h = absurd (none-some r h)
said_fits status n (Some s) r some h = (s, refl, asked_fits status n s r some h)

some_asked : (others : List (List ℕ)) → 1 ≤ count_of others
some_asked others = grind arith

-- a reply to a question came, and what is told of it fits what it says
reply_fits : (q : Question) (m : AskMachine) (ts : List Turn) (r : Replied) → IsTold q m ts (Some (end.Replied r))
    → (s : Replied) × Came q ts s × Fits (is_status q.order) (count_of q.others.now) s (told_in r)
reply_fits q m ts r (inl t) =
    let f = said_fits (is_status q.order) (count_of q.others.now)
    (replied_in (shown_of q.order q.others.now) (datagram_at t.decided.last.heard.bytes)) r
    (some_asked q.others.now) t.says.1 in (
      f.0,
      record {
        before = t.decided.before;
        last = t.decided.last;
        all = t.decided.all;
        from = t.says.0;
        says = f.1;
      },
      f.2,
    )
reply_fits q m ts r (inr lost) = absurd (no_loss lost.0)
  where
    no_loss : end.Replied r ≡ end.Lost → ⊥
    no_loss e = cc

-- ---- laws

made_in : (q : Question) (ts : List Turn) (s : Replied) → Came q ts s
    → Fits (is_status q.order) (count_of q.others.now) s told.Made → CountedMade q ts
made_in q ts (replied.Reply m k f c) came fits = record {
  counted = record { counted = record { made = m; known = k; refused = f; code = c; came = came }; all = fits.0 };
  some = fits.1;
}
made_in q ts (replied.Status u) came fits = absurd fits

pub made-is-replied : MadeIsReplied
made-is-replied q m ts (end.Replied r) h t =
    let f = reply_fits q m ts r h in
    made_in q ts f.0 f.1 (subst (Fits (is_status q.order) (count_of q.others.now) f.0) t f.2)
made-is-replied q m ts end.Nobody h t = cc
made-is-replied q m ts end.Silent h t = cc
made-is-replied q m ts end.Lost h t = cc

refused_in : (q : Question) (ts : List Turn) (s : Replied) (code : ℤ) → Came q ts s
    → Fits (is_status q.order) (count_of q.others.now) s (told.Refused code) → CountedNone q ts code
refused_in q ts (replied.Reply m k f c) code came fits = record {
  counted = record { made = m; known = k; refused = f; code = c; came = came };
  none = fits.0;
  some = fits.1;
  by = fits.2;
}
refused_in q ts (replied.Status u) code came fits = absurd fits

pub refused-is-replied : RefusedIsReplied
refused-is-replied q m ts (end.Replied r) h code t =
    let f = reply_fits q m ts r h in
    refused_in q ts f.0 code f.1 (subst (Fits (is_status q.order) (count_of q.others.now) f.0) t f.2)
refused-is-replied q m ts end.Nobody h code t = cc
refused-is-replied q m ts end.Silent h code t = cc
refused-is-replied q m ts end.Lost h code t = cc

partly_in : (q : Question) (ts : List Turn) (s : Replied) (code : ℤ) → Came q ts s
    → Fits (is_status q.order) (count_of q.others.now) s (told.Partly code) → CountedSome q ts
partly_in q ts (replied.Reply m k f c) code came fits = record {
  counted = record { made = m; known = k; refused = f; code = c; came = came };
  some = fits.0;
  others = fits.1;
}
partly_in q ts (replied.Status u) code came fits = absurd fits

pub partly-is-replied : PartlyIsReplied
partly-is-replied q m ts (end.Replied r) h code t =
    let f = reply_fits q m ts r h in
    partly_in q ts f.0 code f.1 (subst (Fits (is_status q.order) (count_of q.others.now) f.0) t f.2)
partly-is-replied q m ts end.Nobody h code t = cc
partly-is-replied q m ts end.Silent h code t = cc
partly-is-replied q m ts end.Lost h code t = cc

all_in : (q : Question) (ts : List Turn) (m k f c : ℤ) → Came q ts (replied.Reply m k f c)
    → m +ℤ k ≡ pos (count_of q.others.now) → CountedAll q ts ⊎ CameStatus q ts
all_in q ts m k f c came all =
    inl (record { counted = record { made = m; known = k; refused = f; code = c; came = came }; all = all })

done_in : (q : Question) (ts : List Turn) (s : Replied) (t : Told) → Came q ts s
    → Fits (is_status q.order) (count_of q.others.now) s t → ending_of t ≡ None → CountedAll q ts ⊎ CameStatus q ts
done_in q ts (replied.Reply m k f c) told.Made came fits h = all_in q ts m k f c came fits.0
done_in q ts (replied.Reply m k f c) told.Known came fits h = all_in q ts m k f c came fits
done_in q ts (replied.Reply m k f c) (told.Refused code) came fits h = cc
done_in q ts (replied.Reply m k f c) (told.Partly code) came fits h = cc
done_in q ts (replied.Reply m k f c) (told.Status w) came fits h = absurd fits
done_in q ts (replied.Reply m k f c) told.Nobody came fits h = absurd fits
done_in q ts (replied.Reply m k f c) told.Silent came fits h = absurd fits
done_in q ts (replied.Reply m k f c) told.Unclear came fits h = absurd fits
done_in q ts (replied.Status u) (told.Status w) came fits h =
    inr (record { asked = fits; status = u; came = came })
done_in q ts (replied.Status u) told.Made came fits h = absurd fits
done_in q ts (replied.Status u) told.Known came fits h = absurd fits
done_in q ts (replied.Status u) (told.Refused code) came fits h = absurd fits
done_in q ts (replied.Status u) (told.Partly code) came fits h = absurd fits
done_in q ts (replied.Status u) told.Nobody came fits h = absurd fits
done_in q ts (replied.Status u) told.Silent came fits h = absurd fits
done_in q ts (replied.Status u) told.Unclear came fits h = absurd fits

pub done-is-replied : DoneIsReplied
done-is-replied q m ts (end.Replied r) h t =
    let f = reply_fits q m ts r h in done_in q ts f.0 (told_in r) f.1 f.2 t
done-is-replied q m ts end.Nobody h t = cc
done-is-replied q m ts end.Silent h t = cc
done-is-replied q m ts end.Lost h t = cc

nobody_in : (s : Replied) (status : Bool) (n : ℕ) → Fits status n s told.Nobody → ⊥
nobody_in (replied.Reply m k f c) status n fits = fits
nobody_in (replied.Status u) status n fits = fits

pub nobody-is-said : NobodyIsSaid
nobody-is-said q m ts (end.Replied r) h t =
    let f = reply_fits q m ts r h in
    absurd (nobody_in f.0 (is_status q.order) (count_of q.others.now)
    (subst (Fits (is_status q.order) (count_of q.others.now) f.0) t f.2))
nobody-is-said q m ts end.Nobody (inl told) t =
    record { before = told.decided.before; last = told.decided.last; all = told.decided.all; refused = told.says }
nobody-is-said q m ts end.Nobody (inr lost) t = absurd (no_loss lost.0)
  where
    no_loss : end.Nobody ≡ end.Lost → ⊥
    no_loss e = cc
nobody-is-said q m ts end.Silent h t = cc
nobody-is-said q m ts end.Lost h t = cc

unclear_in : (s : Replied) (status : Bool) (n : ℕ) → Fits status n s told.Unclear → ⊥
unclear_in (replied.Reply m k f c) status n fits = fits
unclear_in (replied.Status u) status n fits = fits

pub each-is-clear : EachIsClear
each-is-clear q m ts (end.Replied r) h t =
    let f = reply_fits q m ts r h in
    unclear_in f.0 (is_status q.order) (count_of q.others.now)
    (subst (Fits (is_status q.order) (count_of q.others.now) f.0) t f.2)
each-is-clear q m ts end.Nobody h t = cc
each-is-clear q m ts end.Silent h t = cc
each-is-clear q m ts end.Lost h t = cc
