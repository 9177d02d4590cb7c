-- What a datagram is that goes on: an answer of the device, a reply, or an order to it.
use Rattle.std.proofs.Common.{◌≡◌, ℕ, zero, suc, ◌+◌, ◌/◌, ◌%◌, ◌^◌, ◌<◌, ◌≤◌, pos, ◌&&◌, ◌==◌, nat_le}
use Rattle.std.proofs.Common.{nat_lt, Bool, true, false, cond, List, [], ◌∷◌, ◌++◌, length, take, drop}
use Rattle.std.proofs.Common.{Option, Some, None, Ok, refl, sym, ap, ◌∙◌}
use Rattle.std.proofs.Common.{subst, rules, arith, ◌⊎◌, inl, inr}
use Rattle.std.specs.Prelude.{FitsSigned, IfSome, IfNone, codes, decimal, option_and_then}
use Rattle.std.specs.Cmp.Lexicographic.{bytes_decides}
use Rattle.std.specs.Int.{w32}
use Rattle.std.specs.List.{find, AllByRecursion}
use Rattle.std.specs.Option.{option_map}
use Rattle.std.proofs.lemmas.Bool.{leb-true, le-leb}
use Rattle.std.specs.Fmt.{digit_glyph, digits, digits_onto}
use Rattle.std.proofs.lemmas.Int.{ints}
use Rattle.std.proofs.lemmas.List.{length-append, length-replicate, take-append-drop}
use Rattle.std.proofs.lemmas.Option.{option_and_then_some, none-some, same_Some}
use Rattle.cue_osc.specs.Content.{Content}
use Rattle.cue_osc.specs.Spelling.{IsText}
use Rattle.cue_osc.specs.Plain.{IsPlain}
use Rattle.cue_osc.specs.Reading.{datagram_at}
use Rattle.cue_osc.specs.Writing.{text_of, IsInRange}
use Rattle.cue_osc.specs.declared.limits.TheConstants.{MAX_LEN}
use Rattle.cue_osc.proofs.WrittenLemmas.{text_spells}
use Rattle.cue_osc.proofs.PacketLemmas.{datagram_again}
use Rattle.cue_show.specs.declared.limits.TheConstants.{MAX_PART_BYTES}
use Rattle.cue_show.specs.Number.{is_cue_number, same_text}
use Rattle.cue_show.proofs.NumberLemmas.{number_text, number_short}
use Rattle.cue_show.proofs.TestLemmas.{both, join}
use Rattle.cue_device.specs.declared.asked.Command.{Command}
use Rattle.cue_device.specs.declared.asked.Command.TheVariants as command
use Rattle.cue_device.specs.declared.asked.Task.{Task}
use Rattle.cue_device.specs.declared.reading.TheConstants.{MAX_NUMBER}
use Rattle.cue_device.specs.declared.words.Answer.{Answer}
use Rattle.cue_device.specs.declared.words.Answer.TheVariants.{StandingBy, Complete, Cancelled, Abort}
use Rattle.cue_device.specs.Datagrams.{IsCommand, IsFor, IsForNone, IsNumber, HasTask}
use Rattle.cue_device.specs.Datagrams.{answer_content, answer_text, command_content, command_text, verb}
use Rattle.cue_device.specs.Hearing.{answered_for, seq_of, task_of}
use Rattle.cue_relay.specs.declared.messages.Message.{Message}
use Rattle.cue_relay.specs.declared.messages.Message.TheVariants as says
use Rattle.cue_relay.specs.declared.route.Side.TheVariants.{Controller, Stage}
use Rattle.cue_relay.specs.Messages.{IsAnswerOf, IsOrderTo, IsReply, reply_head, is_attempt, spells, last_number}
use Rattle.cue_relay.specs.Messages.{four_answers, answer_with, answer_in, order_read, order_at, is_task, is_order}
use Rattle.cue_relay.specs.Messages.{kept_if, order_in, order_of, is_reply, message_in}

-- ---- what is written is read again

-- a message that can be written
pub record IsWritable (c : Content) : Type 0 where
  pub plain : IsPlain 8 c
  pub in_range : IsInRange c
  pub short : length (text_of c) ≤ MAX_LEN

pub read_back : (c : Content) → IsWritable c → datagram_at (text_of c) ≡ Ok c
read_back c w = datagram_again (text_of c) c (text_spells c w.plain w.in_range w.short)

-- a number that an int32 holds
pub fits : (n : ℕ) → n < 2 ^ 31 → FitsSigned w32 (pos n)
fits n h = omega (arith, ints)

-- ---- orders

command_writable : (d : ℕ) (c : Command) → d < 2 ^ 31 → IsCommand c → IsWritable (command_content d c)
command_writable d (command.Standby q t) h k =
    let cue_text : IsText t.cue = number_text t.cue k.tasked.cue in
    let cue_short : length t.cue ≤ 16 = number_short t.cue k.tasked.cue in
    let bytes_short : length t.bytes ≤ MAX_PART_BYTES = k.tasked.short in
    let q_short : q < 2 ^ 31 = omega (arith, k.numbered) in
    record {
      plain = search rules;
      in_range = (fits q q_short, (fits d h, (tt, (tt, tt))));
      short = simp (length-append, length-replicate) (omega arith);
    }
command_writable d (command.Go q) h k =
    let q_short : q < 2 ^ 31 = omega (arith, k.numbered) in
    record { plain = search rules; in_range = (fits q q_short, (fits d h, tt)); short = search rules }
command_writable d (command.Cancel q) h k =
    let q_short : q < 2 ^ 31 = omega (arith, k.numbered) in
    record { plain = search rules; in_range = (fits q q_short, (fits d h, tt)); short = search rules }

command_read : (d : ℕ) (c : Command) → d < 2 ^ 31 → IsCommand c
    → datagram_at (command_text d c) ≡ Ok (command_content d c)
unfolding command_text
command_read d c h k = read_back (command_content d c) (command_writable d c h k)

-- an order reads as itself
reads_as : (d : ℕ) (c : Command) → order_read (command_content d c) ≡ Some c
reads_as d (command.Standby q t) = refl
reads_as d (command.Go q) = refl
reads_as d (command.Cancel q) = refl

attempt_is : (q : ℕ) → IsNumber q → is_attempt q ≡ true
attempt_is q h = join (nat_le 1 q) (nat_le q MAX_NUMBER) (le-leb 1 q h.0) (le-leb q MAX_NUMBER h.1)

pub is_attempt-number : (q : ℕ) → is_attempt q ≡ true → IsNumber q
is_attempt-number q h =
    let k = both (nat_le 1 q) (nat_le q MAX_NUMBER) h in
    (leb-true 1 q k.0, leb-true q MAX_NUMBER k.1)

task_is : (t : Option Task) → HasTask t → is_task t ≡ true
task_is None h = refl
task_is (Some t) h =
    join (is_cue_number t.cue) (nat_le (length t.bytes) MAX_PART_BYTES) h.cue (le-leb (length t.bytes) MAX_PART_BYTES
    h.short)

is_task-task : (t : Option Task) → is_task t ≡ true → HasTask t
is_task-task None h = tt
is_task-task (Some t) h =
    let k = both (is_cue_number t.cue) (nat_le (length t.bytes) MAX_PART_BYTES) h in
    record { cue = k.0; short = leb-true (length t.bytes) MAX_PART_BYTES k.1 }

order_is : (d : ℕ) (bytes : List ℕ) (c : Command) → IsFor d bytes c → is_order d bytes c ≡ true
order_is d bytes c f =
    let same : same_text bytes (command_text d c) ≡ true = (bytes_decides bytes (command_text d c)).1 f.text in
    join (is_attempt (seq_of c)) (is_task (task_of c) && same_text bytes (command_text d c))
    (attempt_is (seq_of c) f.is_command.numbered)
    (join (is_task (task_of c)) (same_text bytes (command_text d c)) (task_is (task_of c) f.is_command.tasked) same)

is_order-for : (d : ℕ) (bytes : List ℕ) (c : Command) → is_order d bytes c ≡ true → IsFor d bytes c
is_order-for d bytes c h =
    let k = both (is_attempt (seq_of c)) (is_task (task_of c) && same_text bytes (command_text d c)) h in
    let l = both (is_task (task_of c)) (same_text bytes (command_text d c)) k.1 in
    record {
      is_command = record {
        numbered = is_attempt-number (seq_of c) k.0;
        tasked = is_task-task (task_of c) l.0;
      };
      text = (bytes_decides bytes (command_text d c)).0 l.1;
    }

kept : {X : Type 0} (p : X → Bool) (x : X) → p x ≡ true → kept_if p x ≡ Some x
kept p x h = rw h refl

kept-some : {X : Type 0} (p : X → Bool) (x y : X) → kept_if p x ≡ Some y → (p y ≡ true) × (x ≡ y)
kept-some {X} p x y h = by (p x) refl h
  where
    by : (b : Bool) → p x ≡ b → cond b (Some x) None ≡ Some y → (p y ≡ true) × (x ≡ y)
    by true e k = let same : x ≡ y = same_Some x y k in (subst (λ (z : X). p z ≡ true) same e, same)
    by false e k = absurd (none-some y k)

-- an order to the device is found
order_found : (d : ℕ) (bytes : List ℕ) (c : Command) → d < 2 ^ 31 → IsFor d bytes c → order_in d bytes ≡ Some c
unfolding order_in
order_found d bytes c h f =
    let read : datagram_at bytes ≡ Ok (command_content d c) =
    ap datagram_at f.text ∙ command_read d c h f.is_command in
    let found : order_at (datagram_at bytes) ≡ Some c = ap order_at read ∙ reads_as d c in
    ap (option_and_then (kept_if (is_order d bytes))) found ∙ kept (is_order d bytes) c (order_is d bytes c f)

-- and what is found is one
pub order_in-for : (d : ℕ) (bytes : List ℕ) (c : Command) → order_in d bytes ≡ Some c → IsFor d bytes c
unfolding order_in
order_in-for d bytes c h =
    option_and_then_some (kept_if (is_order d bytes)) (order_at (datagram_at bytes)) c h
    (λ x found k. is_order-for d bytes c (kept-some (is_order d bytes) x c k).0)

none_is : (d : ℕ) (bytes : List ℕ) → IsForNone d bytes → (o : Option Command) → order_in d bytes ≡ o → None ≡ o
none_is d bytes none None e = refl
none_is d bytes none (Some c) e = absurd (none c (order_in-for d bytes c e))

-- what a reading found is the order that there is
pub order_in-is : (d : ℕ) (bytes : List ℕ) (r : Option Command) → d < 2 ^ 31 → IfSome r (λ c. IsFor d bytes c)
    → IfNone r (IsForNone d bytes) → r ≡ order_in d bytes
order_in-is d bytes None h some none = none_is d bytes none (order_in d bytes) refl
order_in-is d bytes (Some c) h some none = sym (order_found d bytes c h some)

-- ---- answers

pub text-append : (s t : List ℕ) → IsText s → IsText t → IsText (s ++ t)
text-append [] t h k = k
text-append (b ∷ bs) t h k = (h.0, text-append bs t h.1 k)

glyph_some : (m : ℕ) → 0 < digit_glyph false m
glyph_some m = by (nat_lt m 10)
  where
    by : (b : Bool) → 0 < cond b (48 + m) (87 + m)
    by true = omega arith
    by false = omega arith

digits_text : (k n : ℕ) (acc : List ℕ) → IsText acc → IsText (digits_onto k 10 false n acc)
digits_text zero n acc h = h
digits_text (suc k) n acc h =
    by (n / 10 == 0) (digits_text k (n / 10) (digit_glyph false (n % 10) ∷ acc) (glyph_some (n % 10), h))
  where
    by : (b : Bool) → IsText (digits_onto k 10 false (n / 10) (digit_glyph false (n % 10) ∷ acc))
        → IsText (cond b (digit_glyph false (n % 10) ∷ acc)
        (digits_onto k 10 false (n / 10) (digit_glyph false (n % 10) ∷ acc)))
    by true more = (glyph_some (n % 10), h)
    by false more = more

pub decimal_text : (n : ℕ) → IsText (decimal n)
unfolding digits
decimal_text n = digits_text 64 n [] tt

verb_text : (a : Answer) → IsText (verb a)
verb_text (StandingBy q) = search rules
verb_text (Complete q) = search rules
verb_text (Cancelled q) = search rules
verb_text (Abort q) = search rules

answer_plain : (d : ℕ) (a : Answer) → IsPlain 8 (answer_content d a)
answer_plain d a = (
  (
    refl,
    text-append (drop 1 (codes "/device/") ++ decimal d) (verb a)
        (text-append (drop 1 (codes "/device/")) (decimal d) (search rules) (decimal_text d)) (verb_text a),
  ),
  (tt, tt),
)

-- an answer is read as what it says
answer_read : (d : ℕ) (a : Answer) → IsNumber (answered_for a) → length (answer_text d a) ≤ MAX_LEN
    → datagram_at (answer_text d a) ≡ Ok (answer_content d a)
unfolding answer_text
answer_read d a h short =
    read_back (answer_content d a) (record {
      plain = answer_plain d a;
      in_range = (fits (answered_for a) (omega (arith, h)), tt);
      short = short;
    })

-- what is found passes
found-passes : {X : Type 0} (p : X → Bool) (xs : List X) (x : X) → find p xs ≡ Some x → p x ≡ true
found-passes p [] x h = absurd (none-some x h)
found-passes {X} p (y ∷ ys) x h = by (p y) refl h (found-passes p ys x)
  where
    by : (b : Bool) → p y ≡ b → cond b (Some y) (find p ys) ≡ Some x → (find p ys ≡ Some x → p x ≡ true) → p x ≡ true
    by true e k more = subst (λ (z : X). p z ≡ true) (same_Some y x k) e
    by false e k more = more k

-- and is one of them: what holds of each holds of it
found-all : {X : Type 0} (P : X → Type 0) (p : X → Bool) (xs : List X) (x : X) → AllByRecursion P xs
    → find p xs ≡ Some x → P x
found-all P p [] x all h = absurd (none-some x h)
found-all {X} P p (y ∷ ys) x all h = by (p y) h (found-all P p ys x all.1)
  where
    by : (b : Bool) → cond b (Some y) (find p ys) ≡ Some x → (find p ys ≡ Some x → P x) → P x
    by true k more = subst P (same_Some y x k) all.0
    by false k more = more k

answer_with-is : (d : ℕ) (bytes : List ℕ) (q : ℕ) (a : Answer) → answer_with d bytes q ≡ Some a
    → IsNumber (answered_for a) × (spells d bytes a ≡ true)
answer_with-is d bytes q a h = by (is_attempt q) refl h
  where
    by : (b : Bool) → is_attempt q ≡ b → cond b (find (spells d bytes) (four_answers q)) None ≡ Some a
        → IsNumber (answered_for a) × (spells d bytes a ≡ true)
    by true e k =
        let number : IsNumber q = is_attempt-number q e in (
          found-all (λ x. IsNumber (answered_for x)) (spells d bytes) (four_answers q) a
              (number, (number, (number, (number, tt)))) k,
          found-passes (spells d bytes) (four_answers q) a k,
        )
    by false e k = absurd (none-some a k)

-- what is found is an answer of the device
pub answer_in-is : (d : ℕ) (bytes : List ℕ) (a : Answer) → length bytes ≤ MAX_LEN → answer_in d bytes ≡ Some a
    → IsAnswerOf d bytes
answer_in-is d bytes a short h =
    option_and_then_some (answer_with d bytes) (last_number bytes) a h (λ q found k.
    let parts = answer_with-is d bytes q a k in
    let same : bytes ≡ answer_text d a = (bytes_decides bytes (answer_text d a)).0 parts.1 in (
      a,
      parts.0,
      ap datagram_at same ∙ answer_read d a parts.0
          (subst (λ (x : List ℕ). length x ≤ MAX_LEN) same short),
    ))

-- ---- what a message says

mapped : {X Y P : Type 0} (f : X → Y) (o : Option X) (y : Y) → option_map f o ≡ Some y → ((x : X) → o ≡ Some x → P) → P
mapped f None y h k = absurd (none-some y h)
mapped f (Some x) y h k = k x refl

-- what a device says is an answer of it
pub stage_says : (d : ℕ) (bytes : List ℕ) (m : Message) → length bytes ≤ MAX_LEN → message_in Stage d bytes ≡ Some m
    → IsAnswerOf d bytes
stage_says d bytes m short h =
    mapped says.Answer (answer_in d bytes) m h
    (λ a found. answer_in-is d bytes a short found)

reply_is : (bytes : List ℕ) → is_reply bytes ≡ true → IsReply bytes
reply_is bytes h = (
  drop (length reply_head) bytes,
  sym (take-append-drop (length reply_head) bytes)
      ∙ ap (λ (x : List ℕ). x ++ drop (length reply_head) bytes)
      (sym ((bytes_decides reply_head (take (length reply_head) bytes)).0 h)),
)

-- what the controller says to a device is a reply, or an order to it
pub controller_says : (d : ℕ) (bytes : List ℕ) (m : Message) → message_in Controller d bytes ≡ Some m
    → IsReply bytes ⊎ IsOrderTo d bytes
controller_says d bytes m h = by (is_reply bytes) refl h
  where
    by : (b : Bool) → is_reply bytes ≡ b
        → cond b (Some says.Reply) (option_map order_of (order_in d bytes)) ≡ Some m
        → IsReply bytes ⊎ IsOrderTo d bytes
    by true e k = inl (reply_is bytes e)
    by false e k = mapped order_of (order_in d bytes) m k (λ c found. inr (c, order_in-for d bytes c found))
