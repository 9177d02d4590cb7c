-- Each line is read as what was written, and what is read was written so.
use Rattle.std.proofs.Common.{◌≡◌, ◌≢◌, ◌∙◌, ℕ, ◌+◌, ◌-◌, ◌^◌, ◌<◌, ◌≤◌, Bool, true, false, not, ◌==◌, ◌&&◌, cond}
use Rattle.std.proofs.Common.{if◌then◌else◌, List, [], ◌∷◌, ◌++◌, length, codes, Option, Some, None}
use Rattle.std.proofs.Common.{refl, sym, ap, subst, append_assoc, append-nil, arith, rules, nat_eq, ltb, eqb}
use Rattle.std.specs.Char.{is_ascii_digit}
use Rattle.std.specs.Cmp.Lexicographic.{pointwise}
use Rattle.std.specs.Prelude.{decimal, pos}
use Rattle.std.specs.List.{list_all}
use Rattle.std.specs.Option.{option_map_or}
use Rattle.std.proofs.lemmas.Bool.{lt-ltb, ne_eqb}
use Rattle.cue_show.proofs.TextLemmas.{same_text-itself, same_text-true}
use Rattle.cue_show.specs.DeviceNumber.{is_device}
use Rattle.cue_exchange.specs.declared.attempt.Outcome.{Outcome}
use Rattle.cue_exchange.specs.declared.attempt.Outcome.TheVariants as outcome
use Rattle.cue_exchange.specs.declared.attempt.Reason.{Reason}
use Rattle.cue_exchange.specs.declared.attempt.Reason.TheVariants as reason
use Rattle.cue_core.specs.declared.command.Code.{Code}
use Rattle.cue_core.specs.declared.command.Code.TheVariants as code
use Rattle.cue_core.specs.declared.refusal.Refusal.{Refusal}
use Rattle.cue_core.specs.declared.refusal.Refusal.TheVariants as refusal
use Rattle.cue_words.specs.Answered.{outcome_words, reason_words}
use Rattle.cue_words.specs.CodeWords.{code_words, code_numbered, number_words, refusal_words, refusal_numbered, refusal_number_words}
use Rattle.cue_log_lines.specs.declared.line.Asked.{Asked}
use Rattle.cue_log_lines.specs.declared.line.Count.{Count}
use Rattle.cue_log_lines.specs.declared.line.Ended.{Ended}
use Rattle.cue_log_lines.specs.declared.line.Line.{Line}
use Rattle.cue_log_lines.specs.declared.line.Line.TheVariants as line
use Rattle.cue_log_lines.specs.declared.line.OrderKind.{OrderKind}
use Rattle.cue_log_lines.specs.declared.line.OrderKind.TheVariants as order
use Rattle.cue_log_lines.specs.declared.line.Ordered.{Ordered}
use Rattle.cue_log_lines.specs.declared.line.Refused.{Refused}
use Rattle.cue_log_lines.specs.declared.line.Refused.TheVariants as refused
use Rattle.cue_log_lines.specs.declared.line.Span.{Span}
use Rattle.cue_log_lines.specs.declared.line.Try.{Try}
use Rattle.cue_log_lines.specs.declared.line.Why.{Why}
use Rattle.cue_log_lines.specs.declared.line.Why.TheVariants as why
use Rattle.cue_log_lines.specs.Fitting.{Fits, FitsAsked, FitsCount, FitsCounted, FitsCue, FitsOrder, FitsOwn, FitsRefused, FitsSpan, FitsTry, FitsWhy, is_free}
use Rattle.cue_log_lines.specs.Laws.{LinesAreReadBack, LinesDiffer, OnlyLinesAreRead}
use Rattle.cue_log_lines.specs.Lines.{after_text, alone_text, asked_text, body_text, count_text, counted_text, counts_text, cue_text}
use Rattle.cue_log_lines.specs.Lines.{end_text, ending_text, home_text, more_text, order_text, order_words, others_text, refused_text, span_text}
use Rattle.cue_log_lines.specs.Lines.{times_text, to_text, try_text, unsent_order, unsent_reply, why_text, write}
use Rattle.cue_log_lines.specs.Pieces.{◌>>=◌, after, before, below, cue_at, cut_last, device_at, is_cue_sign, number_at}
use Rattle.cue_log_lines.specs.Reading.{after_times, aside_at, alone_at, asked_at, asked_of, begins_with_digit, body_at, cancel_at, count_at, count_in, counts_at}
use Rattle.cue_log_lines.specs.Reading.{end_at, ending_of, given_up_at, go_at, guess, held_at, kinds_at, longer_at, order_at, other_at, outcome_at}
use Rattle.cue_log_lines.specs.Reading.{own_at, read, ready_at, refusals_at, refused_at, replied_at, said_at, sent_at, span_at, standby_at, try_at, try_with, why_at}
use Rattle.cue_log_lines.proofs.PieceLemmas.{after-words, before-words, cue_at-cue, cut_last-is, device_at-decimal, free-append, free-decimal}
use Rattle.cue_log_lines.proofs.PieceLemmas.{number_at-decimal, starts, starts-decimal}

-- ---- times

span-parts : (n t : ℕ) (rest : List ℕ) → n < 2 ^ 64 → t < 2 ^ 64
    → span_at (decimal n ++ (codes "." ++ (decimal t ++ (codes " s" ++ rest))))
    ≡ Some (record { seconds = n; tenths = t }, codes " s" ++ rest)
unfolding span_at
span-parts n t rest fits small =
    rw (
      number_at-decimal n (codes "." ++ (decimal t ++ (codes " s" ++ rest))) fits refl,
      after-words (codes ".") (decimal t ++ (codes " s" ++ rest)),
      number_at-decimal t (codes " s" ++ rest) small refl,
    ) refl

span-is : (span : Span) (rest : List ℕ) → FitsSpan span → span_at (span_text span ++ rest) ≡ Some (span, codes " s" ++ rest)
unfolding span_text
span-is span rest fits =
    ap span_at (append_assoc (decimal span.seconds) (codes "." ++ (decimal span.tenths ++ codes " s")) rest
    ∙ ap (λ x. decimal span.seconds ++ (codes "." ++ x)) (append_assoc (decimal span.tenths) (codes " s") rest))
    ∙ span-parts span.seconds span.tenths rest fits.seconds fits.tenths

span-free : (b : ℕ) (span : Span) → FitsSpan span → is_ascii_digit b ≡ false → is_free b (codes ".") ≡ true
    → is_free b (codes " s") ≡ true → is_free b (span_text span) ≡ true
unfolding span_text
span-free b span fits other point end =
    free-append b (decimal span.seconds) (codes "." ++ (decimal span.tenths ++ codes " s"))
    (free-decimal b span.seconds other fits.seconds)
    (free-append b (codes ".") (decimal span.tenths ++ codes " s") point
    (free-append b (decimal span.tenths) (codes " s") (free-decimal b span.tenths other fits.tenths) end))

-- ---- attempts

-- what can follow an attempt
record Ends (rest : List ℕ) : Type 0 where
  digit : starts is_ascii_digit rest ≡ false
  sign : starts is_cue_sign rest ≡ false
  cue : after (codes " cue ") rest ≡ None

ends-device : (x : List ℕ) → Ends (codes " device " ++ x)
unfolding after
ends-device x = record { digit = refl; sign = refl; cue = refl }

ends-colon : (x : List ℕ) → Ends (codes ": " ++ x)
unfolding after
ends-colon x = record { digit = refl; sign = refl; cue = refl }

try-with-is : (n : ℕ) (cue : Option (List ℕ)) (rest : List ℕ) → FitsCue cue → Ends rest
    → try_with n (cue_text cue ++ rest) ≡ Some (record { number = n; cue = cue }, rest)
try-with-is n None rest fits ends = rw ends.cue refl
try-with-is n (Some cue) rest fits ends =
    rw (after-words (codes " cue ") (cue ++ rest), cue_at-cue cue rest fits ends.sign) refl

cue-stops : (cue : Option (List ℕ)) (rest : List ℕ) → Ends rest → starts is_ascii_digit (cue_text cue ++ rest) ≡ false
cue-stops None rest ends = ends.digit
cue-stops (Some cue) rest ends = refl

try-parts : (t : Try) (rest : List ℕ) → FitsTry t → Ends rest
    → try_at (codes "attempt " ++ (decimal t.number ++ (cue_text t.cue ++ rest))) ≡ Some (t, rest)
unfolding try_at
try-parts t rest fits ends =
    let low : ltb t.number 4294967296 ≡ true = lt-ltb t.number 4294967296 fits.number in
    let number = number_at-decimal t.number (cue_text t.cue ++ rest) (omega (arith, fits.number)) (cue-stops t.cue rest ends) in
    rw (after-words (codes "attempt ") (decimal t.number ++ (cue_text t.cue ++ rest)), number, low)
    (try-with-is t.number t.cue rest fits.cue ends)

try-is : (t : Try) (rest : List ℕ) → FitsTry t → Ends rest → try_at (try_text t ++ rest) ≡ Some (t, rest)
unfolding try_text
try-is t rest fits ends =
    ap (λ x. try_at (codes "attempt " ++ x)) (append_assoc (decimal t.number) (cue_text t.cue) rest)
    ∙ try-parts t rest fits ends

-- ---- orders, and what is said of attempts

order-parts-of : (k : OrderKind) (t : Try) (d p : ℕ) (sent : Bool) → is_device d ≡ true → p < 65536
    → order_at k t (decimal d ++ (codes " at " ++ (decimal p ++ unsent_order sent)))
    ≡ Some (line.Ordered (record { kind = k; attempt = t; device = d; port = p; is_sent = sent }))
unfolding order_at
order-parts-of k t d p true device port =
    let low : ltb p 65536 ≡ true = lt-ltb p 65536 port in
    rw (
      device_at-decimal d (codes " at " ++ (decimal p ++ [])) device refl,
      after-words (codes " at ") (decimal p ++ []),
      number_at-decimal p [] (omega arith) refl,
      low,
    ) refl
order-parts-of k t d p false device port =
    let low : ltb p 65536 ≡ true = lt-ltb p 65536 port in
    rw (
      device_at-decimal d (codes " at " ++ (decimal p ++ codes ", it was not sent")) device refl,
      after-words (codes " at ") (decimal p ++ codes ", it was not sent"),
      number_at-decimal p (codes ", it was not sent") (omega arith) refl,
      low,
    ) refl

order-parts : (o : Ordered) → FitsOrder o
    → order_at o.kind o.attempt (decimal o.device ++ (codes " at " ++ (decimal o.port ++ unsent_order o.is_sent)))
    ≡ Some (line.Ordered o)
order-parts o fits = order-parts-of o.kind o.attempt o.device o.port o.is_sent fits.device fits.port

alone-parts : (t : Try) (d : ℕ) → is_device d ≡ true → alone_at t (alone_text d) ≡ Some (line.Alone t d)
unfolding alone_at alone_text
alone-parts t d device =
    rw (
      after-words (codes ": device ") (decimal d ++ codes " alone is required"),
      device_at-decimal d (codes " alone is required") device refl,
    ) refl

why-is : (w : Why) → FitsWhy w → why_at (why_text w) ≡ Some w
unfolding why_at after
why-is (why.Aborted d) fits = rw (device_at-decimal d (codes " aborted") fits refl) refl
why-is (why.Released d) fits = rw (device_at-decimal d (codes " was released") fits refl) refl
why-is (why.Said reason.Operator) fits = refl
why-is (why.Said reason.Deadline) fits = refl
why-is (why.Said reason.Abort) fits = refl
why-is (why.Said reason.Power) fits = refl
why-is (why.Said reason.Release) fits = refl

given-up-parts : (t : Try) (w : Why) → FitsWhy w → given_up_at t (codes ": " ++ why_text w) ≡ Some (line.GivenUp t w)
unfolding given_up_at
given-up-parts t w fits = rw (after-words (codes ": ") (why_text w), why-is w fits) refl

-- no order goes on as what is said of an attempt does
no-device : (x : List ℕ) → after (codes " device ") (codes ": " ++ x) ≡ None
unfolding after
no-device x = refl

standby-order : (o : Ordered) → FitsOrder o → o.kind ≡ order.Standby → standby_at (try_text o.attempt ++ to_text o) ≡ Some (line.Ordered o)
unfolding standby_at
standby-order o fits kind =
    rw (
      try-is o.attempt (to_text o) fits.attempt (ends-device (decimal o.device ++ (codes " at " ++ (decimal o.port ++ unsent_order o.is_sent)))),
      after-words (codes " device ") (decimal o.device ++ (codes " at " ++ (decimal o.port ++ unsent_order o.is_sent))),
    )
    (ap (λ k. order_at k o.attempt (decimal o.device ++ (codes " at " ++ (decimal o.port ++ unsent_order o.is_sent)))) (sym kind)
    ∙ order-parts o fits)

go-order : (o : Ordered) → FitsOrder o → o.kind ≡ order.Go → go_at (try_text o.attempt ++ to_text o) ≡ Some (line.Ordered o)
unfolding go_at
go-order o fits kind =
    rw (
      try-is o.attempt (to_text o) fits.attempt (ends-device (decimal o.device ++ (codes " at " ++ (decimal o.port ++ unsent_order o.is_sent)))),
      after-words (codes " device ") (decimal o.device ++ (codes " at " ++ (decimal o.port ++ unsent_order o.is_sent))),
    )
    (ap (λ k. order_at k o.attempt (decimal o.device ++ (codes " at " ++ (decimal o.port ++ unsent_order o.is_sent)))) (sym kind)
    ∙ order-parts o fits)

cancel-order : (o : Ordered) → FitsOrder o → o.kind ≡ order.Cancel → cancel_at (try_text o.attempt ++ to_text o) ≡ Some (line.Ordered o)
unfolding cancel_at
cancel-order o fits kind =
    rw (
      try-is o.attempt (to_text o) fits.attempt (ends-device (decimal o.device ++ (codes " at " ++ (decimal o.port ++ unsent_order o.is_sent)))),
      after-words (codes " device ") (decimal o.device ++ (codes " at " ++ (decimal o.port ++ unsent_order o.is_sent))),
    )
    (ap (λ k. order_at k o.attempt (decimal o.device ++ (codes " at " ++ (decimal o.port ++ unsent_order o.is_sent)))) (sym kind)
    ∙ order-parts o fits)

standby-alone : (t : Try) (d : ℕ) → FitsTry t → is_device d ≡ true → standby_at (try_text t ++ alone_text d) ≡ Some (line.Alone t d)
unfolding standby_at alone_text
standby-alone t d fits device =
    rw (
      try-is t (alone_text d) fits (ends-colon (codes "device " ++ (decimal d ++ codes " alone is required"))),
      no-device (codes "device " ++ (decimal d ++ codes " alone is required")),
    ) (alone-parts t d device)

cancel-given-up : (t : Try) (w : Why) → FitsTry t → FitsWhy w
    → cancel_at (try_text t ++ (codes ": " ++ why_text w)) ≡ Some (line.GivenUp t w)
unfolding cancel_at
cancel-given-up t w fits named =
    rw (try-is t (codes ": " ++ why_text w) fits (ends-colon (why_text w)), no-device (why_text w)) (given-up-parts t w named)

-- ---- ends

outcome-is : (o : Outcome) (rest : List ℕ) → outcome_at (outcome_words o ++ rest) ≡ Some (o, rest)
unfolding outcome_at after
outcome-is outcome.Complete rest = refl
outcome-is outcome.Cancelled rest = refl
outcome-is outcome.Failed rest = refl

ending-parts : (e : Ended) → FitsSpan e.span
    → ending_of e.attempt (outcome_words e.outcome ++ e.failures, codes " " ++ (span_text e.span ++ codes " after standby"))
    ≡ Some (line.Ended e)
unfolding ending_of
ending-parts e fits =
    rw (
      outcome-is e.outcome e.failures,
      after-words (codes " ") (span_text e.span ++ codes " after standby"),
      span-is e.span (codes " after standby") fits,
    ) refl

ending-cut : (e : Ended) → FitsSpan e.span → cut_last 44 (ending_text e)
    ≡ Some (outcome_words e.outcome ++ e.failures, codes " " ++ (span_text e.span ++ codes " after standby"))
unfolding ending_text after_text
ending-cut e fits =
    ap (cut_last 44) (sym (append_assoc (outcome_words e.outcome) e.failures (codes ", " ++ (span_text e.span ++ codes " after standby"))))
    ∙ cut_last-is 44 (outcome_words e.outcome ++ e.failures) (codes " " ++ (span_text e.span ++ codes " after standby"))
    (free-append 44 (codes " ") (span_text e.span ++ codes " after standby") refl
    (free-append 44 (span_text e.span) (codes " after standby") (span-free 44 e.span fits refl refl refl) refl))

end-is : (e : Ended) → FitsTry e.attempt → FitsSpan e.span
    → end_at (try_text e.attempt ++ (codes ": " ++ ending_text e)) ≡ Some (line.Ended e)
unfolding end_at
end-is e fits span =
    rw (
      try-is e.attempt (codes ": " ++ ending_text e) fits (ends-colon (ending_text e)),
      after-words (codes ": ") (ending_text e),
      ending-cut e span,
    ) (ending-parts e span)

-- ---- for how many a line stands

-- a count after its comma
count_tail : Count → List ℕ
count_tail c = codes " " ++ (decimal c.times ++ (times_text c.times ++ span_text c.span))

times-free : (b n : ℕ) → is_free b (codes " time more in ") ≡ true → is_free b (codes " times more in ") ≡ true
    → is_free b (times_text n) ≡ true
times-free b n one more = by (n == 1)
  where
    by : (t : Bool) → is_free b (if t then codes " time more in " else codes " times more in ") ≡ true
    by true = one
    by false = more

count-free : (b : ℕ) (c : Count) → FitsCount c → is_ascii_digit b ≡ false → is_free b (codes " time more in ") ≡ true
    → is_free b (codes " times more in ") ≡ true → is_free b (codes ".") ≡ true → is_free b (codes " s") ≡ true
    → is_free b (codes " ") ≡ true → is_free b (count_tail c) ≡ true
unfolding count_tail
count-free b c fits other one more point end space =
    free-append b (codes " ") (decimal c.times ++ (times_text c.times ++ span_text c.span)) space
    (free-append b (decimal c.times) (times_text c.times ++ span_text c.span) (free-decimal b c.times other fits.times)
    (free-append b (times_text c.times) (span_text c.span) (times-free b c.times one more) (span-free b c.span fits.span other point end)))

-- no line says both
no-times : (x : List ℕ) → after (codes " times more in ") (codes " time more in " ++ x) ≡ None
unfolding after
no-times x = refl

times-is : (n : ℕ) (rest : List ℕ) → after_times (times_text n ++ rest) ≡ Some rest
times-is n rest = by (n == 1)
  where
    by : (t : Bool) → after_times ((if t then codes " time more in " else codes " times more in ") ++ rest) ≡ Some rest
    by true = rw (no-times rest, after-words (codes " time more in ") rest) refl
    by false = rw (after-words (codes " times more in ") rest) refl

times-stop : (n : ℕ) (rest : List ℕ) → starts is_ascii_digit (times_text n ++ rest) ≡ false
times-stop n rest = by (n == 1)
  where
    by : (t : Bool) → starts is_ascii_digit ((if t then codes " time more in " else codes " times more in ") ++ rest) ≡ false
    by true = refl
    by false = refl

span-whole : (span : Span) → FitsSpan span → span_at (span_text span) ≡ Some (span, codes " s")
span-whole span fits = ap span_at (sym (append-nil (span_text span))) ∙ span-is span [] fits

count-in-is : (c : Count) → FitsCount c → count_in (count_tail c) ≡ Some c
unfolding count_tail count_in
count-in-is c fits =
    rw (
      after-words (codes " ") (decimal c.times ++ (times_text c.times ++ span_text c.span)),
      number_at-decimal c.times (times_text c.times ++ span_text c.span) fits.times (times-stop c.times (span_text c.span)),
      times-is c.times (span_text c.span),
      span-whole c.span fits.span,
    ) refl

count-is : (front : List ℕ) (c : Count) → FitsCount c → count_at (front ++ count_text c) ≡ Some (front, c)
unfolding count_at count_text count_tail
count-is front c fits =
    rw (cut_last-is 44 front (count_tail c) (count-free 44 c fits refl refl refl refl refl refl), count-in-is c fits) refl

-- ---- what was made nothing of

others-stop : (n : ℕ) → starts is_ascii_digit (others_text n) ≡ false
others-stop n = by (n == 1)
  where
    by : (t : Bool) → starts is_ascii_digit (if t then codes " other did not apply" else codes " others did not apply") ≡ false
    by true = refl
    by false = refl

nothing-refused : refused_at (codes " refused 0") ≡ Some refused.Nothing
unfolding refused_at refusals_at after number_at
nothing-refused = refl

refusals-is : (n code : ℕ) (words : List ℕ) → 1 ≤ n → n < 65536 → code < 65536
    → refusals_at (decimal n ++ (codes ", code " ++ (decimal code ++ (codes ", " ++ words)))) ≡ Some (refused.Some n code)
unfolding refusals_at
refusals-is n code words some fits named =
    let low : ltb n 65536 ≡ true = lt-ltb n 65536 fits in
    let low_code : ltb code 65536 ≡ true = lt-ltb code 65536 named in
    let not_none : eqb n 0 ≡ false = ne_eqb n 0 (λ e. absurd (omega arith)) in
    rw (
      number_at-decimal n (codes ", code " ++ (decimal code ++ (codes ", " ++ words))) (omega arith) refl,
      low,
      not_none,
      after-words (codes ", code ") (decimal code ++ (codes ", " ++ words)),
      number_at-decimal code (codes ", " ++ words) (omega arith) refl,
      low_code,
    ) refl

no-refused : (x : List ℕ) → after (codes " refused ") (codes ", " ++ x) ≡ None
unfolding after
no-refused x = refl

aside-is : (n : ℕ) → n < 65536 → aside_at (codes ", " ++ (decimal n ++ others_text n)) ≡ Some (refused.Aside n)
unfolding aside_at
aside-is n fits =
    let low : ltb n 65536 ≡ true = lt-ltb n 65536 fits in
    rw (after-words (codes ", ") (decimal n ++ others_text n), number_at-decimal n (others_text n) (omega arith) (others-stop n), low)
    refl

refused-is : (r : Refused) → FitsRefused r → refused_at (refused_text r) ≡ Some r
unfolding refused_at
refused-is refused.Nothing fits = nothing-refused
refused-is (refused.Some n code) fits =
    rw (after-words (codes " refused ") (decimal n ++ (codes ", code " ++ (decimal code ++ (codes ", " ++ number_words (pos code))))))
    (refusals-is n code (number_words (pos code)) fits.0 fits.1 fits.2)
refused-is (refused.Aside n) fits = rw (no-refused (decimal n ++ others_text n)) (aside-is n fits)

refused-stops : (r : Refused) → starts is_ascii_digit (refused_text r) ≡ false
refused-stops refused.Nothing = refl
refused-stops (refused.Some n code) = refl
refused-stops (refused.Aside n) = refl

-- ---- no colon stands in the counts

code-free : (c : Code) → is_free 58 (code_words c) ≡ true
code-free code.Unread = refl
code-free _ = refl

refusal-free : (r : Refusal) → is_free 58 (refusal_words r) ≡ true
refusal-free refusal.BadPacket = refl
refusal-free _ = refl

words-free : (n : ℕ) → is_free 58 (number_words (pos n)) ≡ true
words-free n = by (code_numbered n)
  where
    refusals : (r : Option Refusal) → is_free 58 (option_map_or refusal_words r (codes "refused")) ≡ true
    refusals None = refl
    refusals (Some r) = refusal-free r

    by : (c : Option Code) → is_free 58 (option_map_or code_words c (refusal_number_words n)) ≡ true
    by None = refusals (refusal_numbered n)
    by (Some c) = code-free c

refused-free : (r : Refused) → FitsRefused r → is_free 58 (refused_text r) ≡ true
refused-free refused.Nothing fits = refl
refused-free (refused.Some n code) fits =
    free-append 58 (codes " refused ") (decimal n ++ (codes ", code " ++ (decimal code ++ (codes ", " ++ number_words (pos code))))) refl
    (free-append 58 (decimal n) (codes ", code " ++ (decimal code ++ (codes ", " ++ number_words (pos code))))
    (free-decimal 58 n refl (omega (arith, fits.1)))
    (free-append 58 (codes ", code ") (decimal code ++ (codes ", " ++ number_words (pos code))) refl
    (free-append 58 (decimal code) (codes ", " ++ number_words (pos code)) (free-decimal 58 code refl (omega (arith, fits.2)))
    (free-append 58 (codes ", ") (number_words (pos code)) refl (words-free code)))))
refused-free (refused.Aside n) fits =
    free-append 58 (codes ", ") (decimal n ++ others_text n) refl
    (free-append 58 (decimal n) (others_text n) (free-decimal 58 n refl (omega (arith, fits))) (by (n == 1)))
  where
    by : (t : Bool) → is_free 58 (if t then codes " other did not apply" else codes " others did not apply") ≡ true
    by true = refl
    by false = refl

-- ---- replies

-- what follows the word `made`
made_text : Asked → List ℕ
made_text a = decimal a.made ++ (codes " known " ++ (decimal a.known ++ refused_text a.refused))

made-free : (a : Asked) → FitsAsked a → is_free 58 (codes " made " ++ made_text a) ≡ true
unfolding made_text
made-free a fits =
    free-append 58 (codes " made ") (decimal a.made ++ (codes " known " ++ (decimal a.known ++ refused_text a.refused))) refl
    (free-append 58 (decimal a.made) (codes " known " ++ (decimal a.known ++ refused_text a.refused))
    (free-decimal 58 a.made refl (omega (arith, fits.made)))
    (free-append 58 (codes " known ") (decimal a.known ++ refused_text a.refused) refl
    (free-append 58 (decimal a.known) (refused_text a.refused) (free-decimal 58 a.known refl (omega (arith, fits.known)))
    (refused-free a.refused fits.refused))))

made-is : (a : Asked) → FitsAsked a → counts_at (made_text a) ≡ Some (a.made, a.known, a.refused)
unfolding made_text counts_at
made-is a fits =
    let low : ltb a.made 65536 ≡ true = lt-ltb a.made 65536 fits.made in
    let low_known : ltb a.known 65536 ≡ true = lt-ltb a.known 65536 fits.known in
    rw (
      number_at-decimal a.made (codes " known " ++ (decimal a.known ++ refused_text a.refused)) (omega (arith, fits.made)) refl,
      low,
      after-words (codes " known ") (decimal a.known ++ refused_text a.refused),
      number_at-decimal a.known (refused_text a.refused) (omega (arith, fits.known)) (refused-stops a.refused),
      low_known,
      refused-is a.refused fits.refused,
    ) refl

counts-is : (a : Asked) → counts_text a ≡ codes ": made " ++ made_text a
unfolding made_text counts_text
counts-is a = refl

-- nothing is added
body-short : (a : Asked) → FitsAsked a → body_at (a.address ++ (codes ": made " ++ made_text a)) ≡ Some (a.address, made_text a, [])
unfolding body_at
body-short a fits =
    rw (cut_last-is 58 a.address (codes " made " ++ made_text a) (made-free a fits), after-words (codes " made ") (made_text a)) refl

-- something is added
body-longer : (a : Asked) → FitsAsked a
    → body_at (a.address ++ ((codes ": made " ++ made_text a) ++ (codes ": " ++ a.more))) ≡ Some (a.address, made_text a, a.more)
unfolding body_at longer_at
body-longer a fits =
    ap body_at (sym (append_assoc a.address (codes ": made " ++ made_text a) (codes ": " ++ a.more)))
    ∙ rw (
      cut_last-is 58 (a.address ++ (codes ": made " ++ made_text a)) (codes " " ++ a.more) (free-append 58 (codes " ") a.more refl fits.plain),
      fits.other,
      cut_last-is 58 a.address (codes " made " ++ made_text a) (made-free a fits),
      after-words (codes " ") a.more,
      after-words (codes " made ") (made_text a),
    ) refl

body-is : (a : Asked) → FitsAsked a → body_at (body_text a) ≡ Some (a.address, made_text a, a.more)
body-is a fits = by a.more refl
  where
    by : (more : List ℕ) → a.more ≡ more → body_at (a.address ++ (counts_text a ++ more_text more)) ≡ Some (a.address, made_text a, more)
    by [] e =
        ap (λ x. body_at (a.address ++ x)) (append-nil (counts_text a) ∙ counts-is a) ∙ body-short a fits
    by (b ∷ bs) e =
        ap (λ x. body_at (a.address ++ (x ++ (codes ": " ++ b ∷ bs)))) (counts-is a)
        ∙ ap (λ m. body_at (a.address ++ ((codes ": made " ++ made_text a) ++ (codes ": " ++ m)))) (sym e)
        ∙ body-longer a fits
        ∙ ap (λ m. Some (a.address, made_text a, m)) e

sent-is : (a : Asked) → FitsAsked a → sent_at (body_text a ++ unsent_reply a.is_sent) ≡ (body_text a, a.is_sent)
unfolding sent_at
sent-is a fits = by a.is_sent refl
  where
    by : (sent : Bool) → a.is_sent ≡ sent → sent_at (body_text a ++ unsent_reply sent) ≡ (body_text a, sent)
    by true e = ap sent_at (append-nil (body_text a)) ∙ rw (fits.sent e) refl
    by false e = rw (before-words (codes ", the reply was not sent") (body_text a)) refl

asked-of-is : (a : Asked) → FitsAsked a → asked_of a.port (body_text a ++ unsent_reply a.is_sent) ≡ Some a
unfolding asked_of
asked-of-is a fits = rw (sent-is a fits, body-is a fits, made-is a fits) refl

asked-is : (a : Asked) → FitsAsked a → asked_at (asked_text a) ≡ Some a
unfolding asked_at asked_text
asked-is a fits =
    let low : ltb a.port 65536 ≡ true = lt-ltb a.port 65536 fits.port in
    rw (
      number_at-decimal a.port (codes " asked " ++ (body_text a ++ unsent_reply a.is_sent)) (omega (arith, fits.port)) refl,
      low,
      after-words (codes " asked ") (body_text a ++ unsent_reply a.is_sent),
    ) (asked-of-is a fits)

-- ---- which kind of line it is, by its front

guess-standby : (x : List ℕ) → guess (codes "STANDBY " ++ x) ≡ standby_at x
unfolding guess other_at after
guess-standby x = refl

guess-go : (x : List ℕ) → guess (codes "GO " ++ x) ≡ go_at x
unfolding guess other_at after
guess-go x = refl

guess-cancel : (x : List ℕ) → guess (codes "CANCEL " ++ x) ≡ cancel_at x
unfolding guess other_at after
guess-cancel x = refl

guess-end : (x : List ℕ) → guess (codes "END " ++ x) ≡ end_at x
unfolding guess other_at after
guess-end x = refl

guess-own : (x : List ℕ) → guess (codes "cuectl: " ++ x) ≡ own_at x
unfolding guess other_at said_at after
guess-own x = refl

guess-recovered : (x : List ℕ) → guess (codes "recovered: " ++ x) ≡ Some (line.Recovered x)
unfolding guess other_at said_at after
guess-recovered x = refl

guess-held : (x : List ℕ) → guess (codes "held up for " ++ x) ≡ held_at x
unfolding guess other_at said_at after
guess-held x = refl

guess-kinds : (x : List ℕ) → guess (codes "refused: of several kinds" ++ x) ≡ kinds_at x
unfolding guess other_at said_at after
guess-kinds x = refl

guess-digit : (text : List ℕ) → begins_with_digit text ≡ true → guess text ≡ replied_at text
unfolding guess
guess-digit text digit = rw digit refl

begins-asked : (a : Asked) (rest : List ℕ) → a.port < 65536 → begins_with_digit (asked_text a ++ rest) ≡ true
unfolding asked_text
begins-asked a rest fits =
    ap begins_with_digit (append_assoc (decimal a.port) (codes " asked " ++ (body_text a ++ unsent_reply a.is_sent)) rest)
    ∙ digit (decimal a.port ++ ((codes " asked " ++ (body_text a ++ unsent_reply a.is_sent)) ++ rest))
    (starts-decimal a.port ((codes " asked " ++ (body_text a ++ unsent_reply a.is_sent)) ++ rest) (omega arith))
  where
    digit : (text : List ℕ) → starts is_ascii_digit text ≡ true → begins_with_digit text ≡ true
    digit [] h = h
    digit (b ∷ bs) h = h

replied-is : (a : Asked) (c : Option Count) → FitsAsked a → FitsCounted a c
    → guess (asked_text a ++ counted_text c) ≡ Some (line.Replied a c)
unfolding replied_at
replied-is a None fits counted =
    guess-digit (asked_text a ++ []) (begins-asked a [] fits.port)
    ∙ ap replied_at (append-nil (asked_text a))
    ∙ rw (counted, asked-is a fits) refl
replied-is a (Some c) fits counted =
    guess-digit (asked_text a ++ count_text c) (begins-asked a (count_text c) fits.port)
    ∙ rw (count-is (asked_text a) c counted, asked-is a fits) refl

ready-is : (dir : List ℕ) (port : ℕ) → port < 65536 → own_at (codes "ready, " ++ (dir ++ home_text port)) ≡ Some (line.Ready dir port)
unfolding own_at ready_at home_text
ready-is dir port fits =
    let low : ltb port 65536 ≡ true = lt-ltb port 65536 fits in
    let digits = free-decimal 58 port refl (omega arith) in
    let cut : cut_last 58 (dir ++ (codes " at 127.0.0.1:" ++ decimal port)) ≡ Some (dir ++ codes " at 127.0.0.1", decimal port) =
    ap (cut_last 58) (sym (append_assoc dir (codes " at 127.0.0.1") (codes ":" ++ decimal port)))
    ∙ cut_last-is 58 (dir ++ codes " at 127.0.0.1") (decimal port) digits in
    let number : number_at (decimal port) ≡ (port, []) =
    ap number_at (sym (append-nil (decimal port))) ∙ number_at-decimal port [] (omega arith) refl in
    rw (
      after-words (codes "ready, ") (dir ++ (codes " at 127.0.0.1:" ++ decimal port)),
      cut,
      before-words (codes " at 127.0.0.1") dir,
      number,
      low,
    ) refl

stopped-is : own_at (codes "stopped") ≡ Some line.Stopped
unfolding own_at after
stopped-is = refl

own-is : (said : List ℕ) → FitsOwn said → own_at said ≡ Some (line.Own said)
unfolding own_at
own-is said fits = rw (fits.begun, fits.ended) refl

kinds-is : (c : Count) → FitsCount c → kinds_at (count_text c) ≡ Some (line.Kinds c)
kinds-is c fits = rw (count-is [] c fits) refl

held-is : (span : Span) → FitsSpan span → held_at (span_text span ++ codes ": what came in that time waited") ≡ Some (line.HeldUp span)
held-is span fits = rw (span-is span (codes ": what came in that time waited") fits) refl

ordered-is : (k : OrderKind) (o : Ordered) → o.kind ≡ k → FitsOrder o
    → guess (order_words k ++ (try_text o.attempt ++ to_text o)) ≡ Some (line.Ordered o)
ordered-is order.Standby o kind fits = guess-standby (try_text o.attempt ++ to_text o) ∙ standby-order o fits kind
ordered-is order.Go o kind fits = guess-go (try_text o.attempt ++ to_text o) ∙ go-order o fits kind
ordered-is order.Cancel o kind fits = guess-cancel (try_text o.attempt ++ to_text o) ∙ cancel-order o fits kind

-- what was written is what is guessed
guessed : (l : Line) → Fits l → guess (write l) ≡ Some l
unfolding write order_text end_text
guessed (line.Ready dir port) fits = guess-own (codes "ready, " ++ (dir ++ home_text port)) ∙ ready-is dir port fits
guessed line.Stopped fits = guess-own (codes "stopped") ∙ stopped-is
guessed (line.Own said) fits = guess-own said ∙ own-is said fits
guessed (line.Recovered list) fits = guess-recovered list
guessed (line.HeldUp span) fits = guess-held (span_text span ++ codes ": what came in that time waited") ∙ held-is span fits
guessed (line.Replied a c) fits = replied-is a c fits.0 fits.1
guessed (line.Kinds c) fits = guess-kinds (count_text c) ∙ kinds-is c fits
guessed (line.Ordered o) fits = ordered-is o.kind o refl fits
guessed (line.Alone t d) fits = guess-standby (try_text t ++ alone_text d) ∙ standby-alone t d fits.0 fits.1
guessed (line.GivenUp t w) fits = guess-cancel (try_text t ++ (codes ": " ++ why_text w)) ∙ cancel-given-up t w fits.0 fits.1
guessed (line.Ended e) fits = guess-end (try_text e.attempt ++ (codes ": " ++ ending_text e)) ∙ end-is e fits.0 fits.1

-- ---- the laws

pub lines-are-read-back : LinesAreReadBack
unfolding read
lines-are-read-back l fits = rw (guessed l fits, same_text-itself (write l)) refl

one-line : {l m : Line} → Some l ≡ Some m → l ≡ m
one-line h = cc

-- what is taken is written by the same bytes
taken : (text : List ℕ) (found : Option Line) (l : Line)
    → (found >>= λ m. if pointwise nat_eq (write m) text then Some m else None) ≡ Some l → text ≡ write l
taken text None l h = cc
taken text (Some m) l h = by (pointwise nat_eq (write m) text) refl h
  where
    by : (same : Bool) → pointwise nat_eq (write m) text ≡ same → (if same then Some m else None) ≡ Some l → text ≡ write l
    by true e k = sym (same_text-true (write m) text e) ∙ ap write (one-line k)
    by false e k = cc

pub only-lines-are-read : OnlyLinesAreRead
unfolding read
only-lines-are-read text l h = taken text (guess text) l h

pub lines-differ : LinesDiffer
lines-differ one other fits also same =
    one-line (sym (lines-are-read-back one fits) ∙ ap read same ∙ lines-are-read-back other also)
