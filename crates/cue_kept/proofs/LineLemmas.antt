-- Lines, and what each says: what was written is read back.
use Rattle.std.proofs.Common.{◌≡◌, ◌∙◌, ℕ, ◌+◌, ◌/◌, ◌%◌, ◌^◌, ◌<◌, ◌≤◌, Bool, true, false, not, ◌==◌, ◌&&◌, cond}
use Rattle.std.proofs.Common.{nat_le}
use Rattle.std.proofs.Common.{List, [], ◌∷◌, ◌++◌, length, take, drop, get_or, Option, Some, None}
use Rattle.std.proofs.Common.{refl, sym, ap, append_assoc, arith, ltb, length-take}
use Rattle.std.specs.Char.{is_ascii_digit}
use Rattle.std.specs.List.{list_all}
use Rattle.std.specs.Prelude.{decimal}
use Rattle.std.proofs.lemmas.Bool.{not-true, eqb-true, false_from_ne_true, lt-ltb, leb-true, le-leb}
use Rattle.std.proofs.lemmas.Bool.Decides.{nat_tests}
use Rattle.std.proofs.lemmas.Fmt.{decimal_by_steps}
use Rattle.std.proofs.lemmas.List.{get_or-take, get_or_default, drop_more, take-append-drop}
use Rattle.std.proofs.lemmas.List.Sums.{fold_push, list_all-from_AllPass}
use Rattle.memchr.specs.Find.{IsFirstByte, is_byte}
use Rattle.cue_exchange.specs.declared.attempt.Outcome.{Outcome}
use Rattle.cue_exchange.specs.declared.attempt.Outcome.TheVariants as outcome
use Rattle.cue_exchange.specs.declared.attempt.Reason.{Reason}
use Rattle.cue_exchange.specs.declared.attempt.Reason.TheVariants as reason
use Rattle.cue_log_lines.proofs.PieceLemmas.{after-words, free-append}
use Rattle.cue_log_lines.specs.Fitting.{FitsCue, is_free}
use Rattle.cue_log_lines.specs.Pieces.{next_number, number_of}
use Rattle.cue_show.proofs.RunsLemmas.{runs_from, runs_from-start}
use Rattle.cue_show.proofs.TestLemmas.{both}
use Rattle.cue_show.proofs.TextLemmas.{same_text-itself}
use Rattle.cue_show.specs.DeviceNumber.{is_device}
use Rattle.cue_show.specs.Number.{is_run, pieces}
use Rattle.cue_show.specs.declared.limits.TheConstants.{MAX_CUE_BYTES}
use Rattle.cue_words.specs.Answered.{outcome_words}
use Rattle.cue_kept.specs.declared.TheConstants.{MOST, VERSION}
use Rattle.cue_kept.specs.Reading.{cue, device, ending, few, line_at, number, said_at, value_at, version, why}
use Rattle.cue_kept.specs.Text.{cue_said, line_text, reason_said}

-- ---- lines

-- a line ends at its line feed
pub line-is : (line rest : List ℕ) → is_free 10 line ≡ true → line_at (line ++ 10 ∷ rest) ≡ Some (line, rest)
unfolding line_at
line-is [] rest free = refl
line-is (b ∷ bs) rest free =
    let parts = both (not (b == 10)) (is_free 10 bs) free in
    rw (not-true (b == 10) parts.0, line-is bs rest parts.1) refl

no-line : (text : List ℕ) → is_free 10 text ≡ true → line_at text ≡ None
unfolding line_at
no-line [] free = refl
no-line (b ∷ bs) free =
    let parts = both (not (b == 10)) (is_free 10 bs) free in
    rw (not-true (b == 10) parts.0, no-line bs parts.1) refl

-- where no line feed is, there is no line
pub line-none : (text : List ℕ) → IsFirstByte (is_byte 10) text None → line_at text ≡ None
line-none text h =
    no-line text (list_all-from_AllPass (λ x. not (x == 10)) text (λ k d low.
    ap not (false_from_ne_true (get_or text k d == 10)
    (λ e. h k (omega arith) low (ap (λ x. x == 10) (get_or_default text k 0 d low) ∙ e)))))

-- where the place of the first line feed is known, the line ends there
pub line-some : (k : ℕ) (text : List ℕ) → IsFirstByte (is_byte 10) text (Some k)
    → line_at text ≡ Some (take k text, drop (k + 1) text)
line-some k text h =
    let whole : text ≡ take k text ++ 10 ∷ drop (k + 1) text =
    sym (take-append-drop k text) ∙ ap (λ t. take k text ++ t) (drop_more text k 0 h.0.high)
    ∙ ap (λ x. take k text ++ x ∷ drop (k + 1) text) (eqb-true (get_or text k 0) 10 h.1) in
    let free : is_free 10 (take k text) ≡ true =
    list_all-from_AllPass (λ x. not (x == 10)) (take k text) (λ j d low.
    let before : j < k = omega (arith, length-take k text) in
    let within : j < length text = omega (arith, length-take k text) in
    ap not (false_from_ne_true (get_or (take k text) j d == 10) (λ e.
    h.0.before j (omega arith) before
    (ap (λ x. x == 10) (get_or_default text j 0 d within ∙ sym (get_or-take k text j d before)) ∙ e)))) in
    ap line_at whole ∙ line-is (take k text) (drop (k + 1) text) free

-- a line is read as what was written
pub value-is : {A : Type 0} (meaning : List ℕ → Option A) (words said rest : List ℕ) (v : A)
    → is_free 10 words ≡ true → is_free 10 said ≡ true → meaning said ≡ Some v
    → value_at meaning words (line_text words said ++ rest) ≡ Some (v, rest)
unfolding value_at said_at line_text
value-is meaning words said rest v free plain means =
    ap (value_at meaning words)
    (append_assoc words (said ++ 10 ∷ []) rest ∙ ap (λ x. words ++ x) (append_assoc said (10 ∷ []) rest)
    ∙ sym (append_assoc words said (10 ∷ rest)))
    ∙ rw (line-is (words ++ said) rest (free-append 10 words said free plain), after-words words said, means) refl

-- ---- numbers

number_of-decimal : (n : ℕ) → n < 2 ^ 64 → number_of (decimal n) ≡ n
number_of-decimal n fits = decimal_by_steps (λ m ds. m < 2 ^ 64 → number_of ds ≡ m)
    (λ m low small. omega arith)
    (λ m ds ten more small.
    let front : number_of ds ≡ m / 10 = more (omega arith) in
    fold_push next_number 0 ds (48 + m % 10) ∙ ap (λ k. next_number k (48 + m % 10)) front ∙ omega arith) n fits fits

pub number-is : (n : ℕ) → n < 4294967296 → number (decimal n) ≡ Some n
unfolding number
number-is n fits = rw (number_of-decimal n (omega arith), lt-ltb n 4294967296 fits, same_text-itself (decimal n)) refl

pub few-is : (n : ℕ) → n ≤ MOST → few (decimal n) ≡ Some n
unfolding few
few-is n low = rw (number-is n (omega arith), le-leb n MOST low) refl

pub version-is : version (decimal VERSION) ≡ Some VERSION
unfolding version
version-is = rw (number-is VERSION (omega arith)) refl

pub device-is : (d : ℕ) → is_device d ≡ true → device (decimal d) ≡ Some d
unfolding device
device-is d h =
    let low : d ≤ 111 = leb-true d 111 h in
    let byte : ltb d 256 ≡ true = lt-ltb d 256 (omega arith) in
    rw (number-is d (omega arith), byte, h) refl

-- ---- cues

free-runs : (after_digit : Bool) (text : List ℕ) → runs_from after_digit text ≡ true → is_free 10 text ≡ true
free-runs a [] h = refl
free-runs a (b ∷ bs) h = by (is_ascii_digit b) refl h (free-runs true bs) (free-runs false bs)
  where
    by : (d : Bool) → is_ascii_digit b ≡ d
        → cond d (runs_from true bs) (b == 46 && (a && runs_from false bs)) ≡ true
        → (runs_from true bs ≡ true → is_free 10 bs ≡ true) → (runs_from false bs ≡ true → is_free 10 bs ≡ true)
        → is_free 10 (b ∷ bs) ≡ true
    by true digit k after_digit after_point =
        let other : (b == 10) ≡ false = grind (arith, nat_tests) in
        rw (other, after_digit k) refl
    by false digit k after_digit after_point =
        let parts = both (b == 46) (a && runs_from false bs) k in
        let point : (b == 46) ≡ true = parts.0 in
        let other : (b == 10) ≡ false = grind (arith, nat_tests) in
        rw (other, after_point (both a (runs_from false bs) parts.1).1) refl

pub cue-free : (c : Option (List ℕ)) → FitsCue c → is_free 10 (cue_said c) ≡ true
cue-free None fits = refl
cue-free (Some c) fits =
    let runs = (both (nat_le (length c) MAX_CUE_BYTES) (list_all is_run (pieces c)) fits).1 in
    free-runs false c (runs_from-start c ∙ runs)

pub cue-is : (c : Option (List ℕ)) → FitsCue c → cue (cue_said c) ≡ Some c
unfolding cue
cue-is None fits = refl
cue-is (Some c) fits = rw fits refl

-- ---- how an attempt ended, and why

pub outcome-is : (o : Outcome) → ending (outcome_words o) ≡ Some o
outcome-is outcome.Complete = refl
outcome-is outcome.Cancelled = refl
outcome-is outcome.Failed = refl

pub outcome-free : (o : Outcome) → is_free 10 (outcome_words o) ≡ true
outcome-free outcome.Complete = refl
outcome-free outcome.Cancelled = refl
outcome-free outcome.Failed = refl

pub reason-is : (r : Option Reason) → why (reason_said r) ≡ Some r
unfolding why
reason-is None = refl
reason-is (Some reason.Operator) = refl
reason-is (Some reason.Deadline) = refl
reason-is (Some reason.Abort) = refl
reason-is (Some reason.Power) = refl
reason-is (Some reason.Release) = refl

pub reason-free : (r : Option Reason) → is_free 10 (reason_said r) ≡ true
reason-free None = refl
reason-free (Some reason.Operator) = refl
reason-free (Some reason.Deadline) = refl
reason-free (Some reason.Abort) = refl
reason-free (Some reason.Power) = refl
reason-free (Some reason.Release) = refl
