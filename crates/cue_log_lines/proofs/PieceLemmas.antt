-- Pieces of a line: what was put together is taken apart again.
use Rattle.std.proofs.Common.{◌≡◌, ◌≢◌, ◌∙◌, ℕ, ◌+◌, ◌-◌, ◌*◌, ◌/◌, ◌%◌, ◌^◌, ◌<◌, ◌≤◌, min, Bool, true, false, not, ◌==◌, ◌&&◌, cond, nat_le}
use Rattle.std.proofs.Common.{if◌then◌else◌, List, [], ◌∷◌, ◌++◌, length, take, drop, get_or, Option, Some, None}
use Rattle.std.proofs.Common.{refl, sym, ap, subst, append_assoc, append-nil, arith, rules, nat_eq, nat_lt, ltb, length-append, length-drop}
use Rattle.std.specs.Char.{is_ascii_digit}
use Rattle.std.specs.Cmp.Lexicographic.{pointwise}
use Rattle.std.specs.Prelude.{decimal, position, IfSome, IfNone}
use Rattle.std.specs.List.{fold, list_all, position_or_len, prefix_len}
use Rattle.std.proofs.lemmas.Bool.{not-true, eqb-true, eq-eqb, false_from_ne_true, false≢true, ltb-false, lt-ltb, leb-true}
use Rattle.std.proofs.lemmas.Bool.Decides.{nat_tests}
use Rattle.std.proofs.lemmas.Fmt.{decimal_by_steps, decimal_nonempty}
use Rattle.std.proofs.lemmas.List.{get_or-drop, get_or_default, drop_more, take-append-drop}
use Rattle.std.proofs.lemmas.List.Folds.{prefix_len-append, list_all-append}
use Rattle.std.proofs.lemmas.List.Sums.{prefix_len-le-length, fold_push, list_all-from_AllPass}
use Rattle.std.proofs.Math.Seq.{drop-append_seam, take-append_seam}
use Rattle.memchr.specs.Find.{IsLastByte, is_byte}
use Rattle.cue_show.proofs.RunsLemmas.{runs_from, runs_from-start}
use Rattle.cue_show.proofs.TestLemmas.{both, join}
use Rattle.cue_show.proofs.TextLemmas.{same_text-itself}
use Rattle.cue_show.specs.DeviceNumber.{is_device}
use Rattle.cue_show.specs.Number.{is_cue_number, is_run, pieces}
use Rattle.cue_show.specs.declared.limits.TheConstants.{MAX_CUE_BYTES}
use Rattle.std.specs.Option.{unwrap_or}
use Rattle.cue_log_lines.specs.Fitting.{is_free}
use Rattle.cue_log_lines.specs.Pieces.{after, before, cut_last, longer, cue_at, device_at, end_of, is_cue_sign, next_number, number_of, number_at}

-- ---- the last of a sign

cut-none : (b : ℕ) (text : List ℕ) → is_free b text ≡ true → cut_last b text ≡ None
unfolding cut_last
cut-none b [] free = refl
cut-none b (c ∷ cs) free =
    let parts = both (not (c == b)) (is_free b cs) free in
    rw (cut-none b cs parts.1, not-true (c == b) parts.0) refl

-- what stands after the last of a byte has none of it
pub cut_last-is : (b : ℕ) (x y : List ℕ) → is_free b y ≡ true → cut_last b (x ++ b ∷ y) ≡ Some (x, y)
unfolding cut_last
cut_last-is b [] y free = let same : (b == b) ≡ true = grind (arith, nat_tests) in rw (cut-none b y free, same) refl
cut_last-is b (c ∷ x) y free = rw (cut_last-is b x y free) refl

-- where a byte is nowhere, nothing is cut
pub cut_last-none : (b : ℕ) (text : List ℕ) → IsLastByte (is_byte b) text None → cut_last b text ≡ None
cut_last-none b text h =
    cut-none b text (list_all-from_AllPass (λ x. not (x == b)) text (λ k d low.
    ap not (false_from_ne_true (get_or text k d == b)
    (λ e. h k (omega arith) low (ap (λ x. x == b) (get_or_default text k 0 d low) ∙ e)))))

-- where its last place is known, it is cut there
pub cut_last-some : (b k : ℕ) (text : List ℕ) → IsLastByte (is_byte b) text (Some k)
    → cut_last b text ≡ Some (take k text, drop (k + 1) text)
cut_last-some b k text h =
    let whole : text ≡ take k text ++ b ∷ drop (k + 1) text =
    sym (take-append-drop k text) ∙ ap (λ t. take k text ++ t) (drop_more text k 0 h.0.high)
    ∙ ap (λ x. take k text ++ x ∷ drop (k + 1) text) (eqb-true (get_or text k 0) b h.1) in
    let free : is_free b (drop (k + 1) text) ≡ true =
    list_all-from_AllPass (λ x. not (x == b)) (drop (k + 1) text) (λ j d low.
    ap not (false_from_ne_true (get_or (drop (k + 1) text) j d == b) (λ e.
    let in_text : k + 1 + j < length text = omega (arith, length-drop (k + 1) text) in
    h.0.after (k + 1 + j) (omega arith) in_text
    (ap (λ x. x == b) (get_or_default text (k + 1 + j) 0 d in_text ∙ sym (get_or-drop (k + 1) text j d)) ∙ e)))) in
    ap (cut_last b) whole ∙ cut_last-is b (take k text) (drop (k + 1) text) free

-- ---- words at the front and at the end

pub after-words : (words rest : List ℕ) → after words (words ++ rest) ≡ Some rest
unfolding after
after-words words rest =
    rw (take-append_seam words rest, drop-append_seam words rest, same_text-itself words) refl

pub before-words : (words front : List ℕ) → before words (front ++ words) ≡ Some front
unfolding before
before-words words front =
    let at : length (front ++ words) - length words ≡ length front = omega (arith, length-append front words) in
    rw (at, take-append_seam front words, drop-append_seam front words, same_text-itself words) refl

-- ---- what passes a test, at the front

-- the first byte passes
abbrev pub starts : (ℕ → Bool) → List ℕ → Bool
starts p [] = false
starts p (b ∷ bs) = p b

place-is : (p : ℕ → Bool) (front rest : List ℕ) → list_all p front ≡ true → starts p rest ≡ false
    → position_or_len (λ x. not (p x)) (front ++ rest) ≡ length front
place-is p [] [] all stops = refl
place-is p [] (b ∷ bs) all stops = rw stops refl
place-is p (b ∷ front) rest all stops =
    let parts = both (p b) (list_all p front) all in
    rw (parts.0, place-is p front rest parts.1 stops) (omega arith)

place-or-length : (n l : ℕ) → n ≤ l → unwrap_or (cond (ltb n l) (Some n) None) l ≡ n
place-or-length n l low = by (ltb n l) refl
  where
    by : (b : Bool) → ltb n l ≡ b → unwrap_or (cond b (Some n) None) l ≡ n
    by true e = refl
    by false e = omega (arith, ltb-false n l e)

pub end_of-is : (p : ℕ → Bool) (front rest : List ℕ) → list_all p front ≡ true → starts p rest ≡ false
    → end_of p (front ++ rest) ≡ length front
end_of-is p front rest all stops =
    place-or-length (position_or_len (λ x. not (p x)) (front ++ rest)) (length (front ++ rest))
    (prefix_len-le-length (λ x. not (not (p x))) (front ++ rest))
    ∙ place-is p front rest all stops

-- ---- numbers

digits-decimal : (n : ℕ) → n < 2 ^ 64 → list_all is_ascii_digit (decimal n) ≡ true
digits-decimal n fits = decimal_by_steps (λ m ds. list_all is_ascii_digit ds ≡ true)
    (λ m low. grind (arith, nat_tests))
    (λ m ds ten all. list_all-append is_ascii_digit ds ((48 + m % 10) ∷ [])
    ∙ (let digit : is_ascii_digit (48 + m % 10) ≡ true = grind (arith, nat_tests) in rw (all, digit) refl)) n fits

number_of-decimal : (n : ℕ) → n < 2 ^ 64 → number_of (decimal n) ≡ n
number_of-decimal n fits = decimal_by_steps (λ m ds. m < 2 ^ 64 → number_of ds ≡ m)
    (λ m low small. omega arith)
    (λ m ds ten more small.
    let front : number_of ds ≡ m / 10 = more (omega arith) in
    fold_push next_number 0 ds (48 + m % 10) ∙ ap (λ k. next_number k (48 + m % 10)) front ∙ omega arith) n fits fits

-- a number is read as what was written, if no digit follows
pub number_at-decimal : (n : ℕ) (rest : List ℕ) → n < 2 ^ 64 → starts is_ascii_digit rest ≡ false
    → number_at (decimal n ++ rest) ≡ (n, rest)
unfolding number_at
number_at-decimal n rest fits stops =
    rw (
      end_of-is is_ascii_digit (decimal n) rest (digits-decimal n fits) stops,
      take-append_seam (decimal n) rest,
      drop-append_seam (decimal n) rest,
      number_of-decimal n fits,
    ) refl

-- a sign that is no digit is not among digits
free-digits : (b : ℕ) (ds : List ℕ) → is_ascii_digit b ≡ false → list_all is_ascii_digit ds ≡ true → is_free b ds ≡ true
free-digits b [] other all = refl
free-digits b (d ∷ ds) other all =
    let parts = both (is_ascii_digit d) (list_all is_ascii_digit ds) all in
    let apart : (d == b) ≡ false = false_from_ne_true (d == b) (λ e.
    false≢true (sym other ∙ ap is_ascii_digit (sym (eqb-true d b e)) ∙ parts.0)) in
    rw (apart, free-digits b ds other parts.1) refl

pub free-decimal : (b n : ℕ) → is_ascii_digit b ≡ false → n < 2 ^ 64 → is_free b (decimal n) ≡ true
free-decimal b n other fits = free-digits b (decimal n) other (digits-decimal n fits)

pub free-append : (b : ℕ) (xs ys : List ℕ) → is_free b xs ≡ true → is_free b ys ≡ true → is_free b (xs ++ ys) ≡ true
free-append b xs ys front back = list_all-append (λ x. not (x == b)) xs ys ∙ rw (front, back) refl

-- a number begins with a digit
pub starts-decimal : (n : ℕ) (rest : List ℕ) → n < 2 ^ 64 → starts is_ascii_digit (decimal n ++ rest) ≡ true
starts-decimal n rest fits = by (decimal n) (digits-decimal n fits) (decimal_nonempty n fits)
  where
    by : (ds : List ℕ) → list_all is_ascii_digit ds ≡ true → 0 < length ds → starts is_ascii_digit (ds ++ rest) ≡ true
    by [] all some = absurd (omega arith)
    by (d ∷ ds) all some = (both (is_ascii_digit d) (list_all is_ascii_digit ds) all).0

-- a device is read as what was written
pub device_at-decimal : (d : ℕ) (rest : List ℕ) → is_device d ≡ true → starts is_ascii_digit rest ≡ false
    → device_at (decimal d ++ rest) ≡ Some (d, rest)
unfolding device_at
device_at-decimal d rest device stops =
    let low : d ≤ 111 = leb-true d 111 device in
    let byte : ltb d 256 ≡ true = lt-ltb d 256 (omega arith) in
    rw (number_at-decimal d rest (omega arith) stops, byte, device) refl

-- ---- cue numbers

signs-of-runs : (after_digit : Bool) (text : List ℕ) → runs_from after_digit text ≡ true
    → list_all is_cue_sign text ≡ true
signs-of-runs a [] h = refl
signs-of-runs a (b ∷ bs) h = by (is_ascii_digit b) (b == 46) refl refl (signs-of-runs true bs) (signs-of-runs false bs)
  where
    by : (d p : Bool) → is_ascii_digit b ≡ d → (b == 46) ≡ p
        → (runs_from true bs ≡ true → list_all is_cue_sign bs ≡ true)
        → (runs_from false bs ≡ true → list_all is_cue_sign bs ≡ true)
        → list_all is_cue_sign (b ∷ bs) ≡ true
    by true p digit point after_digit after_point =
        let rest : runs_from true bs ≡ true = subst
        (λ t. cond t (runs_from true bs) (b == 46 && (a && runs_from false bs)) ≡ true) digit h in
        rw (digit, after_digit rest) refl
    by false true digit point after_digit after_point =
        let rest : (a && runs_from false bs) ≡ true = subst (λ t. (t && (a && runs_from false bs)) ≡ true) point
        (subst (λ t. cond t (runs_from true bs) (b == 46 && (a && runs_from false bs)) ≡ true) digit h) in
        rw (digit, point, after_point (both a (runs_from false bs) rest).1) refl
    by false false digit point after_digit after_point =
        let no : false ≡ true = subst (λ t. (t && (a && runs_from false bs)) ≡ true) point
        (subst (λ t. cond t (runs_from true bs) (b == 46 && (a && runs_from false bs)) ≡ true) digit h) in
        absurd (false≢true no)

-- a cue number is read as what was written, if no digit and no point follows
pub cue_at-cue : (cue rest : List ℕ) → is_cue_number cue ≡ true → starts is_cue_sign rest ≡ false
    → cue_at (cue ++ rest) ≡ Some (cue, rest)
unfolding cue_at
cue_at-cue cue rest h stops =
    let runs = (both (nat_le (length cue) MAX_CUE_BYTES) (list_all is_run (pieces cue)) h).1 in
    let signs = signs-of-runs false cue (runs_from-start cue ∙ runs) in
    rw (end_of-is is_cue_sign cue rest signs stops, take-append_seam cue rest, drop-append_seam cue rest, h) refl
