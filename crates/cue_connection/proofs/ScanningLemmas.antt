-- Where the head of a request ends.
use Rattle.std.proofs.Common.{◌≡◌, ◌≢◌, ◌∙◌, ◌⊎◌, refl, sym, ap, inl, inr, arith, ℕ, ◌+◌, ◌<◌, ◌≤◌, Bool, true, false}
use Rattle.std.proofs.Common.{List, [], ◌∷◌, ◌++◌, length, drop, get_or, Option, None, Some}
use Rattle.std.specs.Prelude.{◌-◌, ◌==◌, if◌then◌else◌}
use Rattle.std.proofs.lemmas.Bool.{eqb-true, or_cases}
use Rattle.std.proofs.lemmas.List.{at_drop_all, at_drop_more}
use Rattle.cue_connection.specs.Laws.{AreBlank, AreOfWord, EndsAtEmptyLine, with_word}
use Rattle.cue_connection.specs.Scanning.{after_all, after_byte, empty_line, end_of, end_or, ends_alone, first_end}
use Rattle.cue_connection.specs.Scanning.{is_line_feed, is_return, unread}
use Rattle.cue_connection.specs.declared.scanning.Place.TheVariants as place
use Rattle.cue_connection.specs.declared.scanning.Scan.{Scan}
use Rattle.cue_connection.specs.declared.scanning.Scan.TheVariants as scan
use Rattle.cue_connection.specs.declared.scanning.TheConstants.{MAX_FIELDS}

-- ---- one part after the other

pub all-append : (s : Scan) (before : ℕ) (a b : List ℕ)
    → after_all s before (a ++ b) ≡ after_all (after_all s before a) (before + length a) b
all-append s before [] b = ap (λ n. after_all s n b) (omega arith)
all-append s before (x ∷ a) b =
    all-append (after_byte s (before + 1) x) (before + 1) a b
    ∙ ap (λ n. after_all (after_all (after_byte s (before + 1) x) (before + 1) a) n b) (omega arith)

-- a head that has ended stays as it is, and so does one that is none
pub all-ended : (n before : ℕ) (bs : List ℕ) → after_all (scan.Ended n) before bs ≡ scan.Ended n
all-ended n before [] = refl
all-ended n before (b ∷ bs) = all-ended n (before + 1) bs

pub all-none : (before : ℕ) (bs : List ℕ) → after_all scan.NoHead before bs ≡ scan.NoHead
all-none before [] = refl
all-none before (b ∷ bs) = all-none (before + 1) bs

-- ---- it ends where the first empty line ends

-- where a head ends from the beginning of a line on, and from a carriage return there on
abbrev begin-end : ℕ → List ℕ → Option ℕ
begin-end n bs = end_or (empty_line bs) n (first_end n bs)

abbrev return-end : ℕ → List ℕ → Option ℕ
return-end n bs = if ends_alone bs then Some (n + 1) else first_end n bs

-- So it is in these bytes, wherever the first of them stands, if they do not make it none.
record AllEnd (bs : List ℕ) : Type 0 where
  line : (left n : ℕ) → after_all (scan.Open place.Line left) n bs ≢ scan.NoHead
      → end_of (after_all (scan.Open place.Line left) n bs) ≡ first_end n bs
  begin : (left n : ℕ) → after_all (scan.Open place.Begin left) n bs ≢ scan.NoHead
      → end_of (after_all (scan.Open place.Begin left) n bs) ≡ begin-end n bs
  back : (left n : ℕ) → after_all (scan.Open place.Return left) n bs ≢ scan.NoHead
      → end_of (after_all (scan.Open place.Return left) n bs) ≡ return-end n bs

at-line : (b : ℕ) (bs : List ℕ) (left n : ℕ) (v : Bool) → is_line_feed b ≡ v → AllEnd bs
    → after_all (scan.Open place.Line left) n (b ∷ bs) ≢ scan.NoHead
    → end_of (after_all (scan.Open place.Line left) n (b ∷ bs)) ≡ first_end n (b ∷ bs)
at-line b bs left n true e past ok = rw e (past.begin left (n + 1) (rw e at ok))
at-line b bs left n false e past ok = rw e (past.line left (n + 1) (rw e at ok))

at-return : (b : ℕ) (bs : List ℕ) (left n : ℕ) (v : Bool) → is_line_feed b ≡ v → AllEnd bs
    → after_all (scan.Open place.Return left) n (b ∷ bs) ≢ scan.NoHead
    → end_of (after_all (scan.Open place.Return left) n (b ∷ bs)) ≡ return-end n (b ∷ bs)
at-return b bs left n true e past ok = rw e (ap end_of (all-ended (n + 1) (n + 1) bs))
at-return b bs left n false e past ok = absurd ((rw e at ok) (all-none (n + 1) bs))

later-end : (b : ℕ) (bs : List ℕ) (n : ℕ) → is_line_feed b ≡ false → first_end n (b ∷ bs) ≡ first_end (n + 1) bs
later-end b bs n feed = rw feed refl

-- a carriage return at the beginning of a line
return-value : (b : ℕ) (bs : List ℕ) (n : ℕ) (v : Bool) → is_line_feed b ≡ false → is_return b ≡ true
    → ends_alone bs ≡ v → begin-end n (b ∷ bs) ≡ (if v then Some (n + 1 + 1) else first_end (n + 1) bs)
return-value b bs n true feed back e =
    let two : n + 2 ≡ n + 1 + 1 = omega arith in
    let empty : empty_line (b ∷ bs) ≡ Some 2 = rw (feed, back, e) refl in
    ap (λ o. end_or o n (first_end n (b ∷ bs))) empty ∙ ap Some two
return-value b bs n false feed back e =
    let empty : empty_line (b ∷ bs) ≡ None = rw (feed, back, e) refl in
    ap (λ o. end_or o n (first_end n (b ∷ bs))) empty ∙ later-end b bs n feed

begin-return : (b : ℕ) (bs : List ℕ) (left n : ℕ) → is_line_feed b ≡ false → is_return b ≡ true → AllEnd bs
    → after_all (scan.Open place.Begin left) n (b ∷ bs) ≢ scan.NoHead
    → end_of (after_all (scan.Open place.Begin left) n (b ∷ bs)) ≡ begin-end n (b ∷ bs)
begin-return b bs left n feed back past ok =
    let run : after_all (scan.Open place.Begin left) n (b ∷ bs) ≡ after_all (scan.Open place.Return left) (n + 1) bs =
    rw (feed, back) refl in
    ap end_of run ∙ past.back left (n + 1) (λ none. ok (run ∙ none))
    ∙ sym (return-value b bs n (ends_alone bs) feed back refl)

-- any other byte there
other-value : (b : ℕ) (bs : List ℕ) (n : ℕ) → is_line_feed b ≡ false → is_return b ≡ false
    → begin-end n (b ∷ bs) ≡ first_end (n + 1) bs
other-value b bs n feed back =
    let empty : empty_line (b ∷ bs) ≡ None = rw (feed, back) refl in
    ap (λ o. end_or o n (first_end n (b ∷ bs))) empty ∙ later-end b bs n feed

begin-other : (b : ℕ) (bs : List ℕ) (left n : ℕ) (z : Bool) → is_line_feed b ≡ false → is_return b ≡ false
    → (left == 0) ≡ z → AllEnd bs → after_all (scan.Open place.Begin left) n (b ∷ bs) ≢ scan.NoHead
    → end_of (after_all (scan.Open place.Begin left) n (b ∷ bs)) ≡ begin-end n (b ∷ bs)
begin-other b bs left n true feed back z past ok = absurd ((rw (feed, back, z) at ok) (all-none (n + 1) bs))
begin-other b bs left n false feed back z past ok =
    let run : after_all (scan.Open place.Begin left) n (b ∷ bs)
    ≡ after_all (scan.Open place.Line (left - 1)) (n + 1) bs =
    rw (feed, back, z) refl in
    ap end_of run ∙ past.line (left - 1) (n + 1) (λ none. ok (run ∙ none)) ∙ sym (other-value b bs n feed back)

begin-more : (b : ℕ) (bs : List ℕ) (left n : ℕ) (v w : Bool) → is_line_feed b ≡ v → is_return b ≡ w → AllEnd bs
    → after_all (scan.Open place.Begin left) n (b ∷ bs) ≢ scan.NoHead
    → end_of (after_all (scan.Open place.Begin left) n (b ∷ bs)) ≡ begin-end n (b ∷ bs)
begin-more b bs left n true w feed back past ok = rw feed (ap end_of (all-ended (n + 1) (n + 1) bs))
begin-more b bs left n false true feed back past ok = begin-return b bs left n feed back past ok
begin-more b bs left n false false feed back past ok =
    begin-other b bs left n (left == 0) feed back refl past ok

all-end : (bs : List ℕ) → AllEnd bs
all-end [] = record { line = λ left n ok. refl; begin = λ left n ok. refl; back = λ left n ok. refl }
all-end (b ∷ bs) =
    let past : AllEnd bs = all-end bs in
    record {
      line = λ left n ok. at-line b bs left n (is_line_feed b) refl past ok;
      begin = λ left n ok. begin-more b bs left n (is_line_feed b) (is_return b) refl refl past ok;
      back = λ left n ok. at-return b bs left n (is_line_feed b) refl past ok;
    }

-- ---- before the first line

blank-byte : (b left n : ℕ) → (is_return b ≡ true) ⊎ (is_line_feed b ≡ true)
    → after_byte (scan.Open place.Blank left) n b ≡ scan.Open place.Blank left
blank-byte b left n (inl e) = rw (eqb-true b 13 e) refl
blank-byte b left n (inr e) = rw (eqb-true b 10 e) refl

after-blank : (blank : List ℕ) (left n : ℕ) → AreBlank blank
    → after_all (scan.Open place.Blank left) n blank ≡ scan.Open place.Blank left
after-blank [] left n are = refl
after-blank (b ∷ blank) left n are =
    ap (λ s. after_all s (n + 1) blank)
    (blank-byte b left (n + 1) (or_cases (is_return b) (is_line_feed b) are.0))
    ∙ after-blank blank left (n + 1) are.1

after-word : (word : List ℕ) (left n : ℕ) → AreOfWord word
    → after_all (scan.Open place.Word left) n word ≡ scan.Open place.Word left
after-word [] left n are = refl
after-word (b ∷ word) left n are = rw are.0 (after-word word left (n + 1) are.1)

after-first : (b : ℕ) (word : List ℕ) (left n : ℕ) → AreOfWord (b ∷ word)
    → after_all (scan.Open place.Blank left) n (b ∷ word) ≡ scan.Open place.Word left
after-first b word left n are = rw are.0 (after-word word left (n + 1) are.1)

-- after ends of lines, a first word and a space a line has begun
after-space : (blank : List ℕ) (first : ℕ) (word rest : List ℕ) → AreBlank blank → AreOfWord (first ∷ word)
    → after_all unread 0 (with_word blank first word rest)
    ≡ after_all (scan.Open place.Line MAX_FIELDS) (length (blank ++ (first ∷ word)) + 1) rest
after-space blank first word rest are of =
    let start : List ℕ = blank ++ (first ∷ word) in
    let begun : after_all unread 0 start ≡ scan.Open place.Word MAX_FIELDS =
    all-append unread 0 blank (first ∷ word)
    ∙ ap (λ s. after_all s (0 + length blank) (first ∷ word)) (after-blank blank MAX_FIELDS 0 are)
    ∙ after-first first word MAX_FIELDS (0 + length blank) of in
    all-append unread 0 start (32 ∷ rest)
    ∙ ap (λ s. after_all s (0 + length start) (32 ∷ rest)) begun
    ∙ ap (λ n. after_all (scan.Open place.Line MAX_FIELDS) n rest) (omega arith)

pub ends-at_empty_line : EndsAtEmptyLine
ends-at_empty_line blank first word rest are of ok =
    let same : after_all unread 0 (with_word blank first word rest)
    ≡ after_all (scan.Open place.Line MAX_FIELDS) (length (blank ++ (first ∷ word)) + 1) rest =
    after-space blank first word rest are of in
    ap end_of same
    ∙ (all-end rest).line MAX_FIELDS (length (blank ++ (first ∷ word)) + 1) (λ none. ok (same ∙ none))

-- ---- byte by byte

-- one byte more of those that are left
pub all-more : (s t : Scan) (before i b : ℕ) (bs : List ℕ) → i < length bs → b ≡ get_or bs i 0
    → t ≡ after_byte s (before + i + 1) b
    → after_all t (before + (i + 1)) (drop (i + 1) bs) ≡ after_all s (before + i) (drop i bs)
all-more s t before i b bs within is next =
    let rest : List ℕ = drop (i + 1) bs in
    sym (at_drop_more (λ l. after_all s (before + i) l) bs i 0 within
    ∙ ap (λ x. after_all (after_byte s (before + i + 1) x) (before + i + 1) rest) (sym is)
    ∙ ap (λ x. after_all x (before + i + 1) rest) (sym next) ∙ ap (λ n. after_all t n rest) (omega arith))

-- none are left
pub all-done : (s : Scan) (n i : ℕ) (bs : List ℕ) → length bs ≤ i → after_all s n (drop i bs) ≡ s
all-done s n i bs long = at_drop_all (λ l. after_all s n l) bs i long
