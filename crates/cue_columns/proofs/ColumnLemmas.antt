-- Texts in columns of a terminal.
use Rattle.std.proofs.Common.{◌≡◌, ◌∙◌, ◌<◌, ◌≤◌, ◌+◌, ◌-◌, ◌*◌, ℕ, List, [], ◌∷◌, ◌++◌, length, get_or, drop}
use Rattle.std.proofs.Common.{Bool, true, false, cond, encode_utf8, encode_utf8_all}
use Rattle.std.proofs.Common.{refl, sym, ap, subst, arith, append_assoc, append-nil, length-append}
use Rattle.std.specs.Prelude.{IsTrue, ◌&&◌, ◌⊎◌, nat_le, String, string_bytes}
use Rattle.std.specs.declared.alloc.Global.{Global}
use Rattle.std.specs.Char.{len_utf8}
use Rattle.std.specs.List.{All, sum_by}
use Rattle.std.specs.Str.{chars}
use Rattle.std.proofs.lemmas.Bool.Decides.{nat_tests}
use Rattle.std.proofs.lemmas.List.{at_drop_all, at_drop_more}
use Rattle.std.proofs.lemmas.List.Elements.{All-append, All-cons, All-nil}
use Rattle.std.proofs.lemmas.List.Sums.{sum_by-cons}
use Rattle.std.proofs.lemmas.Str.{length-encode}
use Rattle.cue_words.specs.Signs.{is_shown}
use Rattle.cue_columns.specs.Columns.{AreFit, IsFit, Keeps, fit_of, fit_signs, has_room, sign_of, width_of}
use Rattle.cue_columns.specs.declared.columns.TheConstants.{COLUMNS}

-- ---- what fits is narrow, short and safe

shown_by : (b : Bool) (c : ℕ) → is_shown c ≡ b → IsTrue (is_shown (cond b c 63))
shown_by true c e = e
shown_by false c e = refl

-- what a terminal may get is a sign that it shows
sign_safe : (c : ℕ) → IsTrue (is_shown (sign_of c))
unfolding sign_of
sign_safe c = shown_by (is_shown c) c refl

both : (w left b room : ℕ) → (nat_le w left && nat_le b room) ≡ true → (w ≤ left) × (b ≤ room)
both w left b room h = grind (arith, nat_tests)

narrow_by : (t : Bool) (left w s : ℕ) (rest : List ℕ) → width_of s ≡ w → (t ≡ true → w ≤ left)
    → sum_by width_of rest ≤ left - w → sum_by width_of (cond t (s ∷ rest) []) ≤ left
narrow_by true left w s rest e fits more =
    let h : w ≤ left = fits refl in omega (arith, sum_by-cons width_of s rest)
narrow_by false left w s rest e fits more = omega arith

narrow : (left room : ℕ) (cs : List ℕ) → sum_by width_of (fit_signs left room cs) ≤ left
narrow left room [] = omega arith
narrow left room (c ∷ cs) =
    let s : ℕ = sign_of c in
    narrow_by (has_room left room s) left (width_of s) s (fit_signs (left - width_of s) (room - len_utf8 s) cs) refl
    (λ t. (both (width_of s) left (len_utf8 s) room t).0) (narrow (left - width_of s) (room - len_utf8 s) cs)

short_by : (t : Bool) (room b s : ℕ) (rest : List ℕ) → length (encode_utf8 s) ≡ b → (t ≡ true → b ≤ room)
    → length (encode_utf8_all rest) ≤ room - b → length (encode_utf8_all (cond t (s ∷ rest) [])) ≤ room
short_by true room b s rest e fits more =
    let h : b ≤ room = fits refl in omega (arith, length-append (encode_utf8 s) (encode_utf8_all rest))
short_by false room b s rest e fits more = omega arith

short : (left room : ℕ) (cs : List ℕ) → length (encode_utf8_all (fit_signs left room cs)) ≤ room
short left room [] = omega arith
short left room (c ∷ cs) =
    let s : ℕ = sign_of c in
    short_by (has_room left room s) room (len_utf8 s) s (fit_signs (left - width_of s) (room - len_utf8 s) cs)
    (length-encode s) (λ t. (both (width_of s) left (len_utf8 s) room t).1)
    (short (left - width_of s) (room - len_utf8 s) cs)

abbrev AreShown : List ℕ → Type 0
AreShown cs = All (λ c. IsTrue (is_shown c)) cs

safe_by : (t : Bool) (s : ℕ) (rest : List ℕ) → IsTrue (is_shown s) → AreShown rest → AreShown (cond t (s ∷ rest) [])
safe_by true s rest h more = All-cons (λ c. IsTrue (is_shown c)) s rest h more
safe_by false s rest h more = All-nil (λ c. IsTrue (is_shown c))

safe : (left room : ℕ) (cs : List ℕ) → AreShown (fit_signs left room cs)
safe left room [] = All-nil (λ c. IsTrue (is_shown c))
safe left room (c ∷ cs) =
    let s : ℕ = sign_of c in
    safe_by (has_room left room s) s (fit_signs (left - width_of s) (room - len_utf8 s) cs) (sign_safe c)
    (safe (left - width_of s) (room - len_utf8 s) cs)

-- as much of a text as fits is fit for a terminal
pub fit_where : (columns : ℕ) (text fit : List ℕ) → fit ≡ fit_of columns text → IsFit columns fit
unfolding fit_of
fit_where columns text fit e = record {
  signs = fit_signs columns (4 * columns) (chars text);
  spelled = e;
  narrow = narrow columns (4 * columns) (chars text);
  short = subst (λ t. length t ≤ 4 * columns) (sym e) (short columns (4 * columns) (chars text));
  safe = safe columns (4 * columns) (chars text);
}

-- ---- one character after the other

-- what a loop over the characters has put there, and what it would put there of the others, is the whole
abbrev pub IsWay : ℕ → ℕ → ℕ → List ℕ → List ℕ → List ℕ → Type 0
IsWay left room n cs fit whole = fit ++ encode_utf8_all (fit_signs left room (drop n cs)) ≡ whole

-- at the first character
pub way_start : (columns : ℕ) (text fit : List ℕ) → fit ≡ []
    → IsWay columns (4 * columns) 0 (chars text) fit (fit_of columns text)
unfolding fit_of
way_start columns text fit e =
    ap (λ t. t ++ encode_utf8_all (fit_signs columns (4 * columns) (chars text))) e

-- the next character
signs_more : (left room n c : ℕ) (cs : List ℕ) → (n < length cs) × (c ≡ get_or cs n c)
    → fit_signs left room (drop n cs) ≡ fit_signs left room (c ∷ drop (n + 1) cs)
signs_more left room n c cs h =
    at_drop_more (fit_signs left room) cs n c h.0 ∙ ap (λ x. fit_signs left room (x ∷ drop (n + 1) cs)) (sym h.1)

push_by : (t : Bool) (s : ℕ) (fit rest whole : List ℕ) → t ≡ true
    → fit ++ encode_utf8_all (cond t (s ∷ rest) []) ≡ whole → (fit ++ encode_utf8 s) ++ encode_utf8_all rest ≡ whole
push_by true s fit rest whole t e = append_assoc fit (encode_utf8 s) (encode_utf8_all rest) ∙ e
push_by false s fit rest whole t e = cc

room_when : (w left b room : ℕ) → w ≤ left → b ≤ room → (nat_le w left && nat_le b room) ≡ true
room_when w left b room h k = grind (arith, nat_tests)

room_unless : (w left b room : ℕ) → (left < w) ⊎ (room < b) → (nat_le w left && nat_le b room) ≡ false
room_unless w left b room h = grind (arith, nat_tests)

-- it has room, and is put there
push : (left room n c : ℕ) (cs fit whole : List ℕ) → (n < length cs) × (c ≡ get_or cs n c)
    → width_of (sign_of c) ≤ left → len_utf8 (sign_of c) ≤ room → IsWay left room n cs fit whole
    → IsWay (left - width_of (sign_of c)) (room - len_utf8 (sign_of c)) (n + 1) cs (fit ++ encode_utf8 (sign_of c))
    whole
push left room n c cs fit whole h narrow short way =
    let s : ℕ = sign_of c in
    let rest : List ℕ = fit_signs (left - width_of s) (room - len_utf8 s) (drop (n + 1) cs) in
    push_by (has_room left room s) s fit rest whole (room_when (width_of s) left (len_utf8 s) room narrow short)
    (ap (λ l. fit ++ encode_utf8_all l) (sym (signs_more left room n c cs h)) ∙ way)

pub way_push : (left room n m c s w b : ℕ) (cs fit new whole : List ℕ) → (n < length cs) × (c ≡ get_or cs n c)
    → s ≡ sign_of c → w ≡ width_of s → b ≡ len_utf8 s → m ≡ n + 1 → w ≤ left → b ≤ room
    → new ≡ fit ++ encode_utf8 s → IsWay left room n cs fit whole → IsWay (left - w) (room - b) m cs new whole
way_push left room n m c s w b cs fit new whole h is wide long next narrow short e way =
    let at : w ≡ width_of (sign_of c) = wide ∙ ap width_of is in
    let size : b ≡ len_utf8 (sign_of c) = long ∙ ap len_utf8 is in
    let more : new ≡ fit ++ encode_utf8 (sign_of c) = e ∙ ap (λ x. fit ++ encode_utf8 x) is in
    let pushed =
    push left room n c cs fit whole h (subst (λ x. x ≤ left) at narrow) (subst (λ x. x ≤ room) size short) way in
    subst (λ x. IsWay (left - x) (room - b) m cs new whole) (sym at)
    (subst (λ x. IsWay (left - width_of (sign_of c)) (room - x) m cs new whole) (sym size)
    (subst (λ x. IsWay (left - width_of (sign_of c)) (room - len_utf8 (sign_of c)) x cs new whole) (sym next)
    (subst (λ x. IsWay (left - width_of (sign_of c)) (room - len_utf8 (sign_of c)) (n + 1) cs x whole) (sym more)
    pushed)))

stop_by : (t : Bool) (s : ℕ) (fit rest whole : List ℕ) → t ≡ false
    → fit ++ encode_utf8_all (cond t (s ∷ rest) []) ≡ whole → fit ≡ whole
stop_by true s fit rest whole t e = cc
stop_by false s fit rest whole t e = sym (append-nil fit) ∙ e

-- it has no room, and neither has anything after it
pub way_stop : (left room n c s w b : ℕ) (cs fit whole : List ℕ) → (n < length cs) × (c ≡ get_or cs n c)
    → s ≡ sign_of c → w ≡ width_of s → b ≡ len_utf8 s → (left < w) ⊎ (room < b) → IsWay left room n cs fit whole
    → fit ≡ whole
way_stop left room n c s w b cs fit whole h is wide long full way =
    let rest : List ℕ = fit_signs (left - width_of (sign_of c)) (room - len_utf8 (sign_of c)) (drop (n + 1) cs) in
    let at : w ≡ width_of (sign_of c) = wide ∙ ap width_of is in
    let size : b ≡ len_utf8 (sign_of c) = long ∙ ap len_utf8 is in
    let none = room_unless w left b room full in
    let test : has_room left room (sign_of c) ≡ false =
    subst (λ x. (nat_le x left && nat_le (len_utf8 (sign_of c)) room) ≡ false) at
    (subst (λ x. (nat_le w left && nat_le x room) ≡ false) size none) in
    stop_by (has_room left room (sign_of c)) (sign_of c) fit rest whole test
    (ap (λ l. fit ++ encode_utf8_all l) (sym (signs_more left room n c cs h)) ∙ way)

-- no character is left
pub way_end : (left room n : ℕ) (cs fit whole : List ℕ) → length cs ≤ n → IsWay left room n cs fit whole → fit ≡ whole
way_end left room n cs fit whole h way =
    sym (append-nil fit) ∙ ap (λ l. fit ++ encode_utf8_all l) (sym (at_drop_all (fit_signs left room) cs n h)) ∙ way

-- ---- lines

-- one more line that fits
pub are_fit_push : (all more : List (String Global)) (line : String Global) → AreFit all
    → IsFit COLUMNS (string_bytes line) → more ≡ all ++ line ∷ [] → AreFit more
are_fit_push all more line h one e =
    let P : String Global → Type 0 = λ l. IsFit COLUMNS (string_bytes l) in
    subst AreFit (sym e) (All-append P all (line ∷ []) h (All-cons P line [] one (All-nil P)))

-- more lines that fit
pub are_fit_append : (xs ys all : List (String Global)) → AreFit xs → AreFit ys → all ≡ xs ++ ys → AreFit all
are_fit_append xs ys all h k e =
    let P : String Global → Type 0 = λ l. IsFit COLUMNS (string_bytes l) in
    subst AreFit (sym e) (All-append P xs ys h k)

-- ---- lines after others

-- the same lines
pub keeps_same : (xs : List (String Global)) → Keeps xs xs
keeps_same xs = record { fit = λ h. h }

-- first some lines, and then others
pub keeps_then : (xs ys zs : List (String Global)) → Keeps xs ys → Keeps ys zs → Keeps xs zs
keeps_then xs ys zs h k = record { fit = λ f. k.fit (h.fit f) }

-- one more line that fits
pub keeps_push : (all more : List (String Global)) (line : String Global) → IsFit COLUMNS (string_bytes line)
    → more ≡ all ++ line ∷ [] → Keeps all more
keeps_push all more line one e = record { fit = λ h. are_fit_push all more line h one e }

-- behind no lines
pub fit_behind_none : (xs : List (String Global)) → Keeps [] xs → AreFit xs
fit_behind_none xs h =
    let P : String Global → Type 0 = λ l. IsFit COLUMNS (string_bytes l) in
    h.fit (All-nil P)
