-- What the lock of a show keeps.
use Rattle.std.proofs.Common.{◌≡◌, ◌∙◌, ℕ, ◌+◌, ◌-◌, ◌<◌, ◌≤◌, if◌then◌else◌, Bool, true, false, List, [], ◌∷◌, IsTrue}
use Rattle.std.proofs.Common.{Option, None, Some, refl, sym, ap, arith, nat_lt}
use Rattle.std.proofs.lemmas.Bool.Decides.{nat_tests}
use Rattle.cue_show.proofs.TextLemmas.{same_text-true}
use Rattle.cue_show.specs.Number.{same_text}
use Rattle.cue_view.specs.declared.button.Button.{Button}
use Rattle.cue_view.specs.declared.button.Button.TheVariants as button
use Rattle.cue_request.specs.Laws.{FiveClose, NoSixthWord, TakenSaysTheWord}
use Rattle.cue_request.specs.Locks.{after, after_wrong, counted, is_closed, is_fifth, is_within, lock_of, needs_word}
use Rattle.cue_request.specs.Locks.{open_verdict, said_at, said_of, untouched, verdict, verdict_on}
use Rattle.cue_request.specs.declared.identity.Purpose.{Purpose}
use Rattle.cue_request.specs.declared.identity.Purpose.TheVariants as purpose
use Rattle.cue_request.specs.declared.lock.Guard.{Guard}
use Rattle.cue_request.specs.declared.lock.Said.{Said}
use Rattle.cue_request.specs.declared.lock.Said.TheVariants as said
use Rattle.cue_request.specs.declared.request.Refusal.{Refusal}
use Rattle.cue_request.specs.declared.request.Refusal.TheVariants as refusal

-- ---- the word

-- where one of two refusals is given, the press is not taken
some-refuses : (b : Bool) (r s : Refusal) → (if b then Some r else Some s) ≡ None → ⊥
some-refuses true r s h = cc
some-refuses false r s h = cc

-- a word that is compared and taken is that of the lock
compared : (g : Guard) (now : ℕ) (same : Bool) → verdict g now (if same then said.Right else said.Wrong) ≡ None
    → same ≡ true
compared g now true h = refl
compared g now false h = absurd (some-refuses (is_closed g now) refusal.Closed _ h)

said-by : (lock : List ℕ) (word : Option (List ℕ)) (g : Guard) (now : ℕ) → verdict g now (said_of lock word) ≡ None
    → word ≡ Some lock
said-by lock None g now h = absurd (some-refuses (is_closed g now) refusal.Closed refusal.NoWord h)
said-by lock (Some word) g now h = ap Some (same_text-true word lock (compared g now (same_text word lock) h))

at-page : (page : Purpose) (lock : List ℕ) (word : Option (List ℕ)) (g : Guard) (now : ℕ) → lock_of page ≡ Some lock
    → verdict g now (said_at page word) ≡ None → word ≡ Some lock
at-page (purpose.Plays (Some held)) lock word g now e h = said-by held.now word g now h ∙ e
at-page (purpose.Plays None) lock word g now e h = cc
at-page (purpose.Shows name) lock word g now e h = cc

pub taken-says_the_word : TakenSaysTheWord
taken-says_the_word page lock word b g now e needs h = at-page page lock word g now e (rw needs at h)

-- ---- wrong words

-- a moment less than so long ago
within : (long moment now : ℕ) → 0 < long → now < moment + long → nat_lt (now - moment) long ≡ true
within long moment now some h = grind (arith, nat_tests)

-- the fifth wrong word closes the lock, and the others are counted
one-more : (is_the_fifth : Bool) (g : Guard) (t u : ℕ) → u < t + 10000
    → is_closed (if is_the_fifth then record untouched { closed = Some t } else counted g t) u ≡ false
    → (if is_the_fifth then record untouched { closed = Some t } else counted g t) ≡ counted g t
one-more true g t u soon h =
    let closed : nat_lt (u - t) 10000 ≡ true = within 10000 t u (omega arith) soon in
    absurd (grind (arith, closed, h))
one-more false g t u soon h = refl

-- a wrong word that is looked at is counted, if the lock is not closed soon after it
still-free : (g : Guard) (t u : ℕ) → is_closed g t ≡ false → u < t + 10000
    → is_closed (after g t said.Wrong) u ≡ false → after g t said.Wrong ≡ counted g t
still-free g t u free soon h = rw free (one-more (is_fifth g t) g t u soon (rw free at h))

-- the fifth that is looked at closes the lock
fifth-closes : (g : Guard) (t u : ℕ) → is_closed g t ≡ false → is_fifth g t ≡ true → u < t + 10000
    → is_closed (after g t said.Wrong) u ≡ true
fifth-closes g t u free fifth soon = rw (free, fifth) (within 10000 t u (omega arith) soon)

-- the first of four that are counted is the oldest one
oldest : (g : Guard) (a b c d e : ℕ) (g1 g2 g3 g4 : Guard) → g1 ≡ counted g a → g2 ≡ counted g1 b → g3 ≡ counted g2 c
    → g4 ≡ counted g3 d → e < a + 60000 → is_fifth g4 e ≡ true
oldest g a b c d e g1 g2 g3 g4 h1 h2 h3 h4 soon = rw (h4, h3, h2, h1) (within 60000 a e (omega arith) soon)

pub five-close : FiveClose
five-close a b c d e now soon later = rw (within 60000 a e (omega arith) soon) (within 10000 e now (omega arith) later)

pub no-sixth_word : NoSixthWord
no-sixth_word g a b c d e f ab bc cd de ef soon h =
    let g1 : Guard = after g a said.Wrong in
    let g2 : Guard = after g1 b said.Wrong in
    let g3 : Guard = after g2 c said.Wrong in
    let g4 : Guard = after g3 d said.Wrong in
    let h1 : g1 ≡ counted g a = still-free g a b h.0 (omega arith) h.1.0 in
    let h2 : g2 ≡ counted g1 b = still-free g1 b c h.1.0 (omega arith) h.1.1.0 in
    let h3 : g3 ≡ counted g2 c = still-free g2 c d h.1.1.0 (omega arith) h.1.1.1.0 in
    let h4 : g4 ≡ counted g3 d = still-free g3 d e h.1.1.1.0 (omega arith) h.1.1.1.1.0 in
    let fifth : is_fifth g4 e ≡ true = oldest g a b c d e g1 g2 g3 g4 h1 h2 h3 h4 (omega arith) in
    let closed : is_closed (after g4 e said.Wrong) f ≡ true = fifth-closes g4 e f h.1.1.1.1.0 fifth (omega arith) in
    let free : is_closed (after g4 e said.Wrong) f ≡ false = h.1.1.1.1.1.0 in
    cc
