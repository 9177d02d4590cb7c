-- What the lock of a show keeps.
use Rattle.std.specs.Prelude.{◌≡◌, ℕ, ◌+◌, ◌<◌, ◌≤◌, false, true, List, [], ◌∷◌, ⊤, Option, None, Some, IsTrue}
use Rattle.cue_view.specs.declared.button.Button.{Button}
use Rattle.cue_request.specs.Locks.{after, is_closed, lock_of, needs_word, said_at, untouched, verdict_on}
use Rattle.cue_request.specs.declared.identity.Purpose.{Purpose}
use Rattle.cue_request.specs.declared.lock.Guard.{Guard}
use Rattle.cue_request.specs.declared.lock.Said.TheVariants as said

-- at a page with a lock a press that needs the word is taken only if it says it
abbrev pub TakenSaysTheWord : Type 0
TakenSaysTheWord =
    (page : Purpose) (lock : List ℕ) (word : Option (List ℕ)) (button : Button) (guard : Guard) (now : ℕ)
    → lock_of page ≡ Some lock → IsTrue (needs_word button)
    → verdict_on button guard now (said_at page word) ≡ None → word ≡ Some lock

-- the guard after wrong words that came at these moments
abbrev pub after_words : Guard → List ℕ → Guard
after_words guard [] = guard
after_words guard (t ∷ ts) = after_words (after guard t said.Wrong) ts

-- five wrong words within a minute close a lock that heard none before, for ten seconds
abbrev pub FiveClose : Type 0
FiveClose =
    (a b c d e now : ℕ) → e < a + 60000 → now < e + 10000
    → is_closed (after_words untouched (a ∷ (b ∷ (c ∷ (d ∷ (e ∷ [])))))) now ≡ true

-- each of the wrong words that came at these moments was looked at: the lock was not closed then
abbrev pub AreLookedAt : Guard → List ℕ → Type 0
AreLookedAt guard [] = ⊤
AreLookedAt guard (t ∷ ts) = (is_closed guard t ≡ false) × AreLookedAt (after guard t said.Wrong) ts

-- whatever came before, of six wrong words within ten seconds one at least is not looked at
abbrev pub NoSixthWord : Type 0
NoSixthWord =
    (guard : Guard) (a b c d e f : ℕ) → a ≤ b → b ≤ c → c ≤ d → d ≤ e → e ≤ f → f < a + 10000
    → AreLookedAt guard (a ∷ (b ∷ (c ∷ (d ∷ (e ∷ (f ∷ [])))))) → ⊥
