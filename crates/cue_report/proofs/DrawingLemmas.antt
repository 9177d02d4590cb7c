-- Attempts that are drawn one after the other.
use Rattle.std.proofs.Common.{◌≡◌, ◌∙◌, ◌<◌, ◌≤◌, ◌+◌, ℕ, List, [], ◌∷◌, ◌++◌, length, get_or, take, refl, sym, ap, subst, append_assoc, append-nil, add-one}
use Rattle.std.proofs.Math.Seq.{take-suc}
use Rattle.std.proofs.lemmas.List.{take_all}
use Rattle.cue_report.specs.Drawing.{AreDrawnBy}
use Rattle.cue_report.specs.declared.attempt.Attempt.{Attempt}

-- one more
pub are_drawn-push : (P : Attempt → List ℕ → Type 0) (xs : List Attempt) (a : Attempt) (rows row : List ℕ) → AreDrawnBy P xs rows → P a row → AreDrawnBy P (xs ++ a ∷ []) (rows ++ row)
are_drawn-push P [] a rows row h d = (row, [], ap (λ (t : List ℕ). t ++ row) h ∙ sym (append-nil row), d, refl)
are_drawn-push P (x ∷ xs) a rows row h d =
    (h.0, h.1 ++ row, ap (λ (t : List ℕ). t ++ row) h.2 ∙ append_assoc h.0 h.1 row, h.3, are_drawn-push P xs a h.1 row h.4 d)

-- the next one of a list is drawn after those before it
pub drawn-more : (P : Attempt → List ℕ → Type 0) (xs : List Attempt) (i : ℕ) (a : Attempt) (old page new : List ℕ) → i < length xs → a ≡ get_or xs i a → ((rows : List ℕ) × (page ≡ old ++ rows) × AreDrawnBy P (take i xs) rows) → ((row : List ℕ) × (new ≡ page ++ row) × P a row) → (rows : List ℕ) × (new ≡ old ++ rows) × AreDrawnBy P (take (i + 1) xs) rows
drawn-more P xs i a old page new lt is h d =
    let more : take (i + 1) xs ≡ take i xs ++ a ∷ [] = rw add-one (take-suc xs i a lt ∙ ap (λ (b : Attempt). take i xs ++ b ∷ []) (sym is)) in (
      h.0 ++ d.0,
      d.1 ∙ (ap (λ (t : List ℕ). t ++ d.0) h.1 ∙ append_assoc old h.0 d.0),
      subst (λ (ys : List Attempt). AreDrawnBy P ys (h.0 ++ d.0)) (sym more) (are_drawn-push P (take i xs) a h.0 d.0 h.2 d.2),
    )

-- all of a list are drawn
pub drawn-all : (P : Attempt → List ℕ → Type 0) (xs : List Attempt) (i : ℕ) (old page : List ℕ) → length xs ≤ i → ((rows : List ℕ) × (page ≡ old ++ rows) × AreDrawnBy P (take i xs) rows) → (rows : List ℕ) × (page ≡ old ++ rows) × AreDrawnBy P xs rows
drawn-all P xs i old page end h =
    (h.0, h.1, subst (λ (ys : List Attempt). AreDrawnBy P ys h.0) (take_all i xs end) h.2)
