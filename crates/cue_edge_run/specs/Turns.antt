-- Whose turn it is.
use Rattle.std.specs.Prelude.{◌≡◌, ◌⊎◌, ◌++◌, ℕ, List, [], ◌∷◌}

-- the queue, once this one has something to read: it is the last, if it does not wait already
abbrev pub IsQueued : List ℕ → ℕ → List ℕ → Type 0
IsQueued old place new = (new ≡ old) ⊎ (new ≡ old ++ place ∷ [])
