-- An area that is formed over a closed one: the byte that closed it is written over.
use Rattle.std.proofs.Common.{◌≡◌, ℕ, suc, ◌+◌, List, [], ◌∷◌, ◌++◌, length, drop, ◌==◌, if◌then◌else◌, Result, Ok, Err}
use Rattle.std.proofs.Common.{refl, sym, ◌∙◌, ap, arith}
use Rattle.std.specs.Prelude.{IfOk}
use Rattle.cue_disk.specs.Disk.{overwritten_bytes}
use Rattle.cue_log.specs.Log.{closed_bytes}

pub closed-overwritten : (old body : List ℕ) → overwritten_bytes (closed_bytes old) 0 (1 ∷ body) ≡ overwritten_bytes old
    0 (1 ∷ body)
closed-overwritten [] body = refl
closed-overwritten (gate ∷ bytes) body =
    let shut : ℕ = if gate == 1 then 0 else gate in
    let behind : 0 + length (1 ∷ body) ≡ suc (length body) = omega arith in
    ap (λ (l : List ℕ). (1 ∷ body) ++ l) (ap (λ (n : ℕ). drop n (shut ∷ bytes)) behind
    ∙ sym (ap (λ (n : ℕ). drop n (gate ∷ bytes)) behind))

-- the same, where the bytes that were written over are those of the closed area
pub over_closed : (old shut new body : List ℕ) → shut ≡ closed_bytes old → new ≡ overwritten_bytes shut 0 (1 ∷ body)
    → new ≡ overwritten_bytes old 0 (1 ∷ body)
over_closed old shut new body is written = written ∙ ap (λ (l : List ℕ). overwritten_bytes l 0 (1 ∷ body)) is
    ∙ closed-overwritten old body

-- what follows from what holds at `Ok`
pub at_made : {T E : Type 0} {P Q : T → Type 0} (result : Result T E) → ((made : T) → P made → Q made) → IfOk result P
    → IfOk result Q
at_made (Ok made) follows holds = follows made holds
at_made (Err fault) follows holds = tt
