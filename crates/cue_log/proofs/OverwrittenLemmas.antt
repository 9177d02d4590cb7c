-- Two writes that touch are one write.
use Rattle.std.proofs.Common.{◌≡◌, ℕ, ◌+◌, ◌<◌, ◌≤◌, List, [], ◌∷◌, ◌++◌, length, take, drop, refl, sym, ◌∙◌, ap, arith}
use Rattle.std.proofs.Common.{append_assoc, length-append}
use Rattle.std.proofs.lemmas.List.{drop_all, length-take, take_at, drop_at, drop-drop, take-take, take-append-le}
use Rattle.std.proofs.Math.Seq.{drop-nil}
use Rattle.cue_disk.specs.Disk.{overwritten_bytes}
use Rattle.cue_log.specs.declared.area.TheConstants.{HEAD_LEN}
use Rattle.cue_log.specs.Area.{body_text, eight_bytes, four_bytes}
use Rattle.cue_log.specs.Log.{prepared_bytes}

-- the second write right after the first
pub overwritten-behind : (old first second : List ℕ) (at to : ℕ) → at ≤ length old → to ≡ at + length first
    → overwritten_bytes (overwritten_bytes old at first) to second ≡ overwritten_bytes old at (first ++ second)
overwritten-behind old first second at to within ends =
    let front : List ℕ = take at old ++ first in
    let rest : List ℕ = drop (at + length first) old in
    let long : length front ≡ to = omega (arith, ends, length-append (take at old) first, length-take at old) in
    let left : take to (front ++ rest) ≡ front = take_at front rest to long in
    let right : drop (to + length second) (front ++ rest) ≡ drop (at + length (first ++ second)) old =
    sym (drop-drop (length second) to (front ++ rest)) ∙ ap (drop (length second)) (drop_at front rest to long)
    ∙ drop-drop (length second) (at + length first) old
    ∙ ap (λ (n : ℕ). drop n old) (omega (arith, length-append first second)) in
    (λ i. left i ++ second ++ right i)
    ∙ ap (λ (l : List ℕ). l ++ drop (at + length (first ++ second)) old) (append_assoc (take at old) first second)

-- the second write right in front of the first
pub overwritten-front : (old first second : List ℕ) (at to : ℕ) → to ≤ length old → to ≡ at + length first
    → overwritten_bytes (overwritten_bytes old to second) at first ≡ overwritten_bytes old at (first ++ second)
overwritten-front old first second at to within ends =
    let rest : List ℕ = drop (to + length second) old in
    let split : overwritten_bytes old to second ≡ take to old ++ (second ++ rest) =
    append_assoc (take to old) second rest in
    let long : length (take to old) ≡ to = omega (arith, length-take to old) in
    let left : take at (overwritten_bytes old to second) ≡ take at old =
    ap (take at) split ∙ take-append-le at (take to old) (second ++ rest) (omega (arith, long, ends))
    ∙ take-take at to old (omega (arith, ends)) in
    let right : drop (at + length first) (overwritten_bytes old to second) ≡ second ++ drop
    (at + length (first ++ second))
    old =
    ap (λ (n : ℕ). drop n (overwritten_bytes old to second)) (sym ends) ∙ ap (drop to) split
    ∙ drop_at (take to old) (second ++ rest) to long
    ∙ ap (λ (n : ℕ). second ++ drop n old) (omega (arith, ends, length-append first second)) in
    (λ i. left i ++ first ++ right i) ∙ (simp append_assoc)

-- a body that was written in two parts, and the gate after it
pub body-overwritten : (old header snapshot : List ℕ) (generation : ℕ) → 0 < length old → length header ≡ 12
    → header ≡ eight_bytes generation ++ four_bytes (length snapshot)
    → overwritten_bytes (overwritten_bytes (overwritten_bytes old 1 header) HEAD_LEN snapshot)
    (HEAD_LEN + length snapshot) (0 ∷ [])
    ≡ overwritten_bytes old
    1 (body_text generation snapshot ++ 0 ∷ [])
body-overwritten old header snapshot generation some long is =
    ap (λ (l : List ℕ). overwritten_bytes l (HEAD_LEN + length snapshot) (0 ∷ []))
    (overwritten-behind old header snapshot 1 HEAD_LEN (omega (arith, some)) (omega (arith, long)))
    ∙ overwritten-behind old (header ++ snapshot) (0 ∷ []) 1 (HEAD_LEN + length snapshot) (omega (arith, some))
    (omega (arith, long, length-append header snapshot))
    ∙ ap (λ (l : List ℕ). overwritten_bytes old 1 ((l ++ snapshot) ++ 0 ∷ [])) is
    ∙ ap (λ (l : List ℕ). overwritten_bytes old 1 (l ++ 0 ∷ []))
    (append_assoc (eight_bytes generation) (four_bytes (length snapshot)) snapshot)

-- a closed gate, what stands after it, and the gate opened
pub formed-overwritten : (old body : List ℕ)
    → overwritten_bytes (overwritten_bytes (prepared_bytes old) 1 body) 0 (1 ∷ []) ≡ overwritten_bytes
    old 0 (1 ∷ body)
formed-overwritten [] body =
    overwritten-front (0 ∷ []) (1 ∷ []) body 0 1 (omega arith) refl
    ∙ ap (λ (l : List ℕ). (1 ∷ body) ++ l) (drop_all (0 + length (1 ∷ body)) (0 ∷ []) (omega arith)
    ∙ sym (drop-nil (0 + length (1 ∷ body))))
formed-overwritten (gate ∷ bytes) body = overwritten-front (gate ∷ bytes) (1 ∷ []) body 0 1 (omega arith) refl
