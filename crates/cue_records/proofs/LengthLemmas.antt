-- Sums of lengths that stop at a most.
use Rattle.std.proofs.Common.{◌≡◌, ℕ, ◌+◌, ◌≤◌, min, arith}

-- a front that was counted, and one more, before the rest
pub min-front : (most front one rest : ℕ) → front ≤ most
    → min (min (front + min one most) most + rest) most ≡ min (front + (one + rest)) most
min-front most front one rest h = omega arith
