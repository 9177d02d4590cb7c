-- Tests joined by "and" and by "or", and the test that two numbers are one. The crates above take them from here.
use Rattle.std.proofs.Common.{◌≡◌, ℕ, Bool, true, false, not, ◌&&◌, ◌||◌, ◌⊎◌, inl, inr, IsTrue, nat_eq, refl, arith}
use Rattle.std.proofs.lemmas.Bool.Decides.{nat_tests}

-- the cases of a test
pub cases : (b : Bool) → (b ≡ true) ⊎ (b ≡ false)
cases true = inl refl
cases false = inr refl

-- both of two tests pass
pub both : (b c : Bool) → IsTrue (b && c) → IsTrue b × IsTrue c
both true c h = (refl, h)
both false c h = cc

-- the two tests pass together
pub join : (b c : Bool) → IsTrue b → IsTrue c → IsTrue (b && c)
join true c h k = k
join false c h k = cc

-- neither of two tests passes
pub neither : (b c : Bool) → (b || c) ≡ false → (b ≡ false) × (c ≡ false)
neither true c h = cc
neither false c h = (refl, h)

-- one of two tests passes where the first does
pub or_left : (b c : Bool) → IsTrue b → IsTrue (b || c)
or_left true c h = refl
or_left false c h = cc

-- and where the second does
pub or_right : (b c : Bool) → IsTrue c → IsTrue (b || c)
or_right true c h = refl
or_right false c h = h

-- the opposite of a test passes
pub not_so : (b : Bool) → IsTrue (not b) → b ≡ false
not_so true h = cc
not_so false h = refl

-- the test that two numbers are one
pub same_number : (m n : ℕ) → IsTrue (nat_eq m n) → m ≡ n
same_number m n h = grind (arith, nat_tests)

pub same_self : (n : ℕ) → IsTrue (nat_eq n n)
same_self n = grind (arith, nat_tests)

pub number_sym : (m n : ℕ) → nat_eq m n ≡ nat_eq n m
number_sym m n = grind (arith, nat_tests)
