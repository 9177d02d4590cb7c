-- Two texts are the same exactly where they are equal.
use Rattle.std.proofs.Common.{◌≡◌, ℕ, true, List}
use Rattle.std.specs.Cmp.{IsEquivalence}
use Rattle.std.specs.Cmp.Lexicographic.{bytes_decides, nat_list_eq_equiv}
use Rattle.cue_show.specs.Number.{same_text}

pub same_text_equiv : IsEquivalence same_text
same_text_equiv = nat_list_eq_equiv

pub same_text-true : (a b : List ℕ) → same_text a b ≡ true → a ≡ b
same_text-true a b h = (bytes_decides a b).0 h

pub same_text-itself : (a : List ℕ) → same_text a a ≡ true
same_text-itself a = nat_list_eq_equiv.refl a

pub same_text-swapped : (a b : List ℕ) → same_text a b ≡ same_text b a
same_text-swapped a b = nat_list_eq_equiv.symm a b
