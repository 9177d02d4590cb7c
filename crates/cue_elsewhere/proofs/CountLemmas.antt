-- How many devices are named, left and unheard.
use Rattle.std.proofs.Common.{◌≡◌, ◌≤◌, ◌+◌, ◌-◌, ◌++◌, ℕ, Bool, true, false, cond, not, if◌then◌else◌, List, [], ◌∷◌}
use Rattle.std.proofs.Common.{length, take, drop, Option, None, Some, is_some, nat_le, inl, inr, refl, sym, ap, arith}
use Rattle.std.proofs.Common.{length-append}
use Rattle.std.proofs.Common.{◌∙◌, map, String, Global, string_bytes}
use Rattle.std.specs.List.{count_by, flat_map}
use Rattle.std.proofs.Math.Seq.{drop-length}
use Rattle.std.proofs.lemmas.List.{length-drop, length-map, length-take-le, take-append-drop, take-map}
use Rattle.std.proofs.lemmas.List.Sums.{sum_by-cons}
use Rattle.cue_board.specs.declared.names.Names.{Names}
use Rattle.cue_elsewhere.specs.Laws.{IsFull, NamesOrCounts}
use Rattle.cue_elsewhere.specs.Lines.{cut, each_line, is_unheard, left_line, line_if, line_of, named_in, unheard_line}
use Rattle.cue_whereabouts.specs.Ending.{PartEnd}
use Rattle.cue_whereabouts.specs.declared.differing.Difference.{Difference}

-- a device has a line, or nothing was heard of it
one-counted : (names : Names) (x : Difference) (last : Option PartEnd)
    → length (line_if names x last) + cond (not (is_some last)) 1 0 ≡ 1
one-counted names x None = refl
one-counted names x (Some last) = refl

each-counted : (names : Names) (xs : List Difference)
    → length (each_line names xs) + count_by is_unheard xs ≡ length xs
each-counted names [] = refl
each-counted names (x ∷ xs) =
    omega (
      arith,
      one-counted names x x.last,
      each-counted names xs,
      length-append (line_of names x) (flat_map (line_of names) xs),
      sum_by-cons (λ (y : Difference). cond (is_unheard y) 1 0) x xs,
    )

-- as many as have room are named
full-in : (room : Option ℕ) (all : List (List ℕ))
    → IsFull room (take (named_in room (length all)) all) (drop (named_in room (length all)) all)
full-in None all = drop-length all
full-in (Some room) all = by (nat_le (length all) room) refl
  where
    by : (b : Bool) → nat_le (length all) room ≡ b
        → IsFull (Some room) (take (if b then length all else room - 1) all)
        (drop (if b then length all else room - 1) all)
    by true e = inl (drop-length all)
    by false e =
        let short : room - 1 ≤ length all = grind arith in
        inr (length-take-le (room - 1) all short)

pub named-or-counted : (names : Names) (room : Option ℕ) (xs : List Difference) → NamesOrCounts names room xs
named-or-counted names room xs =
    let all = each_line names xs in
    let k = named_in room (length all) in
    record {
      named = take k all;
      left = drop k all;
      all = sym (take-append-drop k all);
      lines = ap (λ n. (take k all ++ left_line n) ++ unheard_line (count_by is_unheard xs)) (sym (length-drop k all));
      full = full-in room all;
      each = omega (
        arith,
        each-counted names xs,
        length-append (take k all) (drop k all),
        ap (λ (ls : List (List ℕ)). length ls) (take-append-drop k all),
      );
    }

-- lines that were cut off, and after them how many are left
pub cut_made : (all taken new : List (String Global)) (room : Option ℕ) (named : ℕ)
    → named ≡ named_in room (length all) → taken ≡ take named all
    → map string_bytes new ≡ map string_bytes taken ++ left_line (length all - named)
    → map string_bytes new ≡ cut room (map string_bytes all)
cut_made all taken new room named is takes puts =
    puts
    ∙ ap (λ (ts : List (List ℕ)). ts ++ left_line (length all - named))
    (ap (λ (xs : List (String Global)). map string_bytes xs) takes ∙ sym (take-map string_bytes named all))
    ∙ ap (λ (k : ℕ). take k (map string_bytes all) ++ left_line (length all - k)) is
    ∙ ap (λ (n : ℕ). take (named_in room n) (map string_bytes all) ++ left_line (n - named_in room n))
    (sym (length-map all string_bytes))
