-- The test of plainness tells what is plain.
use Rattle.std.proofs.Common.{◌≡◌, ◌<◌, ℕ, zero, suc, List, [], ◌∷◌, true, not, eqb, refl, arith}
use Rattle.std.specs.List.{AllByRecursion, list_all}
use Rattle.std.proofs.lemmas.Bool.{and_parts, and_from, not-true, eqb-true, eqb-false, eq-eqb, ne_eqb, not_from_false}
use Rattle.cue_osc.specs.Argument.{Argument, int, text, blob}
use Rattle.cue_osc.specs.Content.{Content, message, discarded, bundle, Contents, nothing, element}
use Rattle.cue_osc.specs.Spelling.{IsText, IsAddress}
use Rattle.cue_osc.specs.Plain.{IsPlainArg, IsPlain, AllPlain, is_text, is_address, is_plain_arg, is_plain, are_plain}

pub not_null : (b : ℕ) → not (eqb b 0) ≡ true → 0 < b
not_null b h = let ne : b ≡ 0 → ⊥ = eqb-false b 0 (not-true (eqb b 0) h) in omega arith

pub is_not_null : (b : ℕ) → 0 < b → not (eqb b 0) ≡ true
is_not_null b h = not_from_false (eqb b 0) (ne_eqb b 0 (λ e. omega arith))

pub text_from_test : (t : List ℕ) → is_text t ≡ true → IsText t
text_from_test [] h = tt
text_from_test (b ∷ bs) h = let p = and_parts (not (eqb b 0)) (is_text bs) h in (not_null b p.0, text_from_test bs p.1)

pub test_from_text : (t : List ℕ) → IsText t → is_text t ≡ true
test_from_text [] h = refl
test_from_text (b ∷ bs) h = and_from (not (eqb b 0)) (is_text bs) (is_not_null b h.0) (test_from_text bs h.1)

address_from_test : (a : List ℕ) → is_address a ≡ true → IsAddress a
address_from_test [] h = absurd cc
address_from_test (b ∷ bs) h = let p = and_parts (eqb b 47) (is_text bs) h in (eqb-true b 47 p.0, text_from_test bs p.1)

test_from_address : (a : List ℕ) → IsAddress a → is_address a ≡ true
test_from_address [] h = absurd h
test_from_address (b ∷ bs) h = and_from (eqb b 47) (is_text bs) (eq-eqb b 47 h.0) (test_from_text bs h.1)

arg_from_test : (x : Argument) → is_plain_arg x ≡ true → IsPlainArg x
arg_from_test (int z) h = tt
arg_from_test (text t) h = text_from_test t h
arg_from_test (blob b) h = tt

test_from_arg : (x : Argument) → IsPlainArg x → is_plain_arg x ≡ true
test_from_arg (int z) h = refl
test_from_arg (text t) h = test_from_text t h
test_from_arg (blob b) h = refl

args_from_test : (xs : List Argument) → list_all is_plain_arg xs ≡ true → AllByRecursion IsPlainArg xs
args_from_test [] h = tt
args_from_test (x ∷ xs) h = let p = and_parts (is_plain_arg x) (list_all is_plain_arg xs) h in
    (arg_from_test x p.0, args_from_test xs p.1)

test_from_args : (xs : List Argument) → AllByRecursion IsPlainArg xs → list_all is_plain_arg xs ≡ true
test_from_args [] h = refl
test_from_args (x ∷ xs) h = and_from (is_plain_arg x) (list_all is_plain_arg xs) (test_from_arg x h.0)
    (test_from_args xs h.1)

mutual
  pub plain_from_test : (d : ℕ) (c : Content) → is_plain d c ≡ true → IsPlain d c
  plain_from_test d (message a xs) h = let p = and_parts (is_address a) (list_all is_plain_arg xs) h in
      (address_from_test a p.0, args_from_test xs p.1)
  plain_from_test d (discarded a) h = absurd cc
  plain_from_test zero (bundle t cs) h = absurd cc
  plain_from_test (suc d) (bundle t cs) h = all_from_test d cs h

  all_from_test : (d : ℕ) (cs : Contents) → are_plain d cs ≡ true → AllPlain d cs
  all_from_test d nothing h = tt
  all_from_test d (element c cs) h = let p = and_parts (is_plain d c) (are_plain d cs) h in
      (plain_from_test d c p.0, all_from_test d cs p.1)

mutual
  pub test_from_plain : (d : ℕ) (c : Content) → IsPlain d c → is_plain d c ≡ true
  test_from_plain d (message a xs) h = and_from (is_address a) (list_all is_plain_arg xs) (test_from_address a h.0)
      (test_from_args xs h.1)
  test_from_plain d (discarded a) h = absurd h
  test_from_plain zero (bundle t cs) h = absurd h
  test_from_plain (suc d) (bundle t cs) h = test_from_all d cs h

  test_from_all : (d : ℕ) (cs : Contents) → AllPlain d cs → are_plain d cs ≡ true
  test_from_all d nothing h = refl
  test_from_all d (element c cs) h = and_from (is_plain d c) (are_plain d cs) (test_from_plain d c h.0)
      (test_from_all d cs h.1)
