-- Reading one thing after the other, as a loop does.
use Rattle.std.proofs.Common.{◌≡◌, ℕ, zero, suc, ◌-◌, ◌+◌, ◌≤◌, ◌<◌, List, [], ◌∷◌, ◌++◌, length, drop, take, get_or}
use Rattle.std.proofs.Common.{Result, Ok, Err, Bool, true, false, refl, sym, ap, ◌∙◌, append_assoc, arith, cond, eqb}
use Rattle.std.proofs.Common.{inl, inr, ltb, drop-cons, add-one}
use Rattle.std.specs.Int.{Width, w32, byte_len, from_be_bytes}
use Rattle.std.proofs.lemmas.Bool.{cases_eq, eq-eqb, ne_eqb, ltb-false}
use Rattle.std.proofs.lemmas.List.{append-nil, length-drop, nil_from_length}
use Rattle.cue_osc.specs.declared.fault.Fault.{Fault}
use Rattle.cue_osc.specs.declared.fault.Fault.TheVariants as faults
use Rattle.cue_osc.specs.Argument.{Argument}
use Rattle.cue_osc.specs.Content.{Content, Contents, nothing, element, contents_of}
use Rattle.cue_osc.specs.Reading.{◌>>=◌, Fails, number_at, is_size, arg_at, all_args_at, element_at, elements_by}

-- the value of a step that did not fail
pub bind_ok : {A B : Type 0} (r : Result A Fault) (f : A → Result B Fault) (y : B) → (r >>= f) ≡ Ok y
    → (x : A) × (r ≡ Ok x) × (f x ≡ Ok y)
bind_ok (Ok x) f y e = (x, refl, e)
bind_ok (Err d) f y e = absurd cc

-- a test that did not fail
pub guard_ok : {A : Type 0} (b : Bool) (d : Fault) (x y : A) → cond b (Err d) (Ok x) ≡ Ok y → (b ≡ false) × (x ≡ y)
guard_ok true d x y e = absurd cc
guard_ok false d x y e = (refl, cc)

pub pass_ok : {A : Type 0} (b : Bool) (d : Fault) (x y : A) → cond b (Ok x) (Err d) ≡ Ok y → (b ≡ true) × (x ≡ y)
pass_ok true d x y e = (refl, cc)
pass_ok false d x y e = absurd cc

-- a fault is handed on
pub fails_on : {X Y : Type 0} (e : Fault) (r : Result X Fault) (s : Result Y Fault)
    → ((f : Fault) → r ≡ Err f → s ≡ Err f) → Fails e r → Fails e s
fails_on faults.Memory r s g h = tt
fails_on f r s g h = g f h

-- ---- arguments

-- what was read before, and what is still read
abbrev pub with_args : List Argument → Result (List Argument) Fault → Result (List Argument) Fault
with_args front read = read >>= λ xs. Ok (front ++ xs)

regroup : (front : List Argument) (x : Argument) (read : Result (List Argument) Fault)
    → with_args front (read >>= λ xs. Ok (x ∷ xs)) ≡ with_args (front ++ x ∷ []) read
regroup front x (Ok xs) = ap (λ (ys : List Argument). Ok ys) (simp append_assoc)
regroup front x (Err f) = refl

-- an argument more
pub arg_more : (front : List Argument) (kinds : List ℕ) (i : ℕ) (bytes : List ℕ) (x : Argument) (after : List ℕ)
    (total : Result (List Argument) Fault) → i < length kinds → arg_at (get_or kinds i 0) bytes ≡ Ok (x, after)
    → with_args front (all_args_at (drop i kinds) bytes) ≡ total
    → with_args (front ++ x ∷ []) (all_args_at (drop (i + 1) kinds) after) ≡ total
unfolding all_args_at
arg_more front kinds i bytes x after total lt h so_far =
    let one : with_args front (all_args_at (drop i kinds) bytes) ≡ with_args (front ++ x ∷ [])
    (all_args_at (drop (i + 1) kinds) after) =
    rw (add-one, drop-cons kinds i 0 lt, h) (regroup front x (all_args_at (drop (suc i) kinds) after)) in
    sym one ∙ so_far

pub arg_fails : (e : Fault) (front : List Argument) (kinds : List ℕ) (i : ℕ) (bytes : List ℕ)
    (total : Result (List Argument) Fault) → i < length kinds → Fails e (arg_at (get_or kinds i 0) bytes)
    → with_args front (all_args_at (drop i kinds) bytes) ≡ total → Fails e total
unfolding all_args_at
arg_fails e front kinds i bytes total lt h so_far =
    fails_on e (arg_at (get_or kinds i 0) bytes) total
    (λ f k. let one : with_args front (all_args_at (drop i kinds) bytes) ≡ Err f =
    rw (drop-cons kinds i 0 lt, k) refl in sym so_far ∙ one) h

-- the last argument
pub args_done : (front : List Argument) (kinds : List ℕ) (i : ℕ) (bytes : List ℕ) (total : Result (List Argument) Fault)
    → length kinds ≤ i
    → with_args front (all_args_at (drop i kinds) bytes) ≡ total
    → cond (eqb (length bytes) 0) (Ok front) (Err faults.Trailing) ≡ total
unfolding all_args_at
args_done front kinds i bytes total le so_far =
    let none : drop i kinds ≡ [] = nil_from_length (drop i kinds) (omega (arith, length-drop i kinds)) in
    let one : with_args front (all_args_at (drop i kinds) bytes) ≡ with_args front
    (cond (eqb (length bytes) 0) (Ok []) (Err faults.Trailing)) = rw none refl in
    let two : with_args front (cond (eqb (length bytes) 0) (Ok []) (Err faults.Trailing)) ≡ cond (eqb (length bytes) 0)
    (Ok front) (Err faults.Trailing) =
    elim (eqb (length bytes) 0) as (λ v. with_args front (cond v (Ok []) (Err faults.Trailing)) ≡ cond v (Ok front)
    (Err faults.Trailing)) [ true ↦ ap (λ (ys : List Argument). Ok ys) (append-nil front) | false ↦ refl ] in
    sym two ∙ sym one ∙ so_far

-- ---- elements

-- the elements after these
abbrev pub joined : List Content → Contents → Contents
joined [] cs = cs
joined (c ∷ front) cs = element c (joined front cs)

abbrev pub with_elements : List Content → Result Contents Fault → Result Contents Fault
with_elements front read = read >>= λ cs. Ok (joined front cs)

joined_push : (front : List Content) (c : Content) (cs : Contents)
    → joined front (element c cs) ≡ joined (front ++ c ∷ []) cs
joined_push [] c cs = refl
joined_push (d ∷ front) c cs = ap (λ (ds : Contents). element d ds) (joined_push front c cs)

joined_nothing : (front : List Content) → joined front nothing ≡ contents_of front
joined_nothing [] = refl
joined_nothing (d ∷ front) = ap (λ (ds : Contents). element d ds) (joined_nothing front)

regroup_elements : (front : List Content) (c : Content) (read : Result Contents Fault)
    → with_elements front (read >>= λ cs. Ok (element c cs)) ≡ with_elements (front ++ c ∷ []) read
regroup_elements front c (Ok cs) = ap (λ (ds : Contents). Ok ds) (joined_push front c cs)
regroup_elements front c (Err f) = refl

-- what an element leaves is shorter
pub number_is : (w : Width) (bytes : List ℕ) (x : ℕ × List ℕ) → number_at w bytes ≡ Ok x → (byte_len w ≤ length bytes)
    × (from_be_bytes w (take (byte_len w) bytes) ≡ x.0) × (drop (byte_len w) bytes ≡ x.1)
number_is w bytes x e =
    let g = guard_ok (ltb (length bytes) (byte_len w)) faults.BadSize
    (from_be_bytes w (take (byte_len w) bytes), drop (byte_len w) bytes) x e in
    (ltb-false _ _ g.0, ap (λ (p : ℕ × List ℕ). p.0) g.1, ap (λ (p : ℕ × List ℕ). p.1) g.1)

pub element_is : (bytes : List ℕ) (x : List ℕ × List ℕ) → element_at bytes ≡ Ok x
    → (size : ℕ × List ℕ) × (number_at w32 bytes ≡ Ok size) × (is_size size.0 (length size.1) ≡ true)
    × (take size.0 size.1 ≡ x.0) × (drop size.0 size.1 ≡ x.1)
unfolding element_at
element_is bytes x e =
    let b = bind_ok (number_at w32 bytes)
    (λ size. cond (is_size size.0 (length size.1)) (Ok (take size.0 size.1, drop size.0 size.1))
    (Err faults.BadSize)) x e in
    let g = pass_ok (is_size b.0.0 (length b.0.1)) faults.BadSize (take b.0.0 b.0.1, drop b.0.0 b.0.1) x b.2 in
    (b.0, b.1, g.0, ap (λ (p : List ℕ × List ℕ). p.0) g.1, ap (λ (p : List ℕ × List ℕ). p.1) g.1)

pub element_shorter : (bytes : List ℕ) (x : List ℕ × List ℕ) → element_at bytes ≡ Ok x → length x.1 < length bytes
element_shorter bytes x e =
    let p = element_is bytes x e in
    let n = number_is w32 bytes p.0 p.1 in
    let one : length x.1 ≡ length p.0.1 - p.0.0 = ap length (sym p.4) ∙ length-drop p.0.0 p.0.1 in
    let two : length p.0.1 ≡ length bytes - 4 = ap length (sym n.2) ∙ length-drop 4 bytes in
    let long : 4 ≤ length bytes = n.0 in
    omega arith

-- one element, and those after it
abbrev pub elements_from : (List ℕ → Result Content Fault) → ℕ → List ℕ → Result Contents Fault
elements_from read n bytes = element_at bytes >>= λ front. read front.0 >>= λ first. elements_by read n front.1 >>=
    λ others. Ok (element first others)

pub elements_some : (read : List ℕ → Result Content Fault) (n : ℕ) (bytes : List ℕ) → 0 < length bytes
    → elements_by read (suc n) bytes ≡ elements_from read n bytes
unfolding elements_by
elements_some read n bytes lt = let some : eqb (length bytes) 0 ≡ false = ne_eqb (length bytes) 0 (λ e. omega arith) in
    rw some refl

pub elements_none : (read : List ℕ → Result Content Fault) (n : ℕ) (bytes : List ℕ) → length bytes ≡ 0
    → elements_by read n bytes ≡ Ok nothing
unfolding elements_by
elements_none read zero bytes e = refl
elements_none read (suc n) bytes e = let none : eqb (length bytes) 0 ≡ true = eq-eqb (length bytes) 0 e in rw none refl

enough_step : (read : List ℕ → Result Content Fault) (n m : ℕ) (bytes : List ℕ)
    → ((rest : List ℕ) → length rest < length bytes → elements_by read n rest ≡ elements_by read m rest)
    → (r : Result (List ℕ × List ℕ) Fault) → element_at bytes ≡ r
    → (r >>= λ front. read front.0 >>= λ first. elements_by read n front.1 >>= λ others. Ok (element first others))
    ≡ (r >>= λ front. read front.0 >>= λ first. elements_by read m front.1 >>= λ others. Ok (element first others))
enough_step read n m bytes same (Ok x) e =
    ap (λ (rest : Result Contents Fault). read x.0 >>= λ first. rest >>= λ others. Ok (element first others))
    (same x.1 (element_shorter bytes x e))
enough_step read n m bytes same (Err f) e = refl

-- as many elements as there are bytes, and more, are enough
pub enough : (read : List ℕ → Result Content Fault) (n m : ℕ) (bytes : List ℕ) → length bytes ≤ n → length bytes ≤ m
    → elements_by read n bytes ≡ elements_by read m bytes
enough read zero m bytes h k = elements_none read zero bytes (omega arith)
    ∙ sym (elements_none read m bytes (omega arith))
enough read (suc n) zero bytes h k = elements_none read (suc n) bytes (omega arith)
    ∙ sym (elements_none read zero bytes (omega arith))
enough read (suc n) (suc m) bytes h k =
    elim (cases_eq (length bytes) 0) [
      | inl e ↦ elements_none read (suc n) bytes e ∙ sym (elements_none read (suc m) bytes e)
      | inr ne ↦
          let some : 0 < length bytes = omega arith in
          elements_some read n bytes some
          ∙ enough_step read n m bytes (λ rest lt. enough read n m rest (omega arith) (omega arith))
          (element_at bytes) refl ∙ sym (elements_some read m bytes some)
    ]

-- the elements that begin with this one
elements_whole : (read : List ℕ → Result Content Fault) (bytes : List ℕ) → 0 < length bytes
    → elements_by read (length bytes) bytes ≡ elements_from read (length bytes - 1) bytes
elements_whole read bytes some =
    let k : length bytes ≡ suc (length bytes - 1) = omega arith in
    ap (λ (n : ℕ). elements_by read n bytes) k ∙ elements_some read (length bytes - 1) bytes some

-- an element more
pub element_more : (read : List ℕ → Result Content Fault) (front : List Content) (bytes : List ℕ) (x : List ℕ)
    (after : List ℕ) (c : Content) (total : Result Contents Fault) → 0 < length bytes → element_at bytes ≡ Ok (x, after)
    → read x ≡ Ok c
    → with_elements front (elements_by read (length bytes) bytes) ≡ total
    → with_elements (front ++ c ∷ []) (elements_by read (length after) after) ≡ total
element_more read front bytes x after c total some h k so_far =
    let shorter : length after < length bytes = element_shorter bytes (x, after) h in
    let one : elements_by read (length bytes) bytes
    ≡ (elements_by read (length bytes - 1) after >>= λ others. Ok (element c others)) =
    elements_whole read bytes some ∙ rw (h, k) refl in
    let two : elements_by read (length bytes - 1) after ≡ elements_by read (length after) after =
    enough read (length bytes - 1) (length after) after (omega arith) (omega arith) in
    sym (regroup_elements front c (elements_by read (length after) after))
    ∙ ap (λ (r : Result Contents Fault). with_elements front (r >>= λ others. Ok (element c others))) (sym two)
    ∙ ap (with_elements front) (sym one) ∙ so_far

-- the element's size is bad
pub element_cut : (e : Fault) (read : List ℕ → Result Content Fault) (front : List Content) (bytes : List ℕ)
    (total : Result Contents Fault) → 0 < length bytes → Fails e (element_at bytes)
    → with_elements front (elements_by read (length bytes) bytes) ≡ total → Fails e total
element_cut e read front bytes total some h so_far =
    fails_on e (element_at bytes) total
    (λ f k. let one : elements_by read (length bytes) bytes ≡ Err f = elements_whole read bytes some
    ∙ rw k refl in sym so_far ∙ ap (with_elements front) one) h

-- what the element holds is bad
pub element_fails : (e : Fault) (read : List ℕ → Result Content Fault) (front : List Content) (bytes x after : List ℕ)
    (total : Result Contents Fault) → 0 < length bytes → element_at bytes ≡ Ok (x, after) → Fails e (read x)
    → with_elements front (elements_by read (length bytes) bytes) ≡ total → Fails e total
element_fails e read front bytes x after total some h bad so_far =
    fails_on e (read x) total
    (λ f k. let one : elements_by read (length bytes) bytes ≡ Err f = elements_whole read bytes some ∙ rw (h, k) refl in
    sym so_far ∙ ap (with_elements front) one) bad

-- the last element
pub elements_done : (read : List ℕ → Result Content Fault) (front : List Content) (bytes : List ℕ)
    (total : Result Contents Fault) → length bytes ≡ 0
    → with_elements front (elements_by read (length bytes) bytes) ≡ total → total ≡ Ok (contents_of front)
elements_done read front bytes total none so_far =
    sym so_far ∙ ap (with_elements front) (elements_none read (length bytes) bytes none)
    ∙ ap (λ (cs : Contents). Ok cs) (joined_nothing front)
