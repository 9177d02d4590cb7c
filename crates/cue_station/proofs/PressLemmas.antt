-- The presses that are open: of those that were sent, and of the two that are kept.
use Rattle.std.proofs.Common.{◌≡◌, refl, sym, ap, ◌∙◌, ℕ, Bool, true, false, not, ◌&&◌, ◌||◌, cond, List, [], ◌∷◌}
use Rattle.std.proofs.Common.{◌++◌, map}
use Rattle.std.proofs.Common.{Option, None, Some, is_none, filter, nat_eq}
use Rattle.std.specs.List.{list_any, list_all}
use Rattle.std.specs.Option.{option_map, option_to_list}
use Rattle.cue_station.specs.declared.memory.Pending.{Pending}
use Rattle.cue_station.specs.Asking.{is_final, newest_of, only, second_of}
use Rattle.cue_station.specs.Opening.{has_ask, is_some_final}

-- ---- tests over a filter

-- there is none
abbrev pub none_in : List Pending → Bool
none_in [] = true
none_in (x ∷ xs) = false

pub none-filter : (p : Pending → Bool) (xs : List Pending)
    → list_all (λ x. not (p x)) xs ≡ none_in (filter p xs)
none-filter p [] = refl
none-filter p (x ∷ xs) =
    elim (p x) as (λ b. (not b && list_all (λ y. not (p y)) xs) ≡ none_in (cond b (x ∷ filter p xs) (filter p xs)))
    [ true ↦ refl | false ↦ none-filter p xs ]

pub all-filter : (p f : Pending → Bool) (xs : List Pending)
    → list_all (λ x. not (p x && f x)) xs ≡ list_all (λ x. not (f x)) (filter p xs)
all-filter p f [] = refl
all-filter p f (x ∷ xs) =
    elim (p x) as (λ b. (not (b && f x) && list_all (λ y. not (p y && f y)) xs)
    ≡ list_all (λ y. not (f y)) (cond b (x ∷ filter p xs) (filter p xs)))
    [ true ↦ ap (λ v. not (f x) && v) (all-filter p f xs) | false ↦ all-filter p f xs ]

pub any-filter : (p f : Pending → Bool) (xs : List Pending)
    → list_any (λ x. p x && f x) xs ≡ list_any f (filter p xs)
any-filter p f [] = refl
any-filter p f (x ∷ xs) =
    elim (p x) as (λ b. ((b && f x) || list_any (λ y. p y && f y) xs)
    ≡ list_any f (cond b (x ∷ filter p xs) (filter p xs)))
    [ true ↦ ap (λ v. f x || v) (any-filter p f xs) | false ↦ any-filter p f xs ]

-- ---- what is still open

-- what is not true is false
is_false : (b : Bool) → (b ≡ true → ⊥) → b ≡ false
is_false true h = absurd (h refl)
is_false false h = refl

still_one : (f : Pending → Pending) (p q : Pending → Bool) (x : Pending) (A B : List Pending)
    → (q (f x) ≡ true → p x ≡ true) → A ≡ B → (b : Bool) → p x ≡ b
    → cond (q (f x)) (f x ∷ A) A ≡ cond b (cond (q (f x)) (f x ∷ B) B) B
still_one f p q x A B h e true was = ap (λ v. cond (q (f x)) (f x ∷ v) v) e
still_one f p q x A B h e false was =
    let dark : q (f x) ≡ false = is_false (q (f x)) (λ lit. absurd (cc (was, h lit))) in
    ap (λ c. cond c (f x ∷ A) A) dark ∙ e

map-cond : (f : Pending → Pending) (q : Pending → Bool) (x : Pending) (xs : List Pending) (b : Bool)
    → filter q (map f (cond b (x ∷ xs) xs))
    ≡ cond b (cond (q (f x)) (f x ∷ filter q (map f xs)) (filter q (map f xs))) (filter q (map f xs))
map-cond f q x xs true = refl
map-cond f q x xs false = refl

-- what is open once each press was followed was open before
pub still_open : (f : Pending → Pending) (p q : Pending → Bool) → ((x : Pending) → q (f x) ≡ true → p x ≡ true)
    → (xs : List Pending) → filter q (map f xs) ≡ filter q (map f (filter p xs))
still_open f p q h [] = refl
still_open f p q h (x ∷ xs) =
    still_one f p q x (filter q (map f xs)) (filter q (map f (filter p xs))) (h x) (still_open f p q h xs) (p x) refl
    ∙ sym (map-cond f q x (filter p xs) (p x))

-- ---- the two that are kept

-- those that are kept, as a list
abbrev pub two : Option Pending → Option Pending → List Pending
two one other = option_to_list one ++ option_to_list other

only-list : (q : Pending → Bool) (x : Pending) (b : Bool)
    → option_to_list (cond b (Some x) None) ≡ cond b (x ∷ []) []
only-list q x true = refl
only-list q x false = refl

followed_beside : (f : Pending → Pending) (q : Pending → Bool) (o : Option Pending)
    → filter q (map f (option_to_list o)) ≡ option_to_list (only q (option_map f o))
followed_beside f q None = refl
followed_beside f q (Some x) = sym (only-list q (f x) (q (f x)))

put_front : (y : Pending) (A B : List Pending) (b : Bool) → A ≡ B
    → cond b (y ∷ A) A ≡ option_to_list (cond b (Some y) None) ++ B
put_front y A B true e = ap (λ v. y ∷ v) e
put_front y A B false e = e

kept_one : (f : Pending → Pending) (p q : Pending → Bool) (x : Pending) (A B : List Pending)
    → (q (f x) ≡ true → p x ≡ true) → filter q (map f A) ≡ B → (b : Bool) → p x ≡ b
    → filter q (map f (option_to_list (cond b (Some x) None) ++ A))
    ≡ option_to_list (cond (q (f x)) (Some (f x)) None) ++ B
kept_one f p q x A B h e true was = put_front (f x) (filter q (map f A)) B (q (f x)) e
kept_one f p q x A B h e false was =
    let dark : q (f x) ≡ false = is_false (q (f x)) (λ lit. absurd (cc (was, h lit))) in
    e ∙ ap (λ c. option_to_list (cond c (Some (f x)) None) ++ B) (sym dark)

-- each of the two followed, as far as it is still open
pub followed_two : (f : Pending → Pending) (p q : Pending → Bool) → ((x : Pending) → q (f x) ≡ true → p x ≡ true)
    → (press beside : Option Pending)
    → filter q (map f (two (only p press) beside)) ≡ two (only q (option_map f press)) (only q (option_map f beside))
followed_two f p q h None beside = followed_beside f q beside
followed_two f p q h (Some x) beside =
    kept_one f p q x (option_to_list beside) (option_to_list (only q (option_map f beside))) (h x)
    (followed_beside f q beside) (p x) refl

-- The two that are kept are those that are open of all, before and after each press was followed.
pub open_followed : (f : Pending → Pending) (p q : Pending → Bool) → ((x : Pending) → q (f x) ≡ true → p x ≡ true)
    → (press beside : Option Pending) (xs : List Pending) → two (only p press) beside ≡ filter p xs
    → two (only q (option_map f press)) (only q (option_map f beside)) ≡ filter q (map f xs)
open_followed f p q h press beside xs e =
    sym (followed_two f p q h press beside) ∙ ap (λ v. filter q (map f v)) e ∙ sym (still_open f p q h xs)

pub newest-map : (f : Pending → Pending) (press : Option Pending) (xs : List Pending) → press ≡ newest_of xs
    → option_map f press ≡ newest_of (map f xs)
newest-map f press [] e = ap (option_map f) e
newest-map f press (x ∷ xs) e = ap (option_map f) e

pub second-map : (f : Pending → Pending) (before : Option Pending) (xs : List Pending) → before ≡ second_of xs
    → option_map f before ≡ second_of (map f xs)
second-map f before [] e = ap (option_map f) e
second-map f before (x ∷ xs) e = newest-map f before xs e

-- ---- tests of the two

pub none_in-two : (one other : Option Pending) → none_in (two one other) ≡ (is_none one && is_none other)
none_in-two None None = refl
none_in-two None (Some y) = refl
none_in-two (Some x) other = refl

final_list : (o : Option Pending) → list_all (λ x. not (is_final x.button)) (option_to_list o) ≡ not (is_some_final o)
final_list None = refl
final_list (Some x) = elim (is_final x.button) as (λ b. (not b && true) ≡ not b) [ true ↦ refl | false ↦ refl ]

pub final-two : (one other : Option Pending) → list_all (λ x. not (is_final x.button)) (two one other)
    ≡ (not (is_some_final one) && not (is_some_final other))
final-two None other = final_list other
final-two (Some x) other = ap (λ v. not (is_final x.button) && v) (final_list other)

ask_list : (n : ℕ) (o : Option Pending) → list_any (λ x. nat_eq x.ask n) (option_to_list o) ≡ has_ask n o
ask_list n None = refl
ask_list n (Some x) = elim (nat_eq x.ask n) as (λ b. (b || false) ≡ b) [ true ↦ refl | false ↦ refl ]

pub ask-two : (n : ℕ) (one other : Option Pending)
    → list_any (λ x. nat_eq x.ask n) (two one other) ≡ (has_ask n one || has_ask n other)
ask-two n None other = ask_list n other
ask-two n (Some x) other = ap (λ v. nat_eq x.ask n || v) (ask_list n other)
