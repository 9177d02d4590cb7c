-- The pending orders of some attempts, attempt by attempt.
use Rattle.std.proofs.Common.{◌≡◌, ℕ, ◌+◌, ◌<◌, Bool, true, false, cond, List, [], ◌∷◌, ◌++◌, length, filter, drop}
use Rattle.std.proofs.Common.{get_or, refl, sym, ◌∙◌, ap, append_assoc}
use Rattle.std.specs.List.{AllByRecursion, flat_map}
use Rattle.std.proofs.lemmas.List.{drop_more}
use Rattle.cue_show.specs.Devices.{is_among}
use Rattle.cue_exchange.specs.declared.attempt.Attempt.{Attempt}
use Rattle.cue_core.specs.State.{ShowState}
use Rattle.cue_core.specs.Pending.{Order}
use Rattle.cue_outbox.specs.Sending.{order, datagram, datagrams, orders}
use Rattle.cue_outbox.specs.Asked.{number_of}
use Rattle.cue_outbox.specs.Owed.{datagrams_for}
use Rattle.cue_outbox.proofs.ListLemmas.{each_weaker, filter-append}
use Rattle.cue_outbox.proofs.SinceLemmas.{told}
use Rattle.cue_outbox.proofs.NewlyPendingLemmas.{IsOf, told_of}

-- the datagrams to the devices of those attempts
abbrev pub datagrams_in : ShowState → List Attempt → List (ℕ × List ℕ)
datagrams_in s attempts = datagrams (orders (flat_map (told s) attempts))

-- the datagrams to the devices of those of the attempts that have one of the numbers
abbrev pub datagrams_of : ShowState → List ℕ → List Attempt → List (ℕ × List ℕ)
datagrams_of s numbers attempts =
    datagrams (orders (filter (λ o. is_among (number_of o.1) numbers) (flat_map (told s) attempts)))

-- where each has one outcome, all are kept or none
filter-alike : {A : Type 0} (test : A → Bool) (b : Bool) (xs : List A) → AllByRecursion (λ x. test x ≡ b) xs
    → filter test xs ≡ cond b xs []
filter-alike test true [] h = refl
filter-alike test false [] h = refl
filter-alike test true (x ∷ xs) h = rw h.0 (ap (λ ys. x ∷ ys) (filter-alike test true xs h.1))
filter-alike test false (x ∷ xs) h = rw h.0 (filter-alike test false xs h.1)

sent-append : (xs ys : List (ℕ × Order))
    → datagrams (orders (xs ++ ys)) ≡ datagrams (orders xs) ++ datagrams (orders ys)
sent-append [] ys = refl
sent-append (x ∷ xs) ys = ap (λ (ds : List (ℕ × List ℕ)). datagram (x.0, order x.1) ∷ ds) (sent-append xs ys)

-- those of the first attempt, where it has one of the numbers, and then those of the others
owed-first : (s : ShowState) (numbers : List ℕ) (a : Attempt) (rest : List Attempt)
    → datagrams_of s numbers (a ∷ rest) ≡ cond (is_among a.seq numbers) (datagrams_for s a a.answers) [] ++ datagrams_of
    s numbers rest
owed-first s numbers a rest =
    let test : ℕ × Order → Bool = λ o. is_among (number_of o.1) numbers in
    let here : filter test (told s a) ≡ cond (is_among a.seq numbers) (told s a) [] =
    filter-alike test (is_among a.seq numbers) (told s a)
    (each_weaker (IsOf a) (λ o. test o ≡ is_among a.seq numbers) (λ o k. ap (λ q. is_among q numbers) k.number)
    (told s a) (told_of s a))
    in
    ap (λ (os : List (ℕ × Order)). datagrams (orders os)) (filter-append test (told s a) (flat_map (λ b. told s b) rest)
    ∙ ap (λ (os : List (ℕ × Order)). os ++ filter test (flat_map (λ b. told s b) rest)) here)
    ∙ (sent-append (cond (is_among a.seq numbers) (told s a) []) (filter test (flat_map (λ b. told s b) rest))
    ∙ ap (λ (ds : List (ℕ × List ℕ)). ds ++ datagrams_of s numbers rest) (either (is_among a.seq numbers)))
  where
    either : (b : Bool) → datagrams (orders (cond b (told s a) [])) ≡ cond b (datagrams_for s a a.answers) []
    either true = refl
    either false = refl

-- one attempt more
pub owed-more : (s : ShowState) (numbers : List ℕ) (live : List Attempt) (i : ℕ) (a : Attempt)
    (outs news all : List (ℕ × List ℕ)) → i < length live → a ≡ get_or live i a
    → news ≡ outs ++ cond (is_among a.seq numbers) (datagrams_for s a a.answers) []
    → outs ++ datagrams_of s numbers (drop i live) ≡ all → news ++ datagrams_of s numbers (drop (i + 1) live) ≡ all
owed-more s numbers live i a outs news all lt is new old =
    let cut : drop i live ≡ a ∷ drop (i + 1) live = drop_more live i a lt ∙ ap (λ x. x ∷ drop (i + 1) live) (sym is) in
    ap (λ (ds : List (ℕ × List ℕ)). ds ++ datagrams_of s numbers (drop (i + 1) live)) new
    ∙ (append_assoc outs (cond (is_among a.seq numbers) (datagrams_for s a a.answers) [])
    (datagrams_of s numbers (drop (i + 1) live))
    ∙ (ap (λ (ds : List (ℕ × List ℕ)). outs ++ ds)
    (sym (ap (datagrams_of s numbers) cut ∙ owed-first s numbers a (drop (i + 1) live))) ∙ old))
