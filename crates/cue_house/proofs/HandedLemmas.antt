-- A message of a desk that is read as a go of a cue is that of its GO.
use Rattle.std.proofs.Common.{◌≡◌, ℕ, Bool, true, false, ◌&&◌, List, [], ◌∷◌, ◌++◌, Some, Result, Ok, length, map}
use Rattle.std.proofs.Common.{if◌then◌else◌, refl, sym, ap, ◌∙◌, subst, IsTrue, arith, nat_le}
use Rattle.std.specs.Prelude.{codes, ◌==◌}
use Rattle.std.specs.Char.{is_ascii_digit}
use Rattle.std.specs.Fmt.{decimal}
use Rattle.std.specs.List.{AllByRecursion, list_all}
use Rattle.std.proofs.lemmas.Bool.Decides.{nat_tests}
use Rattle.std.proofs.lemmas.List.{append_cancel_left, append_cancel_right}
use Rattle.cue_show.specs.declared.limits.TheConstants.{MAX_CUE_BYTES}
use Rattle.cue_show.specs.Number.{is_cue_number, is_run, pieces}
use Rattle.cue_show.proofs.RunsLemmas.{runs_from, runs_from-start}
use Rattle.cue_show.proofs.TestLemmas.{both, join}
use Rattle.cue_show.proofs.TextLemmas.{same_text-true}
use Rattle.cue_core.specs.declared.refusal.Refusal.{Refusal}
use Rattle.cue_osc.specs.Content.{Content, message}
use Rattle.cue_osc.specs.Reading.{datagram_at}
use Rattle.cue_pattern.specs.declared.piece.Piece.{Piece}
use Rattle.cue_pattern.specs.declared.piece.Piece.TheVariants.{Plain}
use Rattle.cue_pattern.specs.Literal.{is_literal, is_literal_byte}
use Rattle.cue_pattern.specs.Matching.{matches}
use Rattle.cue_pattern.specs.Reading.{pattern_at}
use Rattle.cue_operator.specs.declared.method.CueVerb.{CueVerb}
use Rattle.cue_operator.specs.declared.method.CueVerb.TheVariants as verb
use Rattle.cue_operator.specs.declared.method.Method.TheVariants as method
use Rattle.cue_operator.specs.Methods.{address_of}
use Rattle.cue_operator.proofs.LiteralLemmas.{literal-matches-itself}
use Rattle.cue_engine.specs.Given.{datagram, messages_in, unless_later}
use Rattle.cue_desk.specs.declared.orders.DeskCommand.{DeskCommand}
use Rattle.cue_desk.specs.declared.orders.DeskCommand.TheVariants as order
use Rattle.cue_desk.specs.Together.{address_with, alone_address, braced, together_address}
use Rattle.cue_station.specs.Turns.{Turn}
use Rattle.cue_stage.proofs.DeliveredLemmas.{each_has}
use Rattle.cue_house.specs.Asking.{AsksForGo, IsGo, IsReadAsGo}
use Rattle.cue_house.specs.House.{HandsOver, names_cue}
use Rattle.cue_house.proofs.VerbLemmas.{no_go, no_go_at}
use Rattle.cue_house.proofs.VerbLemmas.{standby_pieces, cancel_pieces, goto_pieces, remove_pieces, release_pieces}
use Rattle.cue_house.proofs.VerbLemmas.{status_pieces, standby_is_other, cancel_is_other, goto_is_other}
use Rattle.cue_house.proofs.VerbLemmas.{remove_is_other, release_is_other, status_is_other}

-- ---- a cue number has no wildcards

digit_literal : (b : ℕ) → is_ascii_digit b ≡ true → is_literal_byte b ≡ true
digit_literal b h = grind (arith, nat_tests)

point_literal : (b : ℕ) → (b == 46) ≡ true → is_literal_byte b ≡ true
point_literal b h = grind (arith, nat_tests)

runs_literal : (a : Bool) (bs : List ℕ) → runs_from a bs ≡ true → IsTrue (is_literal bs)
runs_literal a [] h = refl
runs_literal a (b ∷ bs) h = by (is_ascii_digit b) refl h (runs_literal true bs) (runs_literal false bs)
  where
    by : (d : Bool) → is_ascii_digit b ≡ d
        → (if d then runs_from true bs else (b == 46 && (a && runs_from false bs))) ≡ true
        → (runs_from true bs ≡ true → IsTrue (is_literal bs)) → (runs_from false bs ≡ true → IsTrue (is_literal bs))
        → IsTrue (is_literal (b ∷ bs))
    by true is_digit k then_true then_false = join (is_literal_byte b) (is_literal bs) (digit_literal b is_digit)
        (then_true k)
    by false is_digit k then_true then_false =
        let p = both (b == 46) (a && runs_from false bs) k in
        join (is_literal_byte b) (is_literal bs) (point_literal b p.0) (then_false (both a (runs_from false bs) p.1).1)

cue_literal : (cue : List ℕ) → IsTrue (is_cue_number cue) → IsTrue (is_literal cue)
cue_literal cue h =
    let runs = (both (nat_le (length cue) MAX_CUE_BYTES) (list_all is_run (pieces cue)) h).1 in
    runs_literal false cue (runs_from-start cue ∙ runs)

literal_append : (xs ys : List ℕ) → IsTrue (is_literal xs) → IsTrue (is_literal ys) → IsTrue (is_literal (xs ++ ys))
literal_append [] ys h k = k
literal_append (x ∷ xs) ys h k = let p = both (is_literal_byte x) (is_literal xs) h in
    join (is_literal_byte x) (is_literal (xs ++ ys)) p.0 (literal_append xs ys p.1 k)

-- ---- which message is a go

-- the go of a cue matches that of no other cue
go_alone : (cue asked : List ℕ) (p : List (List Piece)) → IsTrue (is_cue_number cue)
    → pattern_at (address_of (method.OfCue cue verb.Go)) ≡ Some p
    → matches p (address_of (method.OfCue asked verb.Go)) ≡ true → cue ≡ asked
go_alone cue asked p number read matching =
    let a : List ℕ = address_of (method.OfCue cue verb.Go) in
    let b : List ℕ = address_of (method.OfCue asked verb.Go) in
    let literal : IsTrue (is_literal a) =
    literal_append (codes "/cue/") (cue ++ 47 ∷ codes "go") refl
    (literal_append cue (47 ∷ codes "go") (cue_literal cue number) refl) in
    let same : a ≡ b = same_text-true a b (sym (literal-matches-itself a b p literal read) ∙ matching) in
    append_cancel_right cue asked (47 ∷ codes "go")
    (append_cancel_left (codes "/cue/") (cue ++ 47 ∷ codes "go") (asked ++ 47 ∷ codes "go") same)

-- an address under the front of a cue
abbrev at_cue : List ℕ → List ℕ
at_cue name = 99 ∷ 117 ∷ 101 ∷ 47 ∷ name

-- and of a device
abbrev at_device : ℕ → List ℕ
at_device d = 100 ∷ 101 ∷ 118 ∷ 105 ∷ 99 ∷ 101 ∷ 47 ∷ decimal d

cue_alone : (v : CueVerb) (cue asked : List ℕ) (p : List (List Piece)) → IsTrue (is_cue_number cue)
    → pattern_at (alone_address (order.OfCue v cue)) ≡ Some p
    → matches p (address_of (method.OfCue asked verb.Go)) ≡ true → order.OfCue v cue ≡ order.OfCue verb.Go asked
cue_alone verb.Go cue asked p number read matching = ap (order.OfCue verb.Go) (go_alone cue asked p number read matching)
cue_alone verb.Standby cue asked p number read matching =
    absurd (no_go_at (at_cue cue) (codes "standby") (map Plain (codes "standby")) refl standby_pieces standby_is_other p
    asked read matching)
cue_alone verb.Cancel cue asked p number read matching =
    absurd (no_go_at (at_cue cue) (codes "cancel") (map Plain (codes "cancel")) refl cancel_pieces cancel_is_other p
    asked read matching)
cue_alone verb.Goto cue asked p number read matching =
    absurd (no_go_at (at_cue cue) (codes "goto") (map Plain (codes "goto")) refl goto_pieces goto_is_other p asked read
    matching)
cue_alone verb.Remove cue asked p number read matching =
    absurd (no_go_at (at_cue cue) (codes "remove") (map Plain (codes "remove")) refl remove_pieces remove_is_other p
    asked read matching)

go_by_itself : (o : DeskCommand) (asked : List ℕ) (p : List (List Piece)) → IsTrue (names_cue o)
    → pattern_at (alone_address o) ≡ Some p → matches p (address_of (method.OfCue asked verb.Go)) ≡ true
    → o ≡ order.OfCue verb.Go asked
go_by_itself order.Status asked p named read matching =
    absurd (no_go (codes "status") (codes "status") (map Plain (codes "status")) [] refl status_pieces status_is_other p
    asked read matching)
go_by_itself (order.OfCue v cue) asked p named read matching = cue_alone v cue asked p named read matching
go_by_itself (order.Release d) asked p named read matching =
    absurd (no_go_at (at_device d) (codes "release") (map Plain (codes "release")) refl release_pieces release_is_other p
    asked read matching)
go_by_itself (order.RemoveDevice d) asked p named read matching =
    absurd (no_go_at (at_device d) (codes "remove") (map Plain (codes "remove")) refl remove_pieces remove_is_other p
    asked read matching)

together_is_none : (cue : List ℕ) (others : List (List ℕ)) (asked : List ℕ) (p : List (List Piece))
    → pattern_at (together_address cue others) ≡ Some p
    → matches p (address_of (method.OfCue asked verb.Go)) ≡ true → ⊥
together_is_none cue others asked p read matching =
    no_go_at (at_cue (braced cue others)) (codes "standby") (map Plain (codes "standby")) refl standby_pieces
    standby_is_other p asked read matching

-- by itself or with others
go_with : (o : DeskCommand) (others : List (List ℕ)) (asked : List ℕ) → IsTrue (names_cue o)
    → IsReadAsGo (address_with o others) [] asked → o ≡ order.OfCue verb.Go asked
go_with o [] asked named r = go_by_itself o asked r.pattern named r.read r.matching
go_with order.Status (d ∷ ds) asked named r = go_by_itself order.Status asked r.pattern named r.read r.matching
go_with (order.OfCue verb.Standby cue) (d ∷ ds) asked named r =
    absurd (together_is_none cue (d ∷ ds) asked r.pattern r.read r.matching)
go_with (order.OfCue verb.Go cue) (d ∷ ds) asked named r =
    go_by_itself (order.OfCue verb.Go cue) asked r.pattern named r.read r.matching
go_with (order.OfCue verb.Cancel cue) (d ∷ ds) asked named r =
    go_by_itself (order.OfCue verb.Cancel cue) asked r.pattern named r.read r.matching
go_with (order.OfCue verb.Goto cue) (d ∷ ds) asked named r =
    go_by_itself (order.OfCue verb.Goto cue) asked r.pattern named r.read r.matching
go_with (order.OfCue verb.Remove cue) (d ∷ ds) asked named r =
    go_by_itself (order.OfCue verb.Remove cue) asked r.pattern named r.read r.matching
go_with (order.Release e) (d ∷ ds) asked named r =
    go_by_itself (order.Release e) asked r.pattern named r.read r.matching
go_with (order.RemoveDevice e) (d ∷ ds) asked named r =
    go_by_itself (order.RemoveDevice e) asked r.pattern named r.read r.matching

-- ---- the datagram

brings_one : (now : ℕ) (bytes address : List ℕ) → datagram_at bytes ≡ Ok (message address [])
    → messages_in now bytes ≡ Ok (message address [] ∷ [])
unfolding messages_in
brings_one now bytes address e = ap (unless_later now) e

the_messages : (r : Result (List Content) Refusal) (xs ys : List Content) → r ≡ Ok xs → r ≡ Ok ys → xs ≡ ys
the_messages r xs ys h k = cc

-- what a desk handed over asks for a go only if it is the go of that cue
pub handed_go : (t : Turn) (bytes : List ℕ) (now from : ℕ) (cue : List ℕ) → (h : HandsOver t bytes)
    → AsksForGo now (datagram from bytes) cue → h.message.order ≡ order.OfCue verb.Go cue
handed_go t bytes now from cue h asks =
    let address : List ℕ = address_with h.message.order h.others in
    let m : Content = message address [] in
    let brought : asks.brings.0 ≡ m ∷ [] =
    the_messages (messages_in now bytes) asks.brings.0 (m ∷ []) asks.brings.1 (brings_one now bytes address h.read) in
    let all : AllByRecursion (λ x. x ≡ m) asks.brings.0 =
    subst (λ (xs : List Content). AllByRecursion (λ x. x ≡ m) xs) (sym brought) (refl, tt) in
    let is : asks.content ≡ m = each_has (λ (x : Content). x ≡ m) asks.brings.0 asks.content all asks.brings.2 in
    go_with h.message.order h.others cue h.named (subst (λ (x : Content). IsGo x cue) is asks.asks)
