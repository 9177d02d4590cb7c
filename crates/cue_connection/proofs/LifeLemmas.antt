-- A connection, turn by turn.
use Rattle.std.proofs.Common.{◌≡◌, ◌∙◌, refl, sym, ap, subst, arith, ℕ, ◌+◌, ◌-◌, ◌≤◌, inl, inr, Bool, true, false}
use Rattle.std.proofs.Common.{List, [], ◌∷◌, ◌++◌, length, Option, None, Some}
use Rattle.std.specs.Prelude.{nat_eq}
use Rattle.std.proofs.lemmas.List.{length-append, length-take}
use Rattle.cue_request.specs.declared.identity.PageIdentity.{PageIdentity}
use Rattle.cue_connection.specs.Connecting.{AsksIf, AsksOr, NeverWhole, NotWhole, TakesIf, TakesPiece, is_over, is_read}
use Rattle.cue_connection.specs.Connecting.{kept_of}
use Rattle.cue_connection.specs.Laws.{KeepsLittle, NothingAfter, OneRequest, Turn, Turns, came, other}
use Rattle.cue_connection.specs.Laws.{requests, was_asked}
use Rattle.cue_connection.specs.Stages.{is_asking}
use Rattle.cue_connection.specs.declared.asking.Asking.{Asking}
use Rattle.cue_connection.specs.declared.connection.Connection.{Connection}
use Rattle.cue_connection.specs.declared.connection.TheConstants.{MAX_INPUT}
use Rattle.cue_connection.specs.declared.stage.Stage.{Stage}
use Rattle.cue_connection.specs.declared.stage.Stage.TheVariants as stage

-- ---- one that asks no more

not-again : (was is : Bool) → (is ≡ true → was ≡ true) → was ≡ false → is ≡ false
not-again was true once over = sym (once refl) ∙ over
not-again was false once over = refl

-- a turn leaves it so
record StaysOver (t : Turn) (c c_then : Connection) : Type 0 where
  none : requests (t ∷ []) ≡ 0
  over : is_asking c_then.stage ≡ false
  input : c_then.input ≡ c.input

same-over : (t : Turn) (c c_then : Connection) → requests (t ∷ []) ≡ 0 → is_asking c.stage ≡ false → c_then ≡ c
    → StaysOver t c c_then
same-over t c c_then none over same =
    record {
      none = none;
      over = ap (λ (d : Connection). is_asking d.stage) same ∙ over;
      input = ap (λ (d : Connection). d.input) same;
    }

ask-over : (identity : PageIdentity) (now : ℕ) (asks : Option Asking) (c c_then : Connection)
    → is_asking c.stage ≡ false → asks ≡ None → c_then ≡ c → StaysOver (was_asked now asks) c c_then
ask-over identity now None c c_then over none same = same-over (was_asked now None) c c_then refl over same
ask-over identity now (Some a) c c_then over none same = absurd cc

stays-over : (identity : PageIdentity) (t : Turn) (c c_then : Connection) → is_asking c.stage ≡ false
    → Turns identity t c c_then → StaysOver t c c_then
stays-over identity (came piece) c c_then over turns =
    same-over (came piece) c c_then refl over (rw over at turns)
stays-over identity (was_asked now asks) c c_then over turns =
    let said : AsksIf false identity now c asks c_then = rw over at turns in
    ask-over identity now asks c c_then over said.0 said.1
stays-over identity other c c_then over turns =
    record {
      none = refl;
      over = not-again (is_asking c.stage) (is_asking c_then.stage) turns.0.once over;
      input = turns.1;
    }

-- the requests of a turn and of those after it
requests-more : (t : Turn) (ts : List Turn) → requests (t ∷ ts) ≡ requests (t ∷ []) + requests ts
requests-more (came piece) ts = omega arith
requests-more (was_asked now None) ts = omega arith
requests-more (was_asked now (Some a)) ts = omega arith
requests-more other ts = omega arith

pub nothing-after : NothingAfter
nothing-after identity [] c c_then over turns = (refl, ap (λ (d : Connection). d.input) turns)
nothing-after identity (t ∷ ts) c c_then over turns =
    let mid : Connection = turns.0 in
    let stays : StaysOver t c mid = stays-over identity t c mid over turns.1 in
    let rest = nothing-after identity ts mid c_then stays.over turns.2 in
    (requests-more t ts ∙ ap (λ n. n + requests ts) stays.none ∙ ap (λ n. 0 + n) rest.0, rest.1 ∙ stays.input)

-- ---- one request

stage-of : (c d : Connection) (s : Stage) → c ≡ record d { stage = s } → is_asking s ≡ false → is_asking c.stage ≡ false
stage-of c d s same over = ap (λ (x : Connection). is_asking x.stage) same ∙ over

never-over : (e : Bool) (c : Connection) (a : Asking) (c_then : Connection) → NeverWhole e c (Some a) c_then
    → is_asking c_then.stage ≡ false
never-over true c a c_then is = let h = is.0 in absurd cc
never-over false c a c_then is = stage-of c_then c stage.Asked is.1 refl

waits-over : (w : Bool) (c : Connection) (a : Asking) (c_then : Connection) → NotWhole w c (Some a) c_then
    → is_asking c_then.stage ≡ false
waits-over true c a c_then is = never-over (nat_eq (length c.input.items) 0) c a c_then is
waits-over false c a c_then is = let h = is.0 in absurd cc

or-over : (reads : Option Asking) (now : ℕ) (c : Connection) (a : Asking) (c_then : Connection)
    → AsksOr reads now c (Some a) c_then → is_asking c_then.stage ≡ false
or-over (Some b) now c a c_then is = stage-of c_then c stage.Asked is.1 refl
or-over None now c a c_then is = waits-over (is_over now c) c a c_then is

asks-over : (v : Bool) (identity : PageIdentity) (now : ℕ) (c : Connection) (a : Asking) (c_then : Connection)
    → AsksIf v identity now c (Some a) c_then → is_asking c_then.stage ≡ false
asks-over true identity now c a c_then is = or-over is.reads now (is_read c) a c_then is.says
asks-over false identity now c a c_then is = let h = is.0 in absurd cc

pub one-request : OneRequest
one-request identity [] c c_then turns = omega arith
one-request identity (came piece ∷ ts) c c_then turns = one-request identity ts turns.0 c_then turns.2
one-request identity (other ∷ ts) c c_then turns = one-request identity ts turns.0 c_then turns.2
one-request identity (was_asked now None ∷ ts) c c_then turns = one-request identity ts turns.0 c_then turns.2
one-request identity (was_asked now (Some a) ∷ ts) c c_then turns =
    let over : is_asking turns.0.stage ≡ false = asks-over (is_asking c.stage) identity now c a turns.0 turns.1 in
    let rest = nothing-after identity ts turns.0 c_then over turns.2 in
    let none : requests ts ≡ 0 = rest.0 in
    omega arith

-- ---- what is kept

never-input : (e : Bool) (c : Connection) (asks : Option Asking) (c_then : Connection) → NeverWhole e c asks c_then
    → c_then.input ≡ c.input
never-input true c asks c_then is = ap (λ (d : Connection). d.input) is.1
never-input false c asks c_then is = ap (λ (d : Connection). d.input) is.1

waits-input : (w : Bool) (c : Connection) (asks : Option Asking) (c_then : Connection) → NotWhole w c asks c_then
    → c_then.input ≡ c.input
waits-input true c asks c_then is = never-input (nat_eq (length c.input.items) 0) c asks c_then is
waits-input false c asks c_then is = ap (λ (d : Connection). d.input) is.1

or-input : (reads : Option Asking) (now : ℕ) (c : Connection) (asks : Option Asking) (c_then : Connection)
    → AsksOr reads now c asks c_then → c_then.input ≡ c.input
or-input (Some b) now c asks c_then is = ap (λ (d : Connection). d.input) is.1
or-input None now c asks c_then is = waits-input (is_over now c) c asks c_then is

asks-input : (v : Bool) (identity : PageIdentity) (now : ℕ) (c : Connection) (asks : Option Asking)
    (c_then : Connection) → AsksIf v identity now c asks c_then → c_then.input ≡ c.input
asks-input true identity now c asks c_then is = or-input is.reads now (is_read c) asks c_then is.says
asks-input false identity now c asks c_then is = ap (λ (d : Connection). d.input) is.1

same-little : (c c_then : Connection) → c_then.input.items ≡ c.input.items → length c.input.items ≤ MAX_INPUT
    → length c_then.input.items ≤ MAX_INPUT
same-little c c_then same few = subst (λ (l : List ℕ). length l ≤ MAX_INPUT) (sym same) few

piece-little : (piece : List ℕ) (c c_then : Connection) → TakesPiece piece c c_then
    → length c.input.items ≤ MAX_INPUT → length c_then.input.items ≤ MAX_INPUT
piece-little piece c c_then takes few =
    let before : ℕ = length c.input.items in
    let all : c_then.input.items ≡ c.input.items ++ kept_of before piece = ap (λ x. x.bytes) takes.came in
    let long : length c_then.input.items ≡ before + length (kept_of before piece) =
    ap length all ∙ length-append c.input.items (kept_of before piece) in
    let kept = length-take (MAX_INPUT - before) piece in
    omega arith

takes-little : (v : Bool) (piece : List ℕ) (c c_then : Connection) → TakesIf v piece c c_then
    → length c.input.items ≤ MAX_INPUT → length c_then.input.items ≤ MAX_INPUT
takes-little true piece c c_then (inl takes) few = piece-little piece c c_then takes few
takes-little true piece c c_then (inr lost) few = same-little c c_then lost.input few
takes-little false piece c c_then same few =
    same-little c c_then (ap (λ (d : Connection). d.input.items) same) few

turn-little : (identity : PageIdentity) (t : Turn) (c c_then : Connection) → Turns identity t c c_then
    → length c.input.items ≤ MAX_INPUT → length c_then.input.items ≤ MAX_INPUT
turn-little identity (came piece) c c_then turns few = takes-little (is_asking c.stage) piece c c_then turns few
turn-little identity (was_asked now asks) c c_then turns few =
    same-little c c_then (ap (λ v. v.items) (asks-input (is_asking c.stage) identity now c asks c_then turns)) few
turn-little identity other c c_then turns few = same-little c c_then (ap (λ v. v.items) turns.1) few

pub keeps-little : KeepsLittle
keeps-little identity [] c c_then few turns = same-little c c_then (ap (λ (d : Connection). d.input.items) turns) few
keeps-little identity (t ∷ ts) c c_then few turns =
    keeps-little identity ts turns.0 c_then (turn-little identity t c turns.0 turns.1 few) turns.2
