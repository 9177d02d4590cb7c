-- Outputs in one buffer.
use Rattle.std.proofs.Common.{◌≡◌, ℕ, ◌+◌, ◌-◌, ◌≤◌, ◌<◌, List, [], ◌∷◌, ◌++◌, length, take, drop, get_or, Some}
use Rattle.std.proofs.Common.{zero, suc, refl, sym, ap, ◌∙◌, subst, arith, length-drop}
use Rattle.std.specs.Prelude.{slice_get}
use Rattle.std.specs.Option.{option_map}
use Rattle.std.proofs.lemmas.List.{drop-append-le, take-append-le, take_all, map-append}
use Rattle.std.proofs.lemmas.Option.{none-some, same_Some, slice_get-map, slice_get_read}
use Rattle.std.proofs.Math.ListN.{length-map}
use Rattle.std.proofs.Math.Seq.{drop-append_seam}
use Rattle.cue_machine.specs.declared.outputs.Entry.{Entry}
use Rattle.cue_machine.specs.declared.post.Output.{Output}
use Rattle.cue_machine.specs.Buffers.{AllWithin, given_all, given_in}
use Rattle.cue_machine.specs.Posting.{Given, given_as}

pub within_at : (size : ℕ) (es : List Entry) (k : ℕ) (e : Entry) → AllWithin size es → slice_get es k ≡ Some e
    → (e.start ≤ e.end) × (e.end ≤ size)
within_at size [] k e h f = absurd (none-some e f)
within_at size (x ∷ es) zero e h f = subst (λ (y : Entry). (y.start ≤ y.end) × (y.end ≤ size)) (same_Some x e f) h.0
within_at size (x ∷ es) (suc k) e h f = within_at size es k e h.1 f

-- in a longer buffer
pub within_more : (size more : ℕ) (es : List Entry) → size ≤ more → AllWithin size es → AllWithin more es
within_more size more [] le h = tt
within_more size more (e ∷ es) le h =
    let fits : e.end ≤ more = omega (arith, le, h.0.1) in ((h.0.0, fits), within_more size more es le h.1)

pub within_one : (size : ℕ) (es : List Entry) (e : Entry) → AllWithin size es → e.start ≤ e.end → e.end ≤ size
    → AllWithin size (es ++ e ∷ [])
within_one size [] e h a b = ((a, b), tt)
within_one size (x ∷ es) e h a b = (h.0, within_one size es e h.1 a b)

part_more : (a b : ℕ) (xs ys : List ℕ) → a ≤ b → b ≤ length xs
    → take (b - a) (drop a (xs ++ ys)) ≡ take (b - a) (drop a xs)
part_more a b xs ys le fits =
    let from : a ≤ length xs = omega (arith, le, fits) in
    let long : b - a ≤ length (drop a xs) = omega (arith, le, fits, length-drop a xs) in
    ap (take (b - a)) (drop-append-le a xs ys from) ∙ take-append-le (b - a) (drop a xs) ys long

-- the outputs stay as they are if bytes are added
pub same_more : (xs ys : List ℕ) (es : List Entry) → AllWithin (length xs) es → given_all (xs ++ ys) es ≡ given_all xs es
same_more xs ys [] h = refl
same_more xs ys (e ∷ es) h = rw (part_more e.start e.end xs ys h.0.0 h.0.1, same_more xs ys es h.1) refl

last_one : (xs ys : List ℕ) (e : Entry) (output : Output) → e.output ≡ output → e.start ≡ length xs
    → e.end ≡ length xs + length ys → given_in (xs ++ ys) e ≡ given_as output ys
last_one xs ys e output o a b =
    let size : e.end - e.start ≡ length ys = omega (arith, a, b) in
    let all : length ys ≤ length ys = omega arith in
    let part : take (e.end - e.start) (drop e.start (xs ++ ys)) ≡ ys =
    ap (λ (n : ℕ). take n (drop e.start (xs ++ ys))) size
    ∙ (ap (λ (n : ℕ). take (length ys) (drop n (xs ++ ys))) a
    ∙ (ap (take (length ys)) (drop-append_seam xs ys) ∙ take_all (length ys) ys all)) in
    ap (λ (x : Output). given_as x (take (e.end - e.start) (drop e.start (xs ++ ys)))) o ∙ ap (given_as output) part

-- and one more is the last
pub one_more : (xs ys : List ℕ) (es : List Entry) (output : Output) (e : Entry) → AllWithin (length xs) es
    → e.output ≡ output → e.start ≡ length xs → e.end ≡ length xs + length ys
    → given_all (xs ++ ys) (es ++ e ∷ []) ≡ given_all xs es ++ given_as output ys ∷ []
one_more xs ys es output e h o a b =
    map-append (given_in (xs ++ ys)) es (e ∷ [])
    ∙ (ap (λ (gs : List Given). gs ++ given_in (xs ++ ys) e ∷ []) (same_more xs ys es h)
    ∙ ap (λ (g : Given). given_all xs es ++ g ∷ []) (last_one xs ys e output o a b))

-- the entry at a place gives the output at that place
pub given_at : (bytes : List ℕ) (es : List Entry) (k : ℕ) (e : Entry) → slice_get es k ≡ Some e
    → slice_get (given_all bytes es) k ≡ Some (given_in bytes e)
given_at bytes es k e f = slice_get-map (given_in bytes) es k ∙ ap (option_map (given_in bytes)) f

-- an entry at a place that there is
pub record Found (bytes : List ℕ) (gs : List Given) (k : ℕ) (e : Entry) : Type 0 where
  pub from : e.start ≤ e.end
  pub to : e.end ≤ length bytes
  pub gives : slice_get gs k ≡ Some (given_in bytes e)

pub found_at : (bytes : List ℕ) (es : List Entry) (gs : List Given) (k : ℕ) (e : Entry) → given_all bytes es ≡ gs
    → k < length gs → e ≡ get_or es k e → AllWithin (length bytes) es → Found bytes gs k e
found_at bytes es gs k e same less is within =
    let size : length es ≡ length gs = sym (length-map es (given_in bytes)) ∙ ap length same in
    let here : k < length es = omega (arith, less, size) in
    let found : slice_get es k ≡ Some e = slice_get_read es (length es) k e refl here is in
    let parts = within_at (length bytes) es k e within found in
    record {
      from = parts.0;
      to = parts.1;
      gives = sym (ap (λ (xs : List Given). slice_get xs k) same) ∙ given_at bytes es k e found;
    }
