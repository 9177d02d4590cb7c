use Rattle.std.proofs.Common.{IsTrue, true, false, subst, ℕ, List, Option, Bool, Bor, length, drop, get_or, ◌≡◌, ◌<◌}
use Rattle.std.proofs.Common.{◌+◌, ◌&&◌, ap, sym, ◌∙◌, arith}
use Rattle.std.specs.Option.{option_copied}
use Rattle.cue_pattern.specs.declared.piece.Piece.{Piece}
use Rattle.cue_pattern.specs.Reading.{cut}
use Rattle.cue_pattern.specs.Matching.{part_matches, parts_match}
use Rattle.cue_pattern.specs.Short.{is_short}
use Rattle.cue_pattern.specs.Steps.{cut_left, CutsFirst}
use Rattle.std.specs.List.{list_all}
use Rattle.cue_pattern.proofs.PartsLemmas.{parts_match-no_text, parts_match-next, parts_match-end, none_left}
use Rattle.cue_pattern.proofs.PartsLemmas.{short-parts}
use Rattle.cue_pattern.proofs.pattern.Pattern.match_parts.Goals as goal

abbrev AreShort : List (List ℕ) → Type 0
AreShort ts = IsTrue (list_all is_short ts)

pub returns-in_default-clause-exact : goal.returns-in_default-clause-exact
returns-in_default-clause-exact c =
    let parts = c.args.self.now in
    let i = c.loop-part.part-index in
    let items : c.deref-part-items.result.now ≡ parts = c.deref-part-items.ensures.value ∙ c.self.view_is in
    let some_left : i < length parts = omega (arith, ap length items) in
    sym (parts_match-no_text parts i some_left)
    ∙ (ap (λ (o : Option (Bor (List ℕ))). parts_match (drop i parts) (cut_left 47 (option_copied o)))
    (sym c.in_default.is)
    ∙ c.loop-part.invariant.same)

-- one part was matched with one text
stepped : (parts : List (List Piece)) (i : ℕ) (part : List Piece) (b : Bool) (left : Option (Bor (List ℕ)))
    (rest before : List ℕ) (behind : Option (List ℕ)) (all : Bool)
    → i < length parts → part ≡ get_or parts i part → CutsFirst 47 rest before behind
    → cut_left 47 (option_copied left) ≡ cut 47 rest → b ≡ part_matches part before
    → parts_match (drop i parts) (cut_left 47 (option_copied left)) ≡ all
    → (b && parts_match (drop (i + 1) parts) (cut_left 47 behind)) ≡ all
stepped parts i part b left rest before behind all some_left item cuts is told same =
    ap (λ (x : Bool). x && parts_match (drop (i + 1) parts) (cut_left 47 behind)) told
    ∙ (sym (parts_match-next parts i part rest before behind some_left item cuts)
    ∙ (ap (parts_match (drop i parts)) (sym is) ∙ same))

pub returns-then-not-branch-clause-exact : goal.returns-then-not-branch-clause-exact
returns-then-not-branch-clause-exact c =
    let parts = c.args.self.now in
    let i = c.loop-part.part-index in
    let part = c.part-item.result in
    let items : c.deref-part-items.result.now ≡ parts = c.deref-part-items.ensures.value ∙ c.self.view_is in
    let all = parts_match parts (cut 47 c.args.rest.now) in
    ap (λ (b : Bool). b && parts_match (drop (i + 1) parts) (cut_left 47 (option_copied c.cut_first.result.1)))
    (sym c.if-not-branch.true)
    ∙ stepped parts i part c.in_ok-matches.field-0 c.loop-part.left c.in-Some.rest.now c.cut_first.result.0.now
    (option_copied c.cut_first.result.1) all
    (omega (arith, ap length items)) (c.part-item.is ∙ ap (λ (xs : List (List Piece)). get_or xs i part) items)
    c.cut_first.ensures
    (ap (λ (o : Option (Bor (List ℕ))). cut_left 47 (option_copied o)) c.in-Some.is) c.in_ok-matches.ensures.exact
    c.loop-part.invariant.same

pub loop-part-preserved : goal.loop-part-preserved
loop-part-preserved c =
    let parts = c.args.self.now in
    let i = c.loop-part.part-index in
    let part = c.part-item.result in
    let items : c.deref-part-items.result.now ≡ parts = c.deref-part-items.ensures.value ∙ c.self.view_is in
    let all = parts_match parts (cut 47 c.args.rest.now) in
    let here : cut_left 47 (option_copied c.loop-part.left) ≡ cut 47 c.in-Some.rest.now =
    ap (λ (o : Option (Bor (List ℕ))). cut_left 47 (option_copied o)) c.in-Some.is in
    record {
      same =
          ap (λ (b : Bool). b && parts_match (drop (i + 1) parts) (cut_left 47 (option_copied c.cut_first.result.1)))
          (sym c.if-not-branch.false)
          ∙ stepped parts i part c.in_ok-matches.field-0 c.loop-part.left c.in-Some.rest.now c.cut_first.result.0.now
          (option_copied c.cut_first.result.1) all
          (omega (arith, ap length items)) (c.part-item.is ∙ ap (λ (xs : List (List Piece)). get_or xs i part) items)
          c.cut_first.ensures here c.in_ok-matches.ensures.exact c.loop-part.invariant.same;
      short = λ s. (short-parts _ _ _ c.cut_first.ensures (subst AreShort here (c.loop-part.invariant.short s))).1;
    }

pub returns-in_err-matches-clause-short : goal.returns-in_err-matches-clause-short
returns-in_err-matches-clause-short c = λ s.
    let here : cut_left 47 (option_copied c.loop-part.left) ≡ cut 47 c.in-Some.rest.now =
    ap (λ (o : Option (Bor (List ℕ))). cut_left 47 (option_copied o)) c.in-Some.is in
    let few = (short-parts _ _ _ c.cut_first.ensures (subst AreShort here (c.loop-part.invariant.short s))).0 in
    let e : false ≡ true = c.in_err-matches.ensures.short few in
    cc

pub returns-clause-exact : goal.returns-clause-exact
returns-clause-exact c =
    let parts = c.args.self.now in
    let items : c.deref-part-items.result.now ≡ parts = c.deref-part-items.ensures.value ∙ c.self.view_is in
    none_left c.loop-part.left _ c.is_none.ensures
    ∙ (parts_match-end parts c.loop-part.part-index (option_copied c.loop-part.left) (omega (arith, ap length items))
    ∙ c.loop-part.invariant.same)
