use Rattle.std.proofs.Common.{ℕ, List, [], ◌∷◌, ◌++◌, Option, Bor, Err, ◌≡◌, ap, sym, ◌∙◌}
use Rattle.std.specs.Option.{option_copied}
use Rattle.std.proofs.lemmas.Result.{err_from_is_err_and}
use Rattle.cue_pattern.specs.declared.fault.Fault.{Fault}
use Rattle.cue_pattern.specs.declared.fault.Fault.TheVariants.{BadPattern}
use Rattle.cue_pattern.specs.declared.piece.Piece.{Piece}
use Rattle.cue_pattern.specs.Reading.{cut, pieces_of}
use Rattle.cue_pattern.specs.Steps.{cut_left}
use Rattle.cue_pattern.proofs.FrontLemmas.{with_front}
use Rattle.cue_pattern.proofs.PartsLemmas.{pattern_at-no_slash, pattern_at-behind, parts-unread_yet, parts-bad}
use Rattle.cue_pattern.proofs.PartsLemmas.{parts-fronted, parts-fronted_all}
use Rattle.cue_pattern.proofs.pattern.Pattern.read_parts.Goals as goal

pub returns-in_default-clause-bad : goal.returns-in_default-clause-bad
returns-in_default-clause-bad c = λ h. pattern_at-no_slash _ c.in_default.ensures.parts

pub loop-left-init : goal.loop-left-init
loop-left-init c =
    ap (λ (ps : List (List Piece)). with_front ps (pieces_of (cut 47 c.in-Some.first.now))) c.in_ok-parts.ensures.items
    ∙ (parts-unread_yet _ ∙ sym (pattern_at-behind _ c.in-Some.first.now c.in-Some.ensures.parts))

pub returns-in_err-read-clause-bad : goal.returns-in_err-read-clause-bad
returns-in_err-read-clause-bad c = λ h.
    let front = c.loop-left.parts.items in
    let err = err_from_is_err_and c.from_residual-in_err-read.result c.from_residual-in_err-read.ensures.1 in
    let given = err.1 in
    let same = err.2 in
    let fault : c.in_err-read.field-0.0 ≡ BadPattern = cc in
    let none = c.in_err-read.ensures.bad (ap (λ (f : Fault). Err f) fault) in
    sym c.loop-left.invariant
    ∙ (ap (λ (o : Option (Bor (List ℕ))). with_front front (pieces_of (cut_left 47 (option_copied o))))
    c.in-Some-left.is
    ∙ ap (with_front front) (parts-bad _ _ _ c.cut_first.ensures none))

pub loop-left-preserved : goal.loop-left-preserved
loop-left-preserved c =
    let front = c.loop-left.parts.items in
    let items : c.push.new.self.items ≡ front ++ c.in_ok-read.field-0 ∷ [] = c.in_ok-push.ensures.items in
    ap (λ (ps : List (List Piece)). with_front ps (pieces_of (cut_left 47 (option_copied c.cut_first.result.1)))) items
    ∙ (parts-fronted front c.in_ok-read.field-0 _ _ _ c.cut_first.ensures c.in_ok-read.ensures.found
    ∙ (ap (λ (o : Option (Bor (List ℕ))). with_front front (pieces_of (cut_left 47 (option_copied o))))
    (sym c.in-Some-left.is)
    ∙ c.loop-left.invariant))

pub returns-clause-found : goal.returns-clause-found
returns-clause-found c =
    let front = c.loop-left.parts.items in
    sym c.loop-left.invariant
    ∙ (ap (λ (o : Option (Bor (List ℕ))). with_front front (pieces_of (cut_left 47 (option_copied o))))
    c.in_default-left.is
    ∙ parts-fronted_all front)
