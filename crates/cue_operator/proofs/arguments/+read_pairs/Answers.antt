use Rattle.std.proofs.Common.{rules, ◌≡◌, ◌-◌, pos, List, ◌∷◌, ◌++◌, Option, map, length, take, drop, subst, sym, ap}
use Rattle.std.proofs.Common.{◌∙◌}
use Rattle.std.proofs.lemmas.Int.{to_z-of_z}
use Rattle.std.proofs.lemmas.List.{take_rest}
use Rattle.std.specs.Prelude.{IfOk}
use Rattle.std.specs.Option.{option_map}
use mir.Syntax.{w32}
use mir.Val.{SFits}
use Rattle.cue_show.specs.declared.part.Part.{Part}
use Rattle.cue_osc.specs.Argument.{int, blob, arg_view}
use Rattle.cue_operator.specs.Arguments.{part_by, with_part, pairs_in}
use Rattle.cue_operator.proofs.ArgumentLemmas.{behind_one}
use Rattle.cue_operator.proofs.arguments.+read_pairs.Goals as goal

pub returns-in-Some : goal.returns-in-Some
returns-in-Some t c =
    let now = c.args.args.now in
    let device = c.in-Int.device in
    let shape : map arg_view now ≡ int device ∷ blob c.in-Int.bytes.now ∷ map arg_view (drop 2 now) = search rules in
    let fits : SFits w32 device = search rules in
    let part : c.in_ok-part_by-in-Int.field-0 ≡ part_by device (pos 0) c.in-Int.bytes.now =
    c.in_ok-part_by-in-Int.ensures ∙ ap (λ d. part_by d (pos 0) c.in-Int.bytes.now) (to_z-of_z w32 device fits) in
    let more : option_map (λ (m : List Part). c.in-Some.parts ++ m)
    (pairs_in (map arg_view (take (length now - 2) (drop 2 now)))) ≡ option_map
    (λ (m : List Part). c.args.parts ++ m) (pairs_in (map arg_view now)) =
    ap (λ xs. option_map (λ (m : List Part). c.in-Some.parts ++ m) (pairs_in (map arg_view xs))) (take_rest now 2)
    ∙ (behind_one c.args.parts c.in-Some.parts c.in_ok-part_by-in-Int.field-0 (pairs_in (map arg_view (drop 2 now)))
    (sym c.in-Some.is ∙ c.in_ok-parts-in-Int.ensures)
    ∙ (ap (λ p. option_map (λ (m : List Part). c.args.parts ++ m) (with_part p (pairs_in (map arg_view (drop 2 now)))))
    part
    ∙ ap (λ xs. option_map (λ (m : List Part). c.args.parts ++ m) (pairs_in xs)) (sym shape))) in
    subst (λ (r : Option (List Part)). IfOk c.read_pairs.result (λ read. read ≡ r)) more c.read_pairs.ensures
