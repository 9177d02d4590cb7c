use Rattle.std.proofs.Common.{◌∙◌, ap, arith, List, ℕ, ◌++◌, ◌∷◌, []}
use Rattle.cue_log.proofs.GroupLemmas.{few_framed, pushed_payloads, pushed_group}
use Rattle.cue_log.proofs.group.RecordGroup.push.Goals as goal

pub overflow_add-self : goal.overflow_add-self
overflow_add-self c = omega (
  arith,
  few_framed c.self.inside.bytes.items c.self.inside.count c.self.invariant,
  c.len-last.ensures,
  c.len-last.type_inv,
)

pub invariant_of-self-2 : goal.invariant_of-self-2
invariant_of-self-2 c =
    pushed_group c.self.inside.bytes.items c.text.result.now c.args.added.now c.self.inside.count c.self.invariant
    c.text.ensures.framed c.text.ensures.payload
    c.extend_from_slice.new.self.items c.len-last.result c.in_ok-extend_from_slice.ensures.items
    (omega (arith, c.len-last.ensures))

pub returns-clause-ok : goal.returns-clause-ok
returns-clause-ok c =
    pushed_payloads c.self.inside.bytes.items c.text.result.now c.args.added.now c.self.inside.count c.self.invariant
    c.text.ensures.framed c.text.ensures.payload
    c.extend_from_slice.new.self.items c.len-last.result c.in_ok-extend_from_slice.ensures.items
    (omega (arith, c.len-last.ensures))
    ∙ ap (λ (l : List (List ℕ)). l ++ c.args.added.now ∷ []) c.self.view_is
