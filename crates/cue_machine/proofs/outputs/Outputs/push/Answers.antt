use Rattle.std.proofs.Common.{◌≡◌, ◌+◌, ◌∙◌, ◌++◌, ap, refl, arith, length, length-append}
use Rattle.cue_machine.proofs.BufferLemmas.{one_more, within_more, within_one}
use Rattle.cue_machine.proofs.outputs.Outputs.push.Goals as goal

pub invariant_of-self-in_err-push : goal.invariant_of-self-in_err-push
invariant_of-self-in_err-push c =
    rw (c.in_err-push.ensures.items, c.in_ok-extend_from_slice.ensures.items)
    (within_more (length c.self.inside.bytes.items) (length (c.self.inside.bytes.items ++ c.args.bytes.now))
    c.self.inside.entries.items (omega (arith, length-append c.self.inside.bytes.items c.args.bytes.now))
    c.self.invariant)

-- where the bytes begin, and where they end
start : (c : goal.In_ok-push) → c.len-start.result ≡ length c.self.inside.bytes.items
start c = c.len-start.ensures ∙ c.self.inside.bytes.ok.0

end : (c : goal.In_ok-push) → c.len-end.result ≡ length c.self.inside.bytes.items + length c.args.bytes.now
end c =
    c.len-end.ensures
    ∙ (c.extend_from_slice.new.self.ok.0
    ∙ (ap length c.in_ok-extend_from_slice.ensures.items ∙ length-append c.self.inside.bytes.items c.args.bytes.now))

pub invariant_of-self-2 : goal.invariant_of-self-2
invariant_of-self-2 c =
    rw (c.in_ok-push.ensures.items, c.in_ok-extend_from_slice.ensures.items)
    (within_one (length (c.self.inside.bytes.items ++ c.args.bytes.now)) c.self.inside.entries.items
    (record { output = c.args.output; start = c.len-start.result; end = c.len-end.result })
    (within_more (length c.self.inside.bytes.items) (length (c.self.inside.bytes.items ++ c.args.bytes.now))
    c.self.inside.entries.items (omega (arith, length-append c.self.inside.bytes.items c.args.bytes.now))
    c.self.invariant) (omega (arith, start c, end c))
    (omega (arith, end c, length-append c.self.inside.bytes.items c.args.bytes.now)))

pub returns : goal.returns
returns c =
    rw (c.in_ok-push.ensures.items, c.in_ok-extend_from_slice.ensures.items, ← c.self.view_is)
    (one_more c.self.inside.bytes.items c.args.bytes.now c.self.inside.entries.items c.args.output
    (record { output = c.args.output; start = c.len-start.result; end = c.len-end.result }) c.self.invariant refl
    (start c) (end c))
