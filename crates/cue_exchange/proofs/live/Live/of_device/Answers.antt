use Rattle.std.proofs.Common.{◌≡◌, ◌≤◌, slice_index, ap, ◌∙◌, arith}
use Rattle.cue_show.specs.declared.limits.TheConstants.{MAX_DEVICE_NUMBER}
use Rattle.cue_exchange.specs.Live.{attempt_of, attempt_of_device}
use Rattle.cue_exchange.specs.Holders.{holder}
use Rattle.cue_exchange.proofs.HolderLemmas.{held-by}
use Rattle.cue_exchange.proofs.live.Live.of_device.Goals as goal

pub returns : goal.returns
returns c =
    let at : c.from.result ≡ c.args.device = c.from.ensures ∙ c.number.ensures.value in
    let below : c.args.device ≤ MAX_DEVICE_NUMBER = omega (arith, c.number.ensures.value, c.number.ensures.range) in
    let seq : slice_index c.self.inside.holders c.from.result ≡ holder c.self.inside.attempts.items c.args.device =
    ap (λ n. slice_index c.self.inside.holders n) at ∙ c.self.invariant.holders c.args.device below in
    let one : attempt_of c.args.self.now (holder c.self.inside.attempts.items c.args.device) ≡ attempt_of_device
    c.args.self.now c.args.device =
    rw (← c.self.view_is) (held-by c.self.inside.attempts.items c.args.device c.self.invariant.live)
    in
    c.of_seq.ensures ∙ (ap (attempt_of c.args.self.now) seq ∙ one)
