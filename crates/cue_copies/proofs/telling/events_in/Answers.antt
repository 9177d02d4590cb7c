use Rattle.std.proofs.Common.{ℕ, List, ap, subst}
use Rattle.cue_disk.specs.Disk.{Contents}
use Rattle.cue_snap.specs.Opened.{live_area_read}
use Rattle.cue_snap.specs.Pair.{PairReads}
use Rattle.cue_copies.proofs.telling.events_in.Goals as goal

pub told_by-requires : goal.told_by-requires
told_by-requires c =
    let area = live_area_read c.in-Ok-open.opened in
    let one = ap (λ (held : Contents). held.bytes) c.in-Ok.ensures.0.held in
    let other = ap (λ (held : Contents). held.bytes) c.in-Ok.ensures.1.held in
    let stood = c.in-Ok-open.ensures.stood tt tt in
    subst (λ (x : List ℕ). PairReads area x c.args.second.now) one
    (subst (λ (y : List ℕ). PairReads area c.in-Ok.one.medium.bytes.items y) other stood)
