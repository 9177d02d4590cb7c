use Rattle.std.proofs.Common.{refl, ap, subst, ◌∙◌}
use Rattle.cue_station.specs.Noting.{footing_by}
use Rattle.cue_station.specs.Seeing.{seen_after}
use Rattle.cue_station.specs.Viewing.{IsView}
use Rattle.cue_station.proofs.ViewLemmas.{numbered}
use Rattle.cue_station.proofs.station.Station.make.Goals as goal

-- src/station.rt
pub returns : goal.returns
returns c =
    let s = c.args.self.now in
    let i = c.args.input.now in
    let n = c.in_ok-notes.field-0 in
    let seen = c.in_ok-seen.seen.items in
    let footing = footing_by n.notes s.reading i.at i.wall in
    let failed = c.in_ok-failed.failed.items in
    let view = subst (λ l. IsView n.notes s.reading s.relay seen l footing c.in_ok-bare.bare) c.deref-3.ensures.value
    (subst (λ l. IsView n.notes s.reading s.relay l c.deref-3.result.now footing c.in_ok-bare.bare)
    c.deref-2.ensures.value
    (subst (λ f. IsView n.notes s.reading s.relay c.deref-2.result.now c.deref-3.result.now f c.in_ok-bare.bare)
    c.footing_by-footing.ensures c.in_ok-bare.ensures)) in
    record {
      due = c.in_ok-notes.ensures.due;
      overdue = c.in_ok-notes.ensures.overdue;
      send = c.in_ok-notes.ensures.send;
      notes = c.in_ok-notes.ensures.notes;
      seen = c.in_ok-seen.ensures ∙ ap (λ l. seen_after l i.at s.reading) c.deref.ensures.value;
      failed = c.in_ok-failed.ensures;
      shown = c.in_ok-shown.ensures;
      number = refl;
      unsent = c.in_ok-notes.ensures.unsent;
      view = numbered n.notes s.reading s.relay seen failed footing c.in_ok-bare.bare s.notes.number n.unsent view;
    }
