use Rattle.std.proofs.Common.{◌+◌, ◌∙◌, refl, arith}
use Rattle.cue_log.specs.declared.area.TheConstants.{MAX_AREA}
use Rattle.cue_log.specs.Area.{room_of}
use Rattle.cue_log.proofs.AddingLemmas.{none_counted, some_counted}
use Rattle.cue_snap.specs.Observed.{end_of}
use Rattle.cue_snap.proofs.AppendingLemmas.{too_long, not_too_long, no_room, nothing_added, handed_on}
use Rattle.cue_snap.proofs.snap.Snap.append_all.Goals as goal

pub returns-then-count-eq0 : goal.returns-then-count-eq0
returns-then-count-eq0 g c =
    let pair = c.args.self.now in
    let payloads = c.args.added.now in
    record {
      appends = nothing_added payloads pair c.if-self.false (g.met.D.Disk.held_now pair.log.disk)
          (none_counted payloads (omega (arith, c.count.ensures, c.if-count-eq0.true)));
    }

pub returns-then-not-has_room_for_all : goal.returns-then-not-has_room_for_all
returns-then-not-has_room_for_all g c =
    let pair = c.args.self.now in
    let payloads = c.args.added.now in
    record {
      appends = no_room payloads pair c.if-self.false (g.met.D.Disk.held_now pair.log.disk)
          (too_long c.has_room_for_all.result (end_of pair + 1 + room_of payloads) MAX_AREA c.has_room_for_all.ensures
          c.if-not-has_room_for_all.true);
    }

pub returns : goal.returns
returns g c =
    let pair = c.args.self.now in
    let payloads = c.args.added.now in
    record {
      appends = handed_on payloads pair c.if-self.false _ refl refl c.is_broken-self.ensures.broken
          (some_counted payloads _ (λ none. c.if-count-eq0.false (c.count.ensures ∙ none)))
          (not_too_long c.has_room_for_all.result (end_of pair + 1 + room_of payloads) MAX_AREA
          c.has_room_for_all.ensures c.if-not-has_room_for_all.false)
          c.append_all-appended.result c.append_all-appended.ensures.appends;
    }
