use Rattle.std.proofs.Common.{◌+◌, ◌∷◌, [], length, refl, arith}
use Rattle.cue_log.specs.declared.area.TheConstants.{MAX_AREA, FRAME_LEN}
use Rattle.cue_snap.specs.Observed.{end_of}
use Rattle.cue_snap.proofs.AppendingLemmas.{too_long, not_too_long, no_room, handed_on}
use Rattle.cue_snap.proofs.snap.Snap.append.Goals as goal

pub returns-then-not-has_room : goal.returns-then-not-has_room
returns-then-not-has_room g c =
    let pair = c.args.self.now in
    record {
      appends = no_room (c.args.added.now ∷ []) pair c.if-self.false (g.met.D.Disk.held_now pair.log.disk)
          (omega (
            arith,
            too_long c.has_room.result (end_of pair + (FRAME_LEN + 1) + length c.args.added.now) MAX_AREA
                c.has_room.ensures c.if-not-has_room.true,
          ));
    }

pub returns : goal.returns
returns g c =
    let pair = c.args.self.now in
    record {
      appends = handed_on (c.args.added.now ∷ []) pair c.if-self.false _ refl refl c.is_broken-self.ensures.broken
          (λ none. absurd (cc (none)))
          (λ lacks. not_too_long c.has_room.result (end_of pair + (FRAME_LEN + 1) + length c.args.added.now) MAX_AREA
          c.has_room.ensures c.if-not-has_room.false (omega (arith, lacks)))
          c.append-appended.result c.append-appended.ensures.appends;
    }
