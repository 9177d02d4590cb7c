use Rattle.std.proofs.Common.{◌≡◌, ◌+◌, ◌<◌, ◌∷◌, [], ◌∙◌, List, ℕ, arith, ap, length, length-append}
use Rattle.cue_disk.specs.Disk.{overwritten_bytes}
use Rattle.cue_disk.proofs.MomentLemmas.{started, goes_on}
use Rattle.cue_log.specs.declared.area.TheConstants.{HEAD_LEN}
use Rattle.cue_log.specs.Area.{IsAbsent, eight_bytes, four_bytes}
use Rattle.cue_log.proofs.OverwrittenLemmas.{body-overwritten}
use Rattle.cue_log.proofs.SettledLemmas.{at_ok, if_ok}
use Rattle.cue_log.proofs.FilledLemmas.{shut_absent, shut_stays, shut_leaves, body_written, filled_after}
use Rattle.cue_log.proofs.TextLemmas.{length-eight_bytes, length-four_bytes}
use Rattle.cue_log.proofs.forming.fill.Goals as goal

pub returns-in_err-write_at-2-clause-any_moment : goal.returns-in_err-write_at-2-clause-any_moment
returns-in_err-write_at-2-clause-any_moment g c = λ honest.
    let held = g.D.Disk.held in
    let shut = c.requires.shut honest in
    let honest1 = c.write_at.ensures.honest.1 honest in
    let shut1 = shut_stays 1 (length c.header_of-header.result) (held c.args.disk.now) (held c.write_at.new.self)
    (omega arith) (c.write_at.ensures.crash honest) shut in
    let shut2 = shut_stays HEAD_LEN (length c.args.snapshot.now) (held c.write_at.new.self) (held c.write_at-2.new.self)
    (omega arith) (c.write_at-2.ensures.crash honest1) shut1 in
    let at_start = started g.D.Disk.moment g.D.Disk.held_at c.args.disk.now (held c.args.disk.now) IsAbsent
    (g.met.D.Disk.held_now c.args.disk.now honest)
    (λ image left. shut_absent (held c.args.disk.now) image shut left) in
    let first = shut_leaves g.D.Disk.moment held g.D.Disk.held_at c.args.disk.now c.args.disk.now c.write_at.new.self
    at_start shut1 (c.write_at.ensures.time honest) in
    shut_leaves g.D.Disk.moment held g.D.Disk.held_at c.args.disk.now c.write_at.new.self c.write_at-2.new.self first
    shut2 (c.write_at-2.ensures.time honest1)

pub returns-in_err-write_at-3-clause-any_moment : goal.returns-in_err-write_at-3-clause-any_moment
returns-in_err-write_at-3-clause-any_moment g c = λ honest.
    let held = g.D.Disk.held in
    let shut = c.requires.shut honest in
    let honest1 = c.write_at.ensures.honest.1 honest in
    let honest2 = c.write_at-2.ensures.honest.1 honest1 in
    let shut1 = shut_stays 1 (length c.header_of-header.result) (held c.args.disk.now) (held c.write_at.new.self)
    (omega arith) (c.write_at.ensures.crash honest) shut in
    let shut2 = shut_stays HEAD_LEN (length c.args.snapshot.now) (held c.write_at.new.self) (held c.write_at-2.new.self)
    (omega arith) (c.write_at-2.ensures.crash honest1) shut1 in
    let shut3 = shut_stays (HEAD_LEN + length c.args.snapshot.now) 1 (held c.write_at-2.new.self)
    (held c.write_at-3.new.self)
    (omega arith) (c.write_at-3.ensures.crash honest2) shut2 in
    let at_start = started g.D.Disk.moment g.D.Disk.held_at c.args.disk.now (held c.args.disk.now) IsAbsent
    (g.met.D.Disk.held_now c.args.disk.now honest)
    (λ image left. shut_absent (held c.args.disk.now) image shut left) in
    let first = shut_leaves g.D.Disk.moment held g.D.Disk.held_at c.args.disk.now c.args.disk.now c.write_at.new.self
    at_start shut1 (c.write_at.ensures.time honest) in
    let second = shut_leaves g.D.Disk.moment held g.D.Disk.held_at c.args.disk.now c.write_at.new.self
    c.write_at-2.new.self first shut2 (c.write_at-2.ensures.time honest1) in
    shut_leaves g.D.Disk.moment held g.D.Disk.held_at c.args.disk.now c.write_at-2.new.self c.write_at-3.new.self second
    shut3 (c.write_at-3.ensures.time honest2)

pub returns-clause-any_moment : goal.returns-clause-any_moment
returns-clause-any_moment g c = λ honest.
    let held = g.D.Disk.held in
    let shut = c.requires.shut honest in
    let honest1 = c.write_at.ensures.honest.1 honest in
    let honest2 = c.write_at-2.ensures.honest.1 honest1 in
    let honest3 = c.write_at-3.ensures.honest.1 honest2 in
    let shut1 = shut_stays 1 (length c.header_of-header.result) (held c.args.disk.now) (held c.write_at.new.self)
    (omega arith) (c.write_at.ensures.crash honest) shut in
    let shut2 = shut_stays HEAD_LEN (length c.args.snapshot.now) (held c.write_at.new.self) (held c.write_at-2.new.self)
    (omega arith) (c.write_at-2.ensures.crash honest1) shut1 in
    let shut3 = shut_stays (HEAD_LEN + length c.args.snapshot.now) 1 (held c.write_at-2.new.self)
    (held c.write_at-3.new.self)
    (omega arith) (c.write_at-3.ensures.crash honest2) shut2 in
    let at_start = started g.D.Disk.moment g.D.Disk.held_at c.args.disk.now (held c.args.disk.now) IsAbsent
    (g.met.D.Disk.held_now c.args.disk.now honest)
    (λ image left. shut_absent (held c.args.disk.now) image shut left) in
    let first = shut_leaves g.D.Disk.moment held g.D.Disk.held_at c.args.disk.now c.args.disk.now c.write_at.new.self
    at_start shut1 (c.write_at.ensures.time honest) in
    let second = shut_leaves g.D.Disk.moment held g.D.Disk.held_at c.args.disk.now c.write_at.new.self
    c.write_at-2.new.self first shut2 (c.write_at-2.ensures.time honest1) in
    let third = shut_leaves g.D.Disk.moment held g.D.Disk.held_at c.args.disk.now c.write_at-2.new.self
    c.write_at-3.new.self second shut3 (c.write_at-3.ensures.time honest2) in
    goes_on g.D.Disk.moment g.D.Disk.held_at c.args.disk.now c.write_at-3.new.self c.sync.new.self IsAbsent
    (held c.sync.new.self) third (c.sync.ensures.time honest3)
    (λ image left. shut_absent (held c.write_at-3.new.self) image shut3 (c.sync.ensures.crash honest3 image left))

pub returns-clause-filled : goal.returns-clause-filled
returns-clause-filled g c = λ honest.
    let held = g.D.Disk.held in
    let shut = c.requires.shut honest in
    let honest1 = c.write_at.ensures.honest.1 honest in
    let honest2 = c.write_at-2.ensures.honest.1 honest1 in
    let honest3 = c.write_at-3.ensures.honest.1 honest2 in
    let shut1 = shut_stays 1 (length c.header_of-header.result) (held c.args.disk.now) (held c.write_at.new.self)
    (omega arith) (c.write_at.ensures.crash honest) shut in
    let shut2 = shut_stays HEAD_LEN (length c.args.snapshot.now) (held c.write_at.new.self) (held c.write_at-2.new.self)
    (omega arith) (c.write_at-2.ensures.crash honest1) shut1 in
    let shut3 = shut_stays (HEAD_LEN + length c.args.snapshot.now) 1 (held c.write_at-2.new.self)
    (held c.write_at-3.new.self)
    (omega arith) (c.write_at-3.ensures.crash honest2) shut2 in
    let some : 0 < length (held c.args.disk.now).bytes =
    omega (arith, shut.0, (g.met.D.Disk.reads_as_image c.args.disk.now honest).no_shorter) in
    let header = c.header_of-header in
    let twelve : length header.result ≡ 12 =
    omega (
      arith,
      ap length header.ensures,
      length-append (eight_bytes c.args.generation)
          (four_bytes (length c.args.snapshot.now)),
      length-eight_bytes c.args.generation,
      length-four_bytes
          (length c.args.snapshot.now),
    ) in
    let body = body_written (held c.args.disk.now).bytes (held c.write_at.new.self).bytes
    (held c.write_at-2.new.self).bytes (held c.write_at-3.new.self).bytes header.result c.args.snapshot.now some
    twelve
    (c.in_ok-write_at.ensures.written honest) (c.in_ok-write_at-2.ensures.written honest1)
    (c.in_ok-write_at-3.ensures.written honest2) in
    if_ok c.sync.result
    (filled_after c.args.generation c.args.snapshot.now header.result (held c.write_at-3.new.self)
    (held c.sync.new.self) _ header.ensures shut3 body (c.sync.ensures.bytes honest3))
    (c.sync.ensures.stable honest3)

pub returns-clause-bytes : goal.returns-clause-bytes
returns-clause-bytes g c = λ honest.
    let held = g.D.Disk.held in
    let shut = c.requires.shut honest in
    let honest1 = c.write_at.ensures.honest.1 honest in
    let honest2 = c.write_at-2.ensures.honest.1 honest1 in
    let honest3 = c.write_at-3.ensures.honest.1 honest2 in
    let some : 0 < length (held c.args.disk.now).bytes =
    omega (arith, shut.0, (g.met.D.Disk.reads_as_image c.args.disk.now honest).no_shorter) in
    let header = c.header_of-header in
    let snapshot = c.args.snapshot.now in
    let twelve : length header.result ≡ 12 =
    omega (
      arith,
      ap length header.ensures,
      length-append (eight_bytes c.args.generation)
          (four_bytes (length snapshot)),
      length-eight_bytes c.args.generation,
      length-four_bytes (length snapshot),
    ) in
    at_ok c.sync.result
    (c.sync.ensures.bytes honest3 ∙ c.in_ok-write_at-3.ensures.written honest2
    ∙ ap (λ (l : List ℕ). overwritten_bytes l (HEAD_LEN + length snapshot) (0 ∷ []))
    (c.in_ok-write_at-2.ensures.written honest1
    ∙ ap (λ (l : List ℕ). overwritten_bytes l HEAD_LEN snapshot) (c.in_ok-write_at.ensures.written honest))
    ∙ body-overwritten (held c.args.disk.now).bytes header.result snapshot c.args.generation some twelve header.ensures)
