use Rattle.std.proofs.Common.{◌≤◌, ◌∙◌, ℕ, subst}
use Rattle.cue_disk.specs.Disk.{MoreFailures, CountsFailure}
use Rattle.cue_log.specs.Reading.{payloads_in}
use Rattle.cue_log.proofs.AppendedLemmas.{body_leaves, sync_leaves, gate_leaves, done, failed}
use Rattle.cue_log.proofs.appending.commit.Goals as goal

pub returns-in_err-write_at : goal.returns-in_err-write_at
returns-in_err-write_at g c =
    let d = g.D.Disk in
    let r = c.requires in
    let text = c.args.text.now in
    let old = c.args.disk.now in
    record {
      writes = failed d (payloads_in text) c.from_residual.result c.args.end old c.write_at.new.self
          c.from_residual.ensures.0
          (λ honest. body_leaves d text c.args.end r.framed r.some r.room old (r.settled honest)
          (g.met.D.Disk.held_now old honest)
          c.write_at.new.self (c.write_at.ensures.crash honest) (c.write_at.ensures.time honest))
          c.in_err-write_at.ensures.count c.write_at.ensures.honest;
    }

pub returns-in_err-sync : goal.returns-in_err-sync
returns-in_err-sync g c =
    let d = g.D.Disk in
    let r = c.requires in
    let text = c.args.text.now in
    let old = c.args.disk.now in
    let new = c.sync.new.self in
    record {
      writes = failed d (payloads_in text) c.from_residual-in_err-sync.result c.args.end old new
          c.from_residual-in_err-sync.ensures.0
          (λ honest.
          let honest1 = c.write_at.ensures.honest.1 honest in
          sync_leaves d text c.args.end r.framed r.some r.room old (r.settled honest) (g.met.D.Disk.held_now old honest)
          c.write_at.new.self (c.write_at.ensures.crash honest) (c.write_at.ensures.time honest)
          new (c.sync.ensures.crash honest1) (c.sync.ensures.time honest1))
          (subst (λ (n : ℕ). MoreFailures n (d.failures new) × (n ≤ d.failures new)) c.in_ok-write_at.ensures.count
          c.in_err-sync.ensures.count) (
            λ honest. c.write_at.ensures.honest.0 (c.sync.ensures.honest.0 honest),
            λ honest. c.sync.ensures.honest.1
                (c.write_at.ensures.honest.1 honest),
          );
    }

pub returns-in_err-write_at-2 : goal.returns-in_err-write_at-2
returns-in_err-write_at-2 g c =
    let d = g.D.Disk in
    let r = c.requires in
    let text = c.args.text.now in
    let old = c.args.disk.now in
    let new = c.write_at-2.new.self in
    record {
      writes = failed d (payloads_in text) c.from_residual-in_err-write_at-2.result c.args.end old new
          c.from_residual-in_err-write_at-2.ensures.0
          (λ honest.
          let honest1 = c.write_at.ensures.honest.1 honest in
          let honest2 = c.sync.ensures.honest.1 honest1 in
          gate_leaves d text c.args.end r.framed r.some r.room old (r.settled honest) (g.met.D.Disk.held_now old honest)
          c.write_at.new.self (c.write_at.ensures.crash honest) (c.write_at.ensures.time honest)
          c.sync.new.self (c.sync.ensures.crash honest1) (c.sync.ensures.time honest1)
          new (c.in_ok-write_at.ensures.written honest) (c.sync.ensures.bytes honest1)
          (c.in_ok-sync.ensures.stable honest1) (c.write_at-2.ensures.crash honest2)
          (c.write_at-2.ensures.time honest2))
          (subst (λ (n : ℕ). MoreFailures n (d.failures new) × (n ≤ d.failures new)) (c.in_ok-sync.ensures.count
          ∙ c.in_ok-write_at.ensures.count) c.in_err-write_at-2.ensures.count) (
            λ honest. c.write_at.ensures.honest.0 (c.sync.ensures.honest.0 (c.write_at-2.ensures.honest.0 honest)),
            λ honest. c.write_at-2.ensures.honest.1 (c.sync.ensures.honest.1 (c.write_at.ensures.honest.1 honest)),
          );
    }

pub returns : goal.returns
returns g c =
    let d = g.D.Disk in
    let r = c.requires in
    let text = c.args.text.now in
    let old = c.args.disk.now in
    let new = c.sync-2.new.self in
    let all = λ (honest : d.is_honest old).
    let honest1 = c.write_at.ensures.honest.1 honest in
    let honest2 = c.sync.ensures.honest.1 honest1 in
    let honest3 = c.write_at-2.ensures.honest.1 honest2 in
    done d text c.args.end r.framed r.some r.room old (r.settled honest) (g.met.D.Disk.held_now old honest)
    c.write_at.new.self (c.write_at.ensures.crash honest) (c.write_at.ensures.time honest)
    c.sync.new.self (c.sync.ensures.crash honest1) (c.sync.ensures.time honest1)
    c.write_at-2.new.self (c.in_ok-write_at.ensures.written honest) (c.sync.ensures.bytes honest1)
    (c.in_ok-sync.ensures.stable honest1) (c.write_at-2.ensures.crash honest2) (c.write_at-2.ensures.time honest2)
    new (c.sync-2.ensures.crash honest3) (c.sync-2.ensures.time honest3)
    (c.in_ok-write_at-2.ensures.written honest2) (c.sync-2.ensures.bytes honest3) c.sync-2.result
    (c.sync-2.ensures.stable honest3) in
    record {
      writes = record {
        any_moment = λ honest. (all honest).any_moment;
        area = λ honest. (all honest).area;
        settled = λ honest. (all honest).settled;
        bytes = λ honest. (all honest).bytes;
        count =
            subst (λ (n : ℕ). CountsFailure c.sync-2.result n (d.failures new)) (c.in_ok-write_at-2.ensures.count
            ∙ c.in_ok-sync.ensures.count ∙ c.in_ok-write_at.ensures.count) c.sync-2.ensures.count;
        honest = (
          λ honest. c.write_at.ensures.honest.0
              (c.sync.ensures.honest.0 (c.write_at-2.ensures.honest.0 (c.sync-2.ensures.honest.0 honest))),
          λ honest. c.sync-2.ensures.honest.1
              (c.write_at-2.ensures.honest.1 (c.sync.ensures.honest.1 (c.write_at.ensures.honest.1 honest))),
        );
      };
    }
