use Rattle.std.proofs.Common.{arith, ap, ◌∙◌, length, take, drop, ◌++◌}
use Rattle.cue_disk.specs.Disk.{Contents}
use Rattle.cue_log.proofs.FetchedLemmas.{reads_next, front_more}
use Rattle.cue_log.proofs.fetching.read_text.Goals as goal

pub returns-then-is_whole-clause-reads : goal.returns-then-is_whole-clause-reads
returns-then-is_whole-clause-reads g c = λ honest.
    let so_far = c.loop-text.invariant in
    reads_next g.D.Disk.moment g.D.Disk.held g.D.Disk.held_at c.args.disk.now c.loop-text.disk c.read_more.new.disk
    (so_far.reads honest) (c.read_more.ensures.reads (so_far.honest.1 honest))

pub returns-then-is_whole-clause-text : goal.returns-then-is_whole-clause-text
returns-then-is_whole-clause-text g c = λ honest.
    let so_far = c.loop-text.invariant in
    let same = ap (λ (h : Contents). c.loop-text.text.items ++ take c.min-more.result
    (drop (length c.loop-text.text.items) h.bytes)) (so_far.reads honest).same in
    front_more (g.D.Disk.held c.args.disk.now).bytes c.loop-text.text.items c.read_more.new.text.items c.min-more.result
    (so_far.front honest)
    (c.in_ok-read_more.ensures.text (so_far.honest.1 honest) ∙ same) c.in_ok-read_more.ensures.len

pub loop-text-preserved : goal.loop-text-preserved
loop-text-preserved g c =
    let so_far = c.loop-text.invariant in
    record {
      reads = λ honest. reads_next g.D.Disk.moment g.D.Disk.held g.D.Disk.held_at c.args.disk.now c.loop-text.disk
          c.read_more.new.disk (so_far.reads honest) (c.read_more.ensures.reads (so_far.honest.1 honest));
      honest = (
        λ honest. so_far.honest.0 (c.read_more.ensures.honest.0 honest),
        λ honest. c.read_more.ensures.honest.1
            (so_far.honest.1 honest),
      );
      front = λ honest.
          let same = ap (λ (h : Contents). c.loop-text.text.items ++ take c.min-more.result
          (drop (length c.loop-text.text.items) h.bytes)) (so_far.reads honest).same in
          front_more (g.D.Disk.held c.args.disk.now).bytes c.loop-text.text.items c.read_more.new.text.items
          c.min-more.result (so_far.front honest)
          (c.in_ok-read_more.ensures.text (so_far.honest.1 honest) ∙ same) c.in_ok-read_more.ensures.len;
      short = omega (arith, c.in_ok-read_more.ensures.len, c.min-more.ensures, c.loop-text-test.true);
      failures = c.in_ok-read_more.ensures.no_other (λ no_. absurd (cc no_)) ∙ so_far.failures;
    }

pub returns-in_err-read_more-clause-reads : goal.returns-in_err-read_more-clause-reads
returns-in_err-read_more-clause-reads g c = λ honest.
    let so_far = c.loop-text.invariant in
    reads_next g.D.Disk.moment g.D.Disk.held g.D.Disk.held_at c.args.disk.now c.loop-text.disk c.read_more.new.disk
    (so_far.reads honest) (c.read_more.ensures.reads (so_far.honest.1 honest))

pub returns-clause-reads : goal.returns-clause-reads
returns-clause-reads g c = λ honest. c.loop-text.invariant.reads honest

pub returns-clause-text : goal.returns-clause-text
returns-clause-text g c = λ honest. c.loop-text.invariant.front honest

pub returns-in_err-read_more-clause-honest : goal.returns-in_err-read_more-clause-honest
returns-in_err-read_more-clause-honest g c =
    let so_far = c.loop-text.invariant in (
      λ honest. so_far.honest.0 (c.read_more.ensures.honest.0 honest),
      λ honest. c.read_more.ensures.honest.1
          (so_far.honest.1 honest),
    )

pub returns-then-is_whole-clause-honest : goal.returns-then-is_whole-clause-honest
returns-then-is_whole-clause-honest g c =
    let so_far = c.loop-text.invariant in (
      λ honest. so_far.honest.0 (c.read_more.ensures.honest.0 honest),
      λ honest. c.read_more.ensures.honest.1
          (so_far.honest.1 honest),
    )
