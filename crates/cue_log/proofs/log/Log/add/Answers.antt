use Rattle.std.proofs.Common.{ℕ, length, refl, sym, ◌∙◌, ap, subst, arith, length-append}
use Rattle.std.proofs.lemmas.Bool.{both_ways}
use Rattle.cue_log.specs.Area.{Area}
use Rattle.cue_log.specs.Log.{IsSettled}
use Rattle.cue_log.specs.Reading.{payloads_in, area_in}
use Rattle.cue_log.proofs.SettledLemmas.{reads_as}
use Rattle.cue_log.proofs.GroupLemmas.{few_framed, length-framed_group}
use Rattle.cue_log.proofs.AddingLemmas.{none_counted, some_counted, nothing_added, no_room}
use Rattle.cue_log.proofs.log.Log.add.Goals as goal

pub returns-then-count-eq0 : goal.returns-then-count-eq0
returns-then-count-eq0 g c =
    let log = c.args.self.now in
    record {
      appends = nothing_added (payloads_in c.args.text.now) log c.if-self.false (g.met.D.Disk.held_now log.disk)
          (none_counted (payloads_in c.args.text.now) (omega (arith, c.requires.framed.counted, c.if-count-eq0.true)));
    }

pub returns-then-text-self : goal.returns-then-text-self
returns-then-text-self g c =
    let log = c.args.self.now in
    record {
      appends = no_room (payloads_in c.args.text.now) log c.if-self.false (g.met.D.Disk.held_now log.disk)
          (omega (
            arith,
            log.fits,
            c.if-text-self.true,
            length-framed_group c.args.text.now c.args.count
                c.requires.framed,
          ));
    }

pub returns-in-Err : goal.returns-in-Err
returns-in-Err g c =
    let writes = c.in-Err.ensures.writes in
    record {
      appends = record {
        cause = (c.if-self.false, writes.count.0);
        after = (refl, refl, refl);
        broken = λ is. absurd (both_ways c.args.self.now.broken c.if-self.false is);
        full = λ _ lacks. absurd
            (omega (
              arith,
              c.args.self.now.fits,
              lacks,
              c.if-text-self.false,
              length-framed_group c.args.text.now
                  c.args.count c.requires.framed,
            ));
        quiet = some_counted (payloads_in c.args.text.now) _
            (λ none. c.if-count-eq0.false (c.requires.framed.counted ∙ none));
        appended = λ _. tt;
        area = λ _. tt;
        works = tt;
        count = tt;
        end = tt;
        generation = refl;
        bytes = λ _ _. tt;
        any_moment = λ honest _. writes.any_moment honest;
        failures = writes.count.1;
        honest = writes.honest;
      };
    }

pub overflow_add-self-2 : goal.overflow_add-self-2
overflow_add-self-2 g c =
    let log = c.args.self.now in
    record {
      fits = omega (
        arith,
        log.fits,
        log.few,
        few_framed c.args.text.now c.args.count c.requires.framed,
        c.if-text-self.false,
      );
    }

pub invariant_of-self-2 : goal.invariant_of-self-2
invariant_of-self-2 g c =
    let log = c.args.self.now in
    let payloads = payloads_in c.args.text.now in
    let long = length-framed_group c.args.text.now c.args.count c.requires.framed in
    let writes = c.in_default.ensures.writes in
    record {
      fits = omega (arith, log.fits, c.if-text-self.false, long);
      few = omega (arith, log.few, few_framed c.args.text.now c.args.count c.requires.framed);
      settled = λ honest works.
          subst (λ (n : ℕ). IsSettled (g.D.Disk.held c.commit.new.disk) n) (omega (arith, long))
          (writes.settled (writes.honest.0 honest));
      counted = λ honest works.
          let before = writes.honest.0 honest in
          let numbered = log.counted before works in
          let area = writes.area before in
          record {
            same_generation = numbered.same_generation ∙ sym (ap (λ (a : Area). a.generation) area);
            same_count = omega (
              arith,
              numbered.same_count,
              c.requires.framed.counted,
              ap (λ (a : Area). length a.payloads) area,
              length-append (area_in (g.D.Disk.held log.disk).bytes).payloads payloads,
            );
          };
    }

pub returns : goal.returns
returns g c =
    let log = c.args.self.now in
    let payloads = payloads_in c.args.text.now in
    let long = length-framed_group c.args.text.now c.args.count c.requires.framed in
    let writes = c.in_default.ensures.writes in
    record {
      appends = record {
        cause = tt;
        after = tt;
        broken = λ is. absurd (both_ways log.broken c.if-self.false is);
        full = λ _ lacks. absurd (omega (arith, log.fits, lacks, c.if-text-self.false, long));
        quiet = some_counted payloads _ (λ none. c.if-count-eq0.false (c.requires.framed.counted ∙ none));
        appended = λ honest. reads_as _ _ _ (writes.settled honest) (writes.area honest);
        area = writes.area;
        works = c.if-self.false;
        count = omega (arith, c.requires.framed.counted);
        end = omega (arith, long);
        generation = refl;
        bytes = λ _. writes.bytes;
        any_moment = λ honest _. writes.any_moment honest;
        failures = omega (arith, writes.count);
        honest = writes.honest;
      };
    }
