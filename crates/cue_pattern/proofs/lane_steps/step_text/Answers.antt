use Rattle.std.proofs.Common.{◌-◌, length, get_or, take, drop, arith}
use Rattle.cue_pattern.proofs.LaneLemmas.{split-last, text-more, last-default}
use Rattle.cue_pattern.proofs.lane_steps.step_text.Goals as goal

pub loop-left-preserved : goal.loop-left-preserved
loop-left-preserved c =
    let left = c.loop-left.left.now in
    let l = c.in-len1-up.len_at_least in
    let last = get_or left (length left - 1) 0 in
    let both = split-last c.args.text.now left last (length left - 1) (omega arith) c.loop-left.invariant.before
    (last-default left (length left - 1) (omega arith)) in record {
      before = both.0;
      told = λ j name rest st h. text-more c.args.text.now rest last (drop (length left) c.args.text.now)
          (drop (length (take (length left - 1) left)) c.args.text.now) name j c.step_row.new.reached both.1
          (c.step_row.ensures j name _ _ st.long (c.with_byte.ensures j name st) (c.loop-left.invariant.told j name rest st h));
    }
