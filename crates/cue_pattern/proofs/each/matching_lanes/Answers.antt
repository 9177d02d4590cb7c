use Rattle.std.proofs.Common.{◌-◌, length, take, drop, subst, sym, List, ℕ, arith}
use Rattle.cue_pattern.specs.Matching.{part_matches}
use Rattle.cue_pattern.specs.Lanes.{Reaches}
use Rattle.cue_pattern.proofs.LaneLemmas.{split-last, pieces-start, pieces-more, pieces-done}
use Rattle.cue_pattern.proofs.each.matching_lanes.Goals as goal

pub loop-rest-init : goal.loop-rest-init
loop-rest-init c =
    let both = pieces-start c.args.part.now c.pieces-rest.result.now c.args.lanes.now c.pieces-rest.ensures in
    record {
      before = both.0;
      told = λ j name st. subst
          (λ (rows : List ℕ).
          Reaches (part_matches (drop (length c.pieces-rest.result.now) c.args.part.now)) name j rows)
          (sym c.ends-reached.ensures) (both.1 j name st);
    }

pub loop-rest-preserved : goal.loop-rest-preserved
loop-rest-preserved c =
    let rest = c.loop-rest.rest.now in
    let l = c.in-len1-up.len_at_least in
    let both = split-last c.args.part.now rest c.last-item.result (length rest - 1) (omega arith)
    c.loop-rest.invariant.before c.last-item.is in record {
      before = both.0;
      told = λ j name st. pieces-more c.last-item.result (drop (length rest) c.args.part.now)
          (drop (length (take (length rest - 1) rest)) c.args.part.now) name j c.step.new.reached both.1
          (c.step.ensures j name _ st (c.loop-rest.invariant.told j name st));
    }

pub returns : goal.returns
returns c = λ j name st.
    pieces-done c.args.part.now c.loop-rest.rest.now name j c.loop-rest.reached (omega arith)
    (c.loop-rest.invariant.told j name st)
