use Rattle.cue_loading_run.proofs.LivedLemmas.{carried_out, had_more, on_ok}
use Rattle.cue_loading_run.proofs.loading.Loading.carry_out_at.Goals as goal

pub returns-then-ne : goal.returns-then-ne
returns-then-ne g c =
    on_ok (λ over. carried_out _ _ _ c.loop.invariant c.advance-ended.ensures over) c.ended_by.result
    c.ended_by.ensures.over

pub loop-preserved : goal.loop-preserved
loop-preserved g c = had_more _ _ _ c.loop.invariant c.advance-ended.ensures
