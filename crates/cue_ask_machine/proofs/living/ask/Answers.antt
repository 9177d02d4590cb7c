use Rattle.std.proofs.Common.{Option, sym, subst}
use Rattle.cue_ask_machine.specs.declared.stage.AskEnd.{AskEnd}
use Rattle.cue_ask_machine.specs.Lives.{IsTold}
use Rattle.cue_ask_machine.proofs.LawLemmas.{told_at}
use Rattle.cue_ask_machine.proofs.living.ask.Goals as goal

pub returns-clause-asked : goal.returns-clause-asked
returns-clause-asked g c =
    let q = c.args.question.now in
    let m = c.in_ok-machine.machine in
    let of = c.in_ok-machine.ensures.of in
    let ran = c.in_ok-run.ensures.ran in
    let then = c.run.new.machine in
    let taken = ran.life.lived.taken in
    record {
      m = m;
      of = of;
      m_then = then;
      ended = c.in_ok-run.field-0;
      ran = ran;
      is_end = c.end.ensures;
      is_told = subst (λ (o : Option AskEnd). IsTold q m taken o) (sym c.end.ensures)
          (told_at q m taken then.stage of ran.stands);
    }
