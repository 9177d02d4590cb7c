use Rattle.std.proofs.Common.{◌∙◌, sym}
use Rattle.std.specs.Prelude.{take}
use Rattle.cue_machine.specs.Hearing.{heard_as}
use Rattle.cue_machine.proofs.living.turn_once.Goals as goal

pub returns-in-Ok-clause-turned : goal.returns-in-Ok-clause-turned
returns-in-Ok-clause-turned g c =
    let took = c.in-Ok.ensures.took in
    record {
      turn = record {
        until = c.wakes.result;
        heard = heard_as c.in-Ok-Comes.now c.in-Ok-Comes.input (take c.in-Ok-Comes.n c.hear.new.buffer);
        posted = took.posted;
      };
      is = record {
        goes_on = sym c.is_over.ensures ∙ c.if-is_over.false;
        asked = c.wakes.ensures;
        mid = took.mid;
        stepped = took.stepped;
        after = took.after;
      };
      heard = rw c.in-Ok-Comes.field-0-is at c.in-Ok-Comes.ensures.told;
      posted = took.grew;
    }

pub returns-in-Err-take-clause-stopped : goal.returns-in-Err-take-clause-stopped
returns-in-Err-take-clause-stopped g c = record {
  because = (
    sym c.is_over.ensures ∙ c.if-is_over.false,
    (
      heard_as c.in-Ok-Comes.now c.in-Ok-Comes.input (take c.in-Ok-Comes.n c.hear.new.buffer),
      rw (c.wakes.ensures, c.in-Ok-Comes.field-0-is) at c.in-Ok-Comes.ensures.told,
    ),
  );
  same = c.in-Err-take.ensures.err;
  nothing = c.in-Err-take.ensures.nothing;
}
