use Rattle.std.proofs.Common.{◌∙◌, refl, sym}
use Rattle.std.specs.Prelude.{is_err}
use Rattle.cue_machine.specs.Posting.{posted_as}
use Rattle.cue_machine.proofs.living.post_one.Goals as goal

pub returns-then-is_err : goal.returns-then-is_err
returns-then-is_err g c = record {
  posted = posted_as c.args.output c.args.bytes.now (is_err c.post.result);
  same = refl;
  grew = c.post.ensures;
  after = rw (sym c.is_err.ensures.value ∙ c.if-is_err.true) c.lose.ensures;
}

pub returns-else-is_err : goal.returns-else-is_err
returns-else-is_err g c = record {
  posted = posted_as c.args.output c.args.bytes.now (is_err c.post.result);
  same = refl;
  grew = c.post.ensures;
  after = rw (sym c.is_err.ensures.value ∙ c.if-is_err.false) refl;
}
