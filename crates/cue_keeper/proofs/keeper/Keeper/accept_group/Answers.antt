use Rattle.std.proofs.Common.{refl, sym, ◌∙◌}
use Rattle.cue_snap.specs.Observed.{live_area_of}
use Rattle.cue_keeper.specs.Stands.{folded_all}
use Rattle.cue_keeper.proofs.AddedLemmas.{kept_after}
use Rattle.cue_keeper.proofs.StandingLemmas.{found}
use Rattle.cue_keeper.proofs.CommittedLemmas.{area_stands, stands_as, still_broken, refuses}
use Rattle.cue_keeper.proofs.keeper.Keeper.accept_group.Goals as goal

pub commit-requires-clause-area : goal.commit-requires-clause-area
commit-requires-clause-area g c = area_stands c.args.self.now (sym c.is_broken.ensures.broken ∙ c.if-is_broken.false)

pub invariant_of-self-2 : goal.invariant_of-self-2
invariant_of-self-2 g c = record {
  stands = λ live spare works.
      found (live_area_of g.D.Disk.held c.commit.new.snap) c.take_over.new.kept
      (rw c.take_over.ensures.kept
      (kept_after c.args.self.now.state c.args.group.now c.args.self.now.snap c.commit.new.snap
      (area_stands c.args.self.now (sym c.is_broken.ensures.broken ∙ c.if-is_broken.false)) c.commit.ensures.each
      c.requires.in_turn c.in_ok-commit.ensures.commits live spare));
}

pub returns-then-is_broken-clause-accepts : goal.returns-then-is_broken-clause-accepts
returns-then-is_broken-clause-accepts g c =
    let old = c.args.self.now in
    record {
      state = refl;
      stands = λ _ _. tt;
      pair = still_broken old.state c.args.group.now old.snap (sym c.is_broken.ensures.broken ∙ c.if-is_broken.true);
    }

pub returns-in_err-commit-clause-accepts : goal.returns-in_err-commit-clause-accepts
returns-in_err-commit-clause-accepts g c =
    refuses c.args.group.now c.from_residual.result c.in_err-commit.field-0.0 c.args.self.now _
    c.from_residual.ensures.1 refl c.in_err-commit.ensures.commits

pub returns-clause-accepts : goal.returns-clause-accepts
returns-clause-accepts g c = record {
  state = c.take_over.ensures.kept;
  stands = λ first second.
      let commits = c.in_ok-commit.ensures.commits in
      stands_as (folded_all c.args.self.now.state c.args.group.now) c.commit.new.snap c.is_broken-broken.ensures.reads
      (kept_after c.args.self.now.state c.args.group.now c.args.self.now.snap c.commit.new.snap
      (area_stands c.args.self.now (sym c.is_broken.ensures.broken ∙ c.if-is_broken.false)) c.commit.ensures.each
      c.requires.in_turn commits) commits.works
      (commits.first_honest.1 first) (commits.second_honest.1 second);
  pair = c.in_ok-commit.ensures.commits;
}
