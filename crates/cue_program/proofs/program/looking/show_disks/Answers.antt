use Rattle.std.proofs.Common.{subst, sym}
use Rattle.cue_core.specs.State.{ShowState}
use Rattle.cue_copies.specs.Copies.{copy_of}
use Rattle.cue_keeper.specs.Stands.{Stands}
use Rattle.cue_program.proofs.PerformLemmas.{state_shown, state_told}
use Rattle.cue_program.proofs.program.looking.show_disks.Goals as goal

pub returns-clause-told : goal.returns-clause-told
returns-clause-told g c = state_told c.print_state.result c.state.result.now (g.W.Write.contents c.args.writer.now)
    (g.W.Write.contents c.print_state.new.writer) c.print_state.ensures

pub returns-clause-stood : goal.returns-clause-stood
returns-clause-stood g c = λ first second.
    let x = copy_of (g.D.Disk.held c.args.first.now) in
    let y = copy_of (g.D.Disk.held c.args.second.now) in
    state_shown c.print_state.result c.state.result.now x y (g.W.Write.contents c.args.writer.now)
    (g.W.Write.contents c.print_state.new.writer)
    (subst (λ (s : ShowState). Stands x y s) (sym c.state.ensures) (c.in_ok-keeper.ensures.stood first second))
    c.print_state.ensures
