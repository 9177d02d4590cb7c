use Rattle.std.proofs.Common.{ℕ, List, Option}
use Rattle.std.specs.Io.KnownBytes.{Appends}
use Rattle.cue_command_line.specs.declared.words.Line.TheVariants.{Form, Serve, Show}
use Rattle.cue_program.specs.Performing.{IsRunTold, IsStateTold, formed_text}
use Rattle.cue_program.proofs.PerformLemmas.{ends_as, small_done, told_at_zero}
use Rattle.cue_program.proofs.program.carry_out.Goals as goal

pub returns-in-Form-clause-ends : goal.returns-in-Form-clause-ends
returns-in-Form-clause-ends g c =
    let contents = g.W.Write.contents in
    let old = contents c.args.writer.now in
    let new = contents c.status_of.new.writer in
    ends_as (Form c.in-Form.dir) c.args.line c.status_of.result (g.I.Read.remaining c.args.reader.now) old new
    c.in-Form.is
    (told_at_zero c.form.result c.status_of.result (contents c.form.new.writer) new
    (λ (after : Option (List ℕ)). Appends old after formed_text) c.status_of.ensures.status c.form.ensures.printed
    c.status_of.ensures.kept)

pub returns-in-Form-clause-statuses : goal.returns-in-Form-clause-statuses
returns-in-Form-clause-statuses g c = small_done c.form.result c.status_of.result c.status_of.ensures.status

pub returns-in-Serve-clause-ends : goal.returns-in-Serve-clause-ends
returns-in-Serve-clause-ends g c =
    let contents = g.W.Write.contents in
    let old = contents c.args.writer.now in
    let new = contents c.status_of-in-Serve.new.writer in
    ends_as (Serve c.in-Serve.dir c.in-Serve.port c.in-Serve.turns) c.args.line c.status_of-in-Serve.result
    (g.I.Read.remaining c.args.reader.now) old new c.in-Serve.is
    (told_at_zero c.serve.result c.status_of-in-Serve.result (contents c.serve.new.writer) new
    (λ (after : Option (List ℕ)). IsRunTold c.in-Serve.turns old after) c.status_of-in-Serve.ensures.status
    c.serve.ensures c.status_of-in-Serve.ensures.kept)

pub returns-in-Serve-clause-statuses : goal.returns-in-Serve-clause-statuses
returns-in-Serve-clause-statuses g c =
    small_done c.serve.result c.status_of-in-Serve.result c.status_of-in-Serve.ensures.status

pub returns-in-Show-clause-ends : goal.returns-in-Show-clause-ends
returns-in-Show-clause-ends g c =
    let contents = g.W.Write.contents in
    let old = contents c.args.writer.now in
    let new = contents c.status_of-in-Show.new.writer in
    ends_as (Show c.in-Show.dir) c.args.line c.status_of-in-Show.result (g.I.Read.remaining c.args.reader.now) old new
    c.in-Show.is
    (told_at_zero c.show.result c.status_of-in-Show.result (contents c.show.new.writer) new
    (λ (after : Option (List ℕ)). IsStateTold old after) c.status_of-in-Show.ensures.status c.show.ensures
    c.status_of-in-Show.ensures.kept)

pub returns-in-Show-clause-statuses : goal.returns-in-Show-clause-statuses
returns-in-Show-clause-statuses g c =
    small_done c.show.result c.status_of-in-Show.result c.status_of-in-Show.ensures.status
