use Rattle.std.proofs.Common.{length, string_bytes, ◌++◌, refl, arith}
use Rattle.std.proofs.lemmas.Iterator.{YieldsList-from_chars}
use Rattle.std.proofs.lemmas.Iterator.Consumers.{YieldsList-turn, YieldsList-end}
use Rattle.std.proofs.lemmas.List.{length_push}
use Rattle.std.specs.Str.{chars}
use Rattle.cue_report.specs.Csv.{signs_of}
use Rattle.cue_report.proofs.CsvLemmas.{way-end, way-push}
use Rattle.cue_report.proofs.csv.push_signs.Goals as goal

pub loop-c-init : goal.loop-c-init
loop-c-init c = refl

pub loop-c-preserved : goal.loop-c-preserved
loop-c-preserved c =
    let t =
    YieldsList-turn (YieldsList-from_chars c.args.text.now c.utf8.text cc) c.loop-c.yielded _ c.loop-c.yielded_by _ _
    c.in-Some.c c.in-Some.is c.next.ensures.steps in
    way-push (length c.loop-c.yielded) _ c.in-Some.c (chars c.args.text.now) (string_bytes c.loop-c.table) _ _ t
    (length_push c.loop-c.yielded c.in-Some.c) c.in_ok-push_sign.ensures c.loop-c.invariant

pub returns : goal.returns
returns c =
    let t =
    YieldsList-end (YieldsList-from_chars c.args.text.now c.utf8.text cc) c.loop-c.yielded _ c.loop-c.yielded_by _ _
    c.in-None.is c.next.ensures.steps in
    way-end (length c.loop-c.yielded) (chars c.args.text.now) (string_bytes c.loop-c.table)
    (string_bytes c.args.table.now ++ signs_of c.args.text.now) (omega (arith, t.1)) c.loop-c.invariant
