use Rattle.std.proofs.Common.{length, string_bytes, inl, inr, arith}
use Rattle.std.proofs.lemmas.Iterator.{YieldsList-from_chars}
use Rattle.std.proofs.lemmas.Iterator.Consumers.{YieldsList-turn, YieldsList-end}
use Rattle.std.proofs.lemmas.List.{length_push}
use Rattle.std.specs.Str.{chars}
use Rattle.cue_columns.specs.Columns.{fit_of}
use Rattle.cue_columns.proofs.ColumnLemmas.{fit_where, way_end, way_push, way_start, way_stop}
use Rattle.cue_columns.proofs.columns.fitted.Goals as goal
use Rattle.cue_columns.proofs.columns.fitted.Goals.{in-None, in-Some+then-width-left}
use Rattle.cue_columns.proofs.columns.fitted.Goals.{then-width-left-via-then-width-left}
use Rattle.cue_columns.proofs.columns.fitted.Goals.{then-width-left-via-else-width-left+then-bytes-room}

pub loop-c-init : goal.loop-c-init
loop-c-init c = way_start c.args.columns c.args.text.now (string_bytes c.new-fit.result) c.new-fit.ensures.bytes

pub loop-c-preserved : goal.loop-c-preserved
loop-c-preserved c =
    let t =
    YieldsList-turn (YieldsList-from_chars c.args.text.now c.utf8.text cc) c.loop-c.yielded _ c.loop-c.yielded_by _ _
    c.in-Some.c c.in-Some.is c.next.ensures.steps in
    way_push c.loop-c.left c.loop-c.room (length c.loop-c.yielded) _ c.in-Some.c c.sign_of-sign.result
    c.width_of-width.result c.len_utf8-bytes.result (chars c.args.text.now) (string_bytes c.loop-c.fit) _ _ t
    c.sign_of-sign.ensures c.width_of-width.ensures c.len_utf8-bytes.ensures.value
    (length_push c.loop-c.yielded c.in-Some.c) c.if-width-left.false c.if-bytes-room.false c.in_ok-push.ensures.bytes
    c.loop-c.invariant

pub returns-clause-value : goal.returns-clause-value
returns-clause-value c = elim c.match-next.branch [
  | in-None w ↦
      let t =
      YieldsList-end (YieldsList-from_chars c.args.text.now c.utf8.text cc) c.loop-c.yielded _ c.loop-c.yielded_by _ _
      w.in-None.is c.next.ensures.steps in
      way_end c.loop-c.left c.loop-c.room (length c.loop-c.yielded) (chars c.args.text.now) (string_bytes c.loop-c.fit)
      (fit_of c.args.columns c.args.text.now) (omega (arith, t.1)) c.loop-c.invariant
  | in-Some+then-width-left w ↦
      let t =
      YieldsList-turn (YieldsList-from_chars c.args.text.now c.utf8.text cc) c.loop-c.yielded _ c.loop-c.yielded_by _ _
      w.in-Some.c w.in-Some.is c.next.ensures.steps in
      way_stop c.loop-c.left c.loop-c.room (length c.loop-c.yielded) w.in-Some.c w.sign_of-sign.result
      w.width_of-width.result w.len_utf8-bytes.result (chars c.args.text.now) (string_bytes c.loop-c.fit)
      (fit_of c.args.columns c.args.text.now) t w.sign_of-sign.ensures w.width_of-width.ensures
      w.len_utf8-bytes.ensures.value
      (elim w.then-width-left.branch [
        | then-width-left-via-then-width-left v ↦ inl v.if-width-left.true
        | then-width-left-via-else-width-left+then-bytes-room v ↦ inr v.if-bytes-room.true
      ]) c.loop-c.invariant
]

pub returns-clause-safe : goal.returns-clause-safe
returns-clause-safe c =
    fit_where c.args.columns c.args.text.now (string_bytes c.loop-c.fit) (returns-clause-value c)
