use Rattle.std.proofs.Common.{[], ◌++◌, length, encode_utf8, refl, arith, rules}
use Rattle.std.proofs.Output.{has_written_append, has_written_of_eq, writes_in_calls_nil}
use Rattle.std.proofs.lemmas.Iterator.{YieldsList-from_chars}
use Rattle.std.proofs.lemmas.Iterator.Consumers.{YieldsList-turn, YieldsList-end}
use Rattle.std.proofs.lemmas.List.{length_push}
use Rattle.std.specs.Str.{chars}
use Rattle.cue_words.specs.Signs.{shown}
use Rattle.cue_saying.specs.Shown.{shown_name}
use Rattle.cue_saying.proofs.ShownLemmas.{way-end, way-push}
use Rattle.cue_saying.proofs.shown.write_shown.Goals as goal

pub loop-c-init : goal.loop-c-init
loop-c-init g c = λ plain. ([], record { wrote = writes_in_calls_nil _ _; plain = plain }, refl)

pub loop-c-preserved : goal.loop-c-preserved
loop-c-preserved g c =
    λ plain.
    let now = c.loop-c.invariant plain in
    let t =
    YieldsList-turn (YieldsList-from_chars c.args.text.now c.utf8.text cc) c.loop-c.yielded _ c.loop-c.yielded_by _ _
    c.in-Some.c c.in-Some.is c.next.ensures.steps in (
      now.0 ++ encode_utf8 (shown c.in-Some.c),
      has_written_append _ _ _ _ _ _ now.1 (search rules),
      way-push (length c.loop-c.yielded) _ c.in-Some.c (chars c.args.text.now) now.0 _ t
          (length_push c.loop-c.yielded c.in-Some.c) now.2,
    )

pub returns : goal.returns
returns g c =
    λ plain ok.
    let now = c.loop-c.invariant plain in
    let t =
    YieldsList-end (YieldsList-from_chars c.args.text.now c.utf8.text cc) c.loop-c.yielded _ c.loop-c.yielded_by _ _
    c.in-None.is c.next.ensures.steps in
    has_written_of_eq _ _ _ _ _
    (way-end (length c.loop-c.yielded) (chars c.args.text.now) now.0 (shown_name c.args.text.now) (omega (arith, t.1))
    now.2) now.1
