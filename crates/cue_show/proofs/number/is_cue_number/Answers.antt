use Rattle.std.proofs.Common.{sym, ap, ◌∙◌}
use Rattle.std.proofs.Math.ListN.{drop_of_length-le}
use Rattle.cue_show.proofs.RunsLemmas.{runs_from, runs_from-stops, is_cue_number-short}
use Rattle.cue_show.proofs.number.is_cue_number.Goals as goal

-- a byte that neither goes on with a run nor stands behind one
pub returns-else-byte-eq46 : goal.returns-else-byte-eq46
returns-else-byte-eq46 c =
    sym (is_cue_number-short c.args.text.now c.if-text-gt-MAX_CUE_BYTES.false
    ∙ sym c.loop-byte.invariant
    ∙ runs_from-stops c.loop-byte.after_digit c.args.text.now c.loop-byte.byte-index c.loop-byte-test.true
    (sym c.if-is_ascii_digit.ensures.value) c.else-byte-eq46.either)

-- all bytes were read
pub returns : goal.returns
returns c =
    sym (is_cue_number-short c.args.text.now c.if-text-gt-MAX_CUE_BYTES.false
    ∙ sym c.loop-byte.invariant
    ∙ ap (runs_from c.loop-byte.after_digit) (drop_of_length-le c.args.text.now c.loop-byte-test.false))
