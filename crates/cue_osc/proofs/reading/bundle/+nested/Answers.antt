use Rattle.std.proofs.Common.{refl, ◌≡◌, ◌++◌, ◌∷◌, [], ◌<◌, ◌-◌, suc, Result, Ok, map, length, sym, ap, ◌∙◌, arith}
use Rattle.std.proofs.lemmas.Bool.{eqb-true, eqb-false}
use Rattle.std.proofs.lemmas.Result.{err_from_is_err_and}
use Rattle.std.proofs.lemmas.List.{map_push}
use Rattle.std.specs.Int.{w64}
use Rattle.cue_osc.specs.declared.fault.Fault.{Fault}
use Rattle.cue_osc.specs.Content.{Content, view, contents_of}
use Rattle.cue_osc.specs.Reading.{number_at, elements_by, bundle_by, packet_at}
use Rattle.cue_osc.proofs.LoopLemmas.{fails_on, element_more, element_cut, element_fails, elements_done}
use Rattle.cue_osc.proofs.LoopLemmas.{element_shorter}
use Rattle.cue_osc.proofs.ViewLemmas.{view-bundle}
use Rattle.cue_osc.proofs.StartLemmas.{message_start, no_start, too_deep, bundle_start}
use Rattle.cue_osc.proofs.reading.bundle.+nested.Goals as goal

abbrev done : Content → Result Content Fault
done c = Ok c

pub bundle-returns-in_err-tag : goal.bundle-returns-in_err-tag
unfolding bundle_by
bundle-returns-in_err-tag t c =
    let p = err_from_is_err_and c.from_residual.result c.from_residual.ensures.1 in
    rw (p.1, p.2) (fails_on c.in_err-tag.field-0.0 (number_at w64 c.args.bytes.now)
    (bundle_by (packet_at c.args.depth) c.args.bytes.now) (λ f k. rw k refl) c.in_err-tag.ensures)

pub bundle-returns-in_err-items : goal.bundle-returns-in_err-items
unfolding bundle_by
bundle-returns-in_err-items t c =
    let p = err_from_is_err_and c.from_residual-in_err-items.result c.from_residual-in_err-items.ensures.1 in
    let rest = c.in_ok-tag.rest.now in
    let tag : number_at w64 c.args.bytes.now ≡ Ok (c.in_ok-tag.tag, rest) = c.in_ok-tag.ensures in
    rw (p.1, p.2) (fails_on c.in_err-items.field-0.0 (elements_by (packet_at c.args.depth) (length rest) rest)
    (bundle_by (packet_at c.args.depth) c.args.bytes.now) (λ f k. rw (tag, k) refl) c.in_err-items.ensures)

pub bundle-returns : goal.bundle-returns
unfolding bundle_by
bundle-returns t c =
    let rest = c.in_ok-tag.rest.now in
    let tag : number_at w64 c.args.bytes.now ≡ Ok (c.in_ok-tag.tag, rest) = c.in_ok-tag.ensures in
    let items : elements_by (packet_at c.args.depth) (length rest) rest ≡ Ok
    (contents_of (map view c.in_ok-items.items.items)) = c.in_ok-items.ensures in
    rw (tag, items) (ap done (sym (view-bundle c.in_ok-tag.tag c.in_ok-items.items)))

pub elements-returns-in_err-front : goal.elements-returns-in_err-front
elements-returns-in_err-front t c =
    let p = err_from_is_err_and c.from_residual-in_err-front.result c.from_residual-in_err-front.ensures.1 in
    let ne = eqb-false (length c.loop-rest.rest.now) 0 (sym c.is_empty.ensures ∙ c.loop-rest-test.true) in
    let some : 0 < length c.loop-rest.rest.now = omega (arith, ne) in
    rw (p.1, p.2) (element_cut c.in_err-front.field-0.0 (packet_at c.args.depth) (map view c.loop-rest.items.items)
    c.loop-rest.rest.now (elements_by (packet_at c.args.depth) (length c.args.bytes.now) c.args.bytes.now) some
    c.in_err-front.ensures c.loop-rest.invariant)

pub elements-returns-in_err-packet : goal.elements-returns-in_err-packet
elements-returns-in_err-packet t c =
    let p = err_from_is_err_and c.from_residual-in_err-packet.result c.from_residual-in_err-packet.ensures.1 in
    let ne = eqb-false (length c.loop-rest.rest.now) 0 (sym c.is_empty.ensures ∙ c.loop-rest-test.true) in
    let some : 0 < length c.loop-rest.rest.now = omega (arith, ne) in
    rw (p.1, p.2) (element_fails c.in_err-packet.field-0.0 (packet_at c.args.depth) (map view c.loop-rest.items.items)
    c.loop-rest.rest.now c.in_ok-front.front.now c.in_ok-front.after.now
    (elements_by (packet_at c.args.depth) (length c.args.bytes.now) c.args.bytes.now) some c.in_ok-front.ensures
    c.in_err-packet.ensures c.loop-rest.invariant)

pub elements-loop-rest-smaller : goal.elements-loop-rest-smaller
elements-loop-rest-smaller t c = element_shorter c.loop-rest.rest.now (c.in_ok-front.front.now, c.in_ok-front.after.now)
    c.in_ok-front.ensures

pub elements-loop-rest-preserved : goal.elements-loop-rest-preserved
elements-loop-rest-preserved t c =
    let ne = eqb-false (length c.loop-rest.rest.now) 0 (sym c.is_empty.ensures ∙ c.loop-rest-test.true) in
    let some : 0 < length c.loop-rest.rest.now = omega (arith, ne) in
    let x = c.in_ok-packet.field-0 in
    let e : map view c.push.new.self.items ≡ map view c.loop-rest.items.items ++ view x ∷ [] =
    rw c.in_ok-push.ensures.items (map_push _ c.loop-rest.items.items x) in
    rw e (element_more (packet_at c.args.depth) (map view c.loop-rest.items.items) c.loop-rest.rest.now
    c.in_ok-front.front.now c.in_ok-front.after.now (view x)
    (elements_by (packet_at c.args.depth) (length c.args.bytes.now) c.args.bytes.now) some c.in_ok-front.ensures
    c.in_ok-packet.ensures c.loop-rest.invariant)

pub elements-returns : goal.elements-returns
elements-returns t c =
    let none : length c.loop-rest.rest.now ≡ 0 = eqb-true (length c.loop-rest.rest.now) 0 (sym c.is_empty.ensures
    ∙ c.loop-rest-test.false) in
    elements_done (packet_at c.args.depth) (map view c.loop-rest.items.items) c.loop-rest.rest.now
    (elements_by (packet_at c.args.depth) (length c.args.bytes.now) c.args.bytes.now) none c.loop-rest.invariant

pub packet-returns-then-is_message_start : goal.packet-returns-then-is_message_start
packet-returns-then-is_message_start t c =
    rw (message_start c.args.depth c.args.bytes.now (sym c.is_message_start.ensures ∙ c.if-is_message_start.true))
    c.message.ensures

pub packet-returns-then-not-is_bundle_start : goal.packet-returns-then-not-is_bundle_start
packet-returns-then-not-is_bundle_start t c = no_start c.args.depth c.args.bytes.now (sym c.is_message_start.ensures
    ∙ c.if-is_message_start.false) (sym c.is_bundle_start.ensures ∙ c.if-not-is_bundle_start.true)

pub packet-returns-then-depth-eq0 : goal.packet-returns-then-depth-eq0
packet-returns-then-depth-eq0 t c = ap (λ d. packet_at d c.args.bytes.now) c.if-depth-eq0.true
    ∙ too_deep c.args.bytes.now (sym c.is_message_start.ensures ∙ c.if-is_message_start.false)
    (sym c.is_bundle_start.ensures ∙ c.if-not-is_bundle_start.false)

pub packet-returns : goal.packet-returns
packet-returns t c =
    let k : c.args.depth ≡ suc (c.args.depth - 1) = omega (arith, c.if-depth-eq0.false) in
    let start = bundle_start (c.args.depth - 1) c.args.bytes.now (sym c.is_message_start.ensures
    ∙ c.if-is_message_start.false) (sym c.is_bundle_start.ensures ∙ c.if-not-is_bundle_start.false) in
    let whole = ap (λ d. packet_at d c.args.bytes.now) k ∙ start in
    rw (whole, ← c.split_at.ensures.back) c.bundle.ensures
