use Rattle.std.proofs.Common.{◌≡◌, ◌++◌, map, sym, ap, ◌∙◌, append_assoc}
use Rattle.std.specs.Int.{w64, to_be_bytes}
use Rattle.std.proofs.lemmas.Result.{on_ok_weaker}
use Rattle.cue_osc.specs.Content.{view, contents_of}
use Rattle.cue_osc.specs.Spelling.{bundle_head}
use Rattle.cue_osc.specs.Writing.{text_of, elements_text}
use Rattle.cue_osc.proofs.ViewLemmas.{view-bundle}
use Rattle.cue_osc.proofs.writing.+put.Goals as goal

pub put-returns-in_ok-extend_from_slice-in-Bundle-2-clause-ok :
    goal.put-returns-in_ok-extend_from_slice-in-Bundle-2-clause-ok
put-returns-in_ok-extend_from_slice-in-Bundle-2-clause-ok t c =
    let tag = c.in-Bundle.tag in
    let old = c.args.out.now.items in
    let elements = elements_text (contents_of (map view c.in-Bundle.items.items)) in
    let text : text_of (view c.args.packet.now) ≡ bundle_head ++ (to_be_bytes w64 tag ++ elements) =
    ap (λ p. text_of (view p)) c.in-Bundle.is ∙ ap text_of (view-bundle tag c.in-Bundle.items) in
    let head : c.extend_from_slice.new.self.items ≡ old ++ bundle_head =
    c.in_ok-extend_from_slice-in-Bundle.ensures.items in
    let time : c.extend_from_slice-in-Bundle.new.self.items ≡ c.extend_from_slice.new.self.items ++ to_be_bytes w64
    tag = c.in_ok-extend_from_slice-in-Bundle-2.ensures.items
    ∙ ap (λ bs. c.extend_from_slice.new.self.items ++ bs) c.to_be_bytes.ensures in
    let parts : c.extend_from_slice-in-Bundle.new.self.items ++ elements ≡ old
    ++ (bundle_head ++ (to_be_bytes w64 tag ++ elements)) = rw (time, head) (simp append_assoc) in
    let items : elements_text (contents_of (map view c.deref.result.now)) ≡ elements =
    ap (λ xs. elements_text (contents_of (map view xs))) c.deref.ensures.value in
    on_ok_weaker c.put_elements.result (λ q. q ∙ ap (λ bs. c.extend_from_slice-in-Bundle.new.self.items ++ bs) items
    ∙ parts ∙ ap (λ bs. old ++ bs) (sym text)) c.put_elements.ensures.ok
