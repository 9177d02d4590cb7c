-- The method of what is asked reads from its arguments just that.
use Rattle.std.proofs.Common.{◌≡◌, ◌∙◌, ℕ, ap, pos, Bool, true, false, ◌&&◌, List, [], ◌∷◌, length, nat_le, IsTrue}
use Rattle.std.proofs.Common.{Some, refl}
use Rattle.std.specs.Prelude.{Result, Ok, Err, IfOk}
use Rattle.std.specs.List.{list_all}
use Rattle.std.proofs.lemmas.Bool.{and_parts}
use Rattle.cue_show.specs.Bytes.{are_bytes}
use Rattle.cue_show.specs.declared.part.Part.{Part}
use Rattle.cue_show.specs.declared.limits.TheConstants.{MAX_PART_BYTES}
use Rattle.cue_show.specs.DeviceNumber.{is_device, is_port}
use Rattle.cue_show.specs.Number.{is_cue_number}
use Rattle.cue_show.specs.Parts.{is_part, are_parts}
use Rattle.cue_osc.specs.Argument.{Argument}
use Rattle.cue_osc.specs.Content.{message}
use Rattle.cue_osc.specs.Reading.{datagram_at}
use Rattle.cue_operator.specs.Methods.{address_of}
use Rattle.cue_operator.specs.Arguments.{are_triples, triples_in, optional_by, part_by, command_by}
use Rattle.cue_show_file.proofs.PartLemmas.{are_parts-each}
use Rattle.cue_desk.specs.declared.asking.Asked.{Asked}
use Rattle.cue_desk.specs.declared.asking.Asked.TheVariants as asked
use Rattle.cue_desk.specs.Asks.{AsksFor, arguments_of, command_of, flag_of, flagged_parts, is_askable, method_of}
use Rattle.cue_desk.specs.Loading.{message_of}

flagged-triples : (ps : List Part) → are_triples (flagged_parts ps) ≡ true
flagged-triples [] = refl
flagged-triples (p ∷ ps) = flagged-triples ps

flag-optional : (b : Bool) → optional_by (flag_of b) ≡ Some b
flag-optional true = refl
flag-optional false = refl

part-read : (p : Part) → IsTrue (is_part p) → part_by (pos p.device) (flag_of p.optional) p.bytes ≡ Some p
part-read p h =
    let k = and_parts (is_device p.device) (nat_le (length p.bytes) MAX_PART_BYTES && are_bytes p.bytes) h in
    rw (k.0, flag-optional p.optional) refl

parts-read : (ps : List Part) → IsTrue (list_all is_part ps) → triples_in (flagged_parts ps) ≡ Some ps
parts-read [] h = refl
parts-read (p ∷ ps) h =
    let k = and_parts (is_part p) (list_all is_part ps) h in
    rw (part-read p k.0, parts-read ps k.1) refl

pub asked-read : (a : Asked) → IsTrue (is_askable a) → command_by (arguments_of a) (method_of a) ≡ command_of a
unfolding command_by
asked-read asked.Status h = refl
asked-read (asked.AddDevice device port) h =
    let k = and_parts (is_device device) (is_port port) h in
    rw (k.0, k.1) refl
asked-read (asked.AddCue cue parts) h =
    let k = and_parts (is_cue_number cue) (are_parts parts.now) h in
    rw (flagged-triples parts.now, parts-read parts.now (are_parts-each parts.now k.1), k.0, k.1) refl
asked-read (asked.OfCue verb cue) h = refl
asked-read (asked.Release device) h = refl
asked-read (asked.RemoveDevice device) h = refl

-- a message at that address with these arguments is the message that asks for it
pub says : (a : Asked) (bytes address : List ℕ) (xs : List Argument) → address ≡ address_of (method_of a)
    → xs ≡ arguments_of a → datagram_at bytes ≡ Ok (message address xs) → datagram_at bytes ≡ Ok (message_of a)
says a bytes address xs e f read = read
    ∙ (ap (λ x. Ok (message x xs)) e ∙ ap (λ ys. Ok (message (address_of (method_of a)) ys)) f)

-- so it asks for it
pub asks-for : (a : Asked) → IsTrue (is_askable a) → (bytes address : List ℕ) (xs : List Argument)
    → address ≡ address_of (method_of a) → xs ≡ arguments_of a
    → datagram_at bytes ≡ Ok (message address xs) → AsksFor bytes (command_of a)
asks-for a h bytes address xs e f read = record {
  method = method_of a;
  arguments = arguments_of a;
  message = says a bytes address xs e f read;
  command = asked-read a h;
}

pub ok-weaker : {T E : Type 0} (r : Result T E) (P Q : T → Type 0) → ((x : T) → P x → Q x) → IfOk r P → IfOk r Q
ok-weaker (Ok x) P Q f h = f x h
ok-weaker (Err e) P Q f h = h
