-- A show file of which the check makes a show is taken by the controller, message by message.
use Rattle.std.proofs.Common.{◌≡◌, ◌∙◌, ℕ, Bool, true, false, not, ◌&&◌, if◌then◌else◌, List, [], ◌∷◌, ◌++◌, map}
use Rattle.std.proofs.Common.{IsTrue, Option, Some, None, is_some, refl, sym, ap, subst, nat_eq}
use Rattle.std.specs.Prelude.{Ok, option_and_then}
use Rattle.std.specs.Option.{option_map_or}
use Rattle.cue_show.specs.declared.part.Part.{Part}
use Rattle.cue_show.specs.DeviceNumber.{is_device, is_port}
use Rattle.cue_show.specs.Number.{is_cue_number}
use Rattle.cue_show.specs.Parts.{are_parts, same_parts}
use Rattle.cue_show.specs.Show.{ShowLists, are_known, can_add_cue, can_add_device, has_cue, has_device, is_cue_of}
use Rattle.cue_show.specs.Show.{is_full, is_show, parts_of, port_of, with_cue, with_device}
use Rattle.cue_show.proofs.ShowLemmas.{is_show-with_cue, is_show-with_device}
use Rattle.cue_show.proofs.TestLemmas.{both, join, not_so}
use Rattle.cue_core.specs.declared.command.Code.TheVariants as code
use Rattle.cue_core.specs.declared.command.Command.{Command}
use Rattle.cue_core.specs.declared.command.Command.TheVariants as command
use Rattle.cue_core.specs.declared.command.Verdict.TheVariants.{Made}
use Rattle.cue_core.specs.declared.event.Event.TheVariants as event
use Rattle.cue_core.specs.Judge.{Judgement, is_fit, judgement_of, known_already, made_by, on_add_cue, on_add_device}
use Rattle.cue_core.specs.Judge.{on_new_cue}
use Rattle.cue_core.specs.Judge.{refused_with}
use Rattle.cue_core.specs.State.{ShowState, with_show}
use Rattle.cue_core.specs.Steps.{after_events}
use Rattle.cue_operator.specs.declared.method.CueVerb.TheVariants as on_cue
use Rattle.cue_desk.specs.declared.asking.Asked.{Asked}
use Rattle.cue_desk.specs.declared.asking.Asked.TheVariants as asked
use Rattle.cue_show_file.specs.declared.file.CueEntry.{CueEntry}
use Rattle.cue_show_file.specs.declared.file.DeviceEntry.{DeviceEntry}
use Rattle.cue_show_file.specs.Accepted.{after_cues, after_devices}
use Rattle.cue_desk.specs.Asks.{command_of}
use Rattle.cue_desk.specs.Loading.{CheckedIsTaken, IsTaken, cue_command, device_command, is_there, read_by}
use Rattle.cue_desk.proofs.ReadLemmas.{asked-is_read}

none-there : {X : Type 0} (o : Option X) → IsTrue (not (is_some o)) → o ≡ None
none-there None h = refl
none-there (Some x) h = cc

-- the command adds something to the show
abbrev adds : Command → Bool
adds (command.AddDevice d port) = true
adds (command.AddCue c ps) = true
adds _ = false

-- what is to be added need not be there
added-there : (s : ShowLists) (a : Asked) → adds (command_of a) ≡ true → IsTrue (is_there s a)
added-there s (asked.OfCue on_cue.Standby cue) e = cc
added-there s (asked.OfCue _ cue) e = cc
added-there s _ e = cc

-- ---- what becomes of an entry that can be added

device-made : (s : ShowState) (d port : ℕ) → IsTrue (can_add_device s.show d port)
    → on_add_device s d port ≡ made_by (event.Device d port ∷ [])
device-made s d port h =
    let none = none-there (port_of s.show d) (both (not (has_device s.show d)) (is_device d && is_port port) h).0 in
    ap (λ (o : Option ℕ). option_map_or (λ p. if nat_eq p port then known_already else refused_with code.Duplicate) o
    (made_by (event.Device d port ∷ []))) none

cue-made : (s : ShowState) (c : List ℕ) (ps : List Part) → IsTrue (can_add_cue s.show c ps)
    → on_add_cue s c ps ≡ made_by (event.Cue c ps ∷ [])
cue-made s c ps h =
    let p = both (not (has_cue s.show c)) (not (is_full s.show) && is_cue_of s.show (c, ps)) h in
    let q = both (not (is_full s.show)) (is_cue_of s.show (c, ps)) p.1 in
    let r = both (is_cue_number c) (are_parts ps && are_known s.show ps) q.1 in
    let all_known = (both (are_parts ps) (are_known s.show ps) r.1).1 in
    let room = not_so (is_full s.show) q.0 in
    let none = none-there (parts_of s.show c) p.0 in
    ap (λ (b : Bool). if not b then refused_with code.UnknownDevice else on_new_cue s c ps) all_known
    ∙ (ap (λ (o : Option (List Part)). option_map_or
    (λ old. if same_parts old ps then known_already else refused_with code.Duplicate) o
    (if is_full s.show then refused_with code.Full else made_by (event.Cue c ps ∷ []))) none
    ∙ ap (λ (b : Bool). if b then refused_with code.Full else made_by (event.Cue c ps ∷ [])) room)

-- ---- one message after the other

-- a message is taken where its command is made by these events, and the others are taken on the state after them
then-taken : (s : ShowState) (a : Asked) (more : List Asked) (t : ShowLists) (j : Judgement) → j.0 ≡ Made
    → read_by s.show a ≡ Ok (command_of a ∷ []) → ((now from : ℕ) → judgement_of s now from (command_of a) ≡ j)
    → IsTaken (after_events s j.1) more t → IsTaken s (a ∷ more) t
then-taken s a more t j is_made read judged rest = (
  read,
  λ now from. subst (λ (i : Judgement). (i.0 ≡ Made) × IsTaken (after_events s i.1) more t)
      (sym (judged now from)) (is_made, rest),
)

device-taken : (s : ShowState) (a : Asked) (more : List Asked) (t : ShowLists) (e : DeviceEntry)
    → IsTrue (is_show s.show) → IsTrue (can_add_device s.show e.number e.port) → command_of a ≡ device_command e
    → IsTaken (with_show s (with_device s.show e.number e.port)) more t → IsTaken s (a ∷ more) t
device-taken s a more t e h can is rest =
    let fit : IsTrue (is_fit (command_of a)) =
    subst (λ (c : Command). IsTrue (is_fit c)) (sym is)
    (both (not (has_device s.show e.number)) (is_device e.number && is_port e.port) can).1 in
    let read = asked-is_read s.show a h fit (added-there s.show a (ap adds is)) in
    then-taken s a more t (made_by (event.Device e.number e.port ∷ [])) refl read
    (λ now from. ap (judgement_of s now from) is ∙ device-made s e.number e.port can) rest

cue-taken : (s : ShowState) (a : Asked) (more : List Asked) (t : ShowLists) (e : CueEntry) → IsTrue (is_show s.show)
    → IsTrue (can_add_cue s.show e.number e.parts) → command_of a ≡ cue_command e
    → IsTaken (with_show s (with_cue s.show e.number e.parts)) more t → IsTaken s (a ∷ more) t
cue-taken s a more t e h can is rest =
    let p = both (not (has_cue s.show e.number)) (not (is_full s.show) && is_cue_of s.show (e.number, e.parts)) can in
    let q = both (not (is_full s.show)) (is_cue_of s.show (e.number, e.parts)) p.1 in
    let r = both (is_cue_number e.number) (are_parts e.parts && are_known s.show e.parts) q.1 in
    let own = join (is_cue_number e.number) (are_parts e.parts) r.0
    (both (are_parts e.parts) (are_known s.show e.parts) r.1).0 in
    let fit : IsTrue (is_fit (command_of a)) = subst (λ (c : Command). IsTrue (is_fit c)) (sym is) own in
    let read = asked-is_read s.show a h fit (added-there s.show a (ap adds is)) in
    then-taken s a more t (made_by (event.Cue e.number e.parts ∷ [])) refl read
    (λ now from. ap (judgement_of s now from) is ∙ cue-made s e.number e.parts can) rest

-- ---- all messages

head-same : {X : Type 0} (x y : X) (xs ys : List X) → x ∷ xs ≡ y ∷ ys → x ≡ y
head-same x y xs ys e = cc

tail-same : {X : Type 0} (x y : X) (xs ys : List X) → x ∷ xs ≡ y ∷ ys → xs ≡ ys
tail-same x y xs ys e = cc

all-cues : (s : ShowState) (cs : List CueEntry) (t : ShowLists) (messages : List Asked) → IsTrue (is_show s.show)
    → after_cues s.show cs ≡ Some t → map command_of messages ≡ map cue_command cs → IsTaken s messages t
all-cues s [] t [] h made_by is = cc
all-cues s [] t (a ∷ more) h made_by is = cc
all-cues s (e ∷ cs) t [] h made_by is = cc
all-cues s (e ∷ cs) t (a ∷ more) h made_by is =
    at (can_add_cue s.show e.number e.parts) refl made_by (λ next. all-cues next cs t more)
  where
    at : (b : Bool) → can_add_cue s.show e.number e.parts ≡ b
        → option_and_then (λ u. after_cues u cs) (if b then Some (with_cue s.show e.number e.parts) else None) ≡ Some t
        → ((next : ShowState) → IsTrue (is_show next.show) → after_cues next.show cs ≡ Some t
        → map command_of more ≡ map cue_command cs → IsTaken next more t) → IsTaken s (a ∷ more) t
    at true can k others =
        let next : ShowState = with_show s (with_cue s.show e.number e.parts) in
        cue-taken s a more t e h can (head-same (command_of a) (cue_command e) _ _ is)
        (others next (is_show-with_cue s.show e.number e.parts h can) k
        (tail-same (command_of a) (cue_command e) _ _ is))
    at false cannot k others = cc

all-devices : (s : ShowState) (ds : List DeviceEntry) (cs : List CueEntry) (t : ShowLists) (messages : List Asked)
    → IsTrue (is_show s.show)
    → option_and_then (λ u. after_cues u cs) (after_devices s.show ds) ≡ Some t
    → map command_of messages ≡ map device_command ds ++ map cue_command cs → IsTaken s messages t
all-devices s [] cs t messages h made_by is = all-cues s cs t messages h made_by is
all-devices s (e ∷ ds) cs t [] h made_by is = cc
all-devices s (e ∷ ds) cs t (a ∷ more) h made_by is =
    at (can_add_device s.show e.number e.port) refl made_by (λ next. all-devices next ds cs t more)
  where
    at : (b : Bool) → can_add_device s.show e.number e.port ≡ b
        → option_and_then (λ u. after_cues u cs)
        (option_and_then (λ u. after_devices u ds) (if b then Some (with_device s.show e.number e.port) else None))
        ≡ Some t
        → ((next : ShowState) → IsTrue (is_show next.show)
        → option_and_then (λ u. after_cues u cs) (after_devices next.show ds) ≡ Some t
        → map command_of more ≡ map device_command ds ++ map cue_command cs → IsTaken next more t)
        → IsTaken s (a ∷ more) t
    at true can k others =
        let next : ShowState = with_show s (with_device s.show e.number e.port) in
        device-taken s a more t e h can (head-same (command_of a) (device_command e) _ _ is)
        (others next (is_show-with_device s.show e.number e.port h can) k
        (tail-same (command_of a) (device_command e) _ _ is))
    at false cannot k others = cc

pub checked-is_taken : CheckedIsTaken
checked-is_taken s file t messages h made_by is = all-devices s file.devices.items file.cues.items t messages h made_by
    is
