-- What a script has written, line by line.
use Rattle.std.specs.Prelude.{◌≡◌, ℕ, ◌+◌, ◌-◌, ◌^◌, ◌<◌, ◌≤◌, ◌++◌, Bool, true, List, [], ◌∷◌, length}
use Rattle.std.specs.Prelude.{map, take, Option}
use Rattle.std.specs.Prelude.{Some, None, slice_index_or, IfSome, IfOk, IfErr, OnOk, Result, Ok, Err}
use Rattle.std.specs.Option.{option_map}
use Rattle.std.specs.Io.KnownBytes.{Appends}
use Rattle.std.proofs.Common.{ap, refl, arith, sym, ◌∙◌, append_assoc, subst, inl, inr}
use Rattle.std.proofs.lemmas.Grind.{flat_map-append}
use Rattle.std.proofs.lemmas.List.{append-nil, map-append, take_more, take_all, length-take}
use Rattle.cue_core.specs.State.{ShowState}
use Rattle.cue_core.specs.Steps.{after_events}
use Rattle.cue_keeper.specs.Stands.{Stands}
use Rattle.cue_keeper.proofs.StandingLemmas.{one_state}
use Rattle.cue_outbox.specs.Sending.{Send, datagram, datagrams, all_pending}
use Rattle.cue_core.specs.Batches.{closed_state}
use Rattle.cue_engine.specs.Recovery.{ClosedFrom, NoGenerationLeft}
use Rattle.cue_engine.specs.declared.mem_wire.Sent.{Sent}
use Rattle.cue_engine.specs.Runs.{Happening, recovered, given_at, run}
use Rattle.cue_engine.specs.Told.{sents_view}
use Rattle.cue_engine.specs.Wires.{Handed, handed_as, AllHanded}
use Rattle.cue_disk.specs.Disk.{Contents}
use Rattle.cue_disk.specs.Effect.{settled_contents}
use Rattle.cue_log.specs.Area.{Area, IsAbsent}
use Rattle.cue_snap.specs.Pair.{SomeIsThere}
use Rattle.cue_snap.proofs.ReaderLemmas.{one_of_a_pair}
use Rattle.cue_script.specs.declared.entry.TheConstants.{MAX_SCRIPT}
use Rattle.cue_script.specs.declared.ending.Ending.{Ending}
use Rattle.cue_script.specs.declared.ending.Ending.TheVariants.{Done, BadLine, BadInput, Failed, Stopped}
use Rattle.cue_keeper.specs.declared.fault.Fault.{Fault}
use Rattle.cue_keeper.specs.declared.fault.Fault.TheVariants as engine
use Rattle.cue_keeper.specs.declared.fault.StoreFault.{StoreFault}
use Rattle.cue_keeper.specs.declared.fault.StoreFault.TheVariants as store
use Rattle.cue_script.specs.declared.ending.Failure.{Failure}
use Rattle.cue_script.specs.declared.ending.Failure.TheVariants.{Store}
use Rattle.cue_script.specs.declared.ending.StreamFailure.{StreamFailure}
use Rattle.cue_script.specs.Endings.{can_come, ending_line, failure_by, status_of}
use Rattle.cue_script.specs.ScriptLines.{lines_of, happening_in}
use Rattle.cue_script.specs.ScriptViews.{sent_view}
use Rattle.cue_script.specs.Playing.{Goes, EndsAt, EndsUnheard, ReadsAt}
use Rattle.cue_script.specs.Script.{line_of, printed_lines, output, Ran, Wrote, HasRun}

pub appends_none : (old : Option (List ℕ)) → Appends old old []
appends_none None = tt
appends_none (Some held) = sym (append-nil held)

pub appends_both : (old mid new : Option (List ℕ)) (first then : List ℕ) → Appends old mid first → Appends mid new then
    → Appends old new (first ++ then)
appends_both None mid new first then one two = tt
appends_both (Some old) None new first then one two = absurd one
appends_both (Some old) (Some mid) None first then one two = absurd two
appends_both (Some old) (Some mid) (Some new) first then one two = two ∙ ap (λ (held : List ℕ). held ++ then) one
    ∙ append_assoc old first then

-- ---- what is printed

printed-append : (xs ys : List (ℕ × List ℕ)) → printed_lines (xs ++ ys) ≡ printed_lines xs ++ printed_lines ys
printed-append xs ys = flat_map-append line_of xs ys

-- a datagram more was printed
pub printed_more : (all : List Sent) (i : ℕ) (d : Sent) → i < length all
    → printed_lines (map sent_view (take (i + 1) all)) ≡ printed_lines (map sent_view (take i all)) ++ line_of
    (sent_view (slice_index_or all i d))
printed_more all i d low =
    ap (λ (xs : List Sent). printed_lines (map sent_view xs)) (take_more all i d low)
    ∙ ap printed_lines (map-append sent_view (take i all) (slice_index_or all i d ∷ []))
    ∙ printed-append (map sent_view (take i all)) (sent_view (slice_index_or all i d) ∷ [])
    ∙ ap (λ (t : List ℕ). printed_lines (map sent_view (take i all)) ++ t)
    (append-nil (line_of (sent_view (slice_index_or all i d))))

pub printed_step : (all : List Sent) (i : ℕ) (d : Sent) (old new : List ℕ) → i < length all → d ≡ slice_index_or all i d
    → old ≡ printed_lines (map sent_view (take i all)) → new ≡ old ++ line_of (sent_view d)
    → new ≡ printed_lines (map sent_view (take (i + 1) all))
printed_step all i d old new low is before more =
    more ∙ ap (λ (t : List ℕ). t ++ line_of (sent_view d)) before
    ∙ ap (λ (x : Sent). printed_lines (map sent_view (take i all)) ++ line_of (sent_view x)) is
    ∙ sym (printed_more all i d low)

-- a datagram that was handed over, without what became of it
abbrev pub sent_of : Handed → ℕ × List ℕ
sent_of h = (h.to, h.bytes)

handed-all : (queue : List (ℕ × List ℕ)) (flags : List Bool) → length flags ≡ length queue
    → map sent_of (handed_as queue flags) ≡ queue
handed-all [] flags same = refl
handed-all (o ∷ os) [] same = absurd (omega arith)
handed-all (o ∷ os) (f ∷ fs) same = ap (λ (xs : List (ℕ × List ℕ)). o ∷ xs) (handed-all os fs (omega arith))

sents-all : (all : List Sent) → map sent_of (sents_view all) ≡ map sent_view all
sents-all [] = refl
sents-all (x ∷ xs) = ap (λ (ys : List (ℕ × List ℕ)). sent_view x ∷ ys) (sents-all xs)

-- where the wire still reports, it reports the whole queue
pub told_whole : (queue : List (ℕ × List ℕ)) (n : ℕ) (before told : Option (List Handed)) (all : List Sent)
    → before ≡ Some [] → AllHanded before queue n told → told ≡ Some (sents_view all) → map sent_view all ≡ queue
told_whole queue n None told all none each is = absurd (cc)
told_whole queue n (Some xs) None all none each is = absurd (cc)
told_whole queue n (Some xs) (Some ys) all none each is =
    let empty : xs ≡ [] = cc in
    let same : ys ≡ sents_view all = cc in
    sym (sents-all all) ∙ ap (map sent_of) (sym same ∙ each.grew
    ∙ ap (λ (zs : List Handed). zs ++ handed_as queue each.flags) empty) ∙ handed-all queue each.flags each.each

-- ---- what happened

run-none : (s : ShowState) → (run s []).state ≡ s
run-none s = refl

pub run-more-state : (s : ShowState) (hs : List Happening) (h : Happening)
    → (run s (hs ++ h ∷ [])).state ≡ after_events (run s hs).state (given_at (run s hs).state h).batch
run-more-state s [] h = refl
run-more-state s (g ∷ gs) h = run-more-state (after_events s (given_at s g).batch) gs h

pub run-more-sends : (s : ShowState) (hs : List Happening) (h : Happening)
    → (run s (hs ++ h ∷ [])).sends ≡ (run s hs).sends ++ (given_at (run s hs).state h).sends
run-more-sends s [] h = append-nil (given_at s h).sends
run-more-sends s (g ∷ gs) h =
    ap (λ (xs : List (ℕ × Send)). (given_at s g).sends ++ xs)
    (run-more-sends (after_events s (given_at s g).batch) gs h)
    ∙ sym (append_assoc (given_at s g).sends (run (after_events s (given_at s g).batch) gs).sends
    (given_at (run (after_events s (given_at s g).batch) gs).state h).sends)

pub output-none : (s : ShowState) → output s [] ≡ []
unfolding output
output-none s = refl

pub output-more : (s : ShowState) (hs : List Happening) (h : Happening)
    → output s (hs ++ h ∷ []) ≡ output s hs ++ printed_lines (datagrams (given_at (run s hs).state h).sends)
unfolding output
output-more s hs h =
    ap (λ (xs : List (ℕ × Send)). printed_lines (datagrams xs)) (run-more-sends s hs h)
    ∙ ap printed_lines (map-append datagram (run s hs).sends (given_at (run s hs).state h).sends)
    ∙ printed-append (datagrams (run s hs).sends) (datagrams (given_at (run s hs).state h).sends)

-- what recovery makes of bytes that stand for a state
pub closed_by_recovery : (s t : ShowState) (x y : List ℕ) → Stands x y s → ClosedFrom x y t
    → t ≡ after_events s (given_at s recovered).batch
unfolding closed_state
closed_by_recovery s t x y stands from = from.is ∙ ap closed_state (one_state x y from.before s from.stood stands)

pub closed_sends : (s t : ShowState) (x y : List ℕ) (queue : List (ℕ × List ℕ)) → Stands x y s → ClosedFrom x y t
    → queue ≡ datagrams (all_pending t) → queue ≡ datagrams (given_at s recovered).sends
closed_sends s t x y queue stands from owes = owes
    ∙ ap (λ (u : ShowState). datagrams (all_pending u)) (from.is
    ∙ ap closed_state (one_state x y from.before s from.stood stands))

-- ---- the lines of a text

-- The first lines of a text were run, those of the rest are left, and this is the state.
pub record IsRunning (first : ShowState) (text rest : List ℕ) (state : ShowState) (old new : Option (List ℕ)) : Type 0
  where
    pub happened : List Happening
    pub lines : List (List ℕ)
    pub all : lines_of text ≡ lines ++ lines_of rest
    pub each : map happening_in lines ≡ map Some happened
    pub is : state ≡ (run first happened).state
    pub wrote : Appends old new (output first happened)

pub running_first : (first : ShowState) (text : List ℕ) (old : Option (List ℕ))
    → IsRunning first text text first old old
running_first first text old =
    let P : List ℕ → Type 0 = λ t. Appends old old t in
    record {
      happened = [];
      lines = [];
      all = refl;
      each = refl;
      is = refl;
      wrote =
          subst P (sym (output-none first)) (appends_none old);
    }

-- a line more was run
pub running_more : (first : ShowState) (text rest others line : List ℕ) (s t : ShowState)
    (old mid new : Option (List ℕ)) →
    IsRunning first text rest s old mid → lines_of rest ≡ line ∷ lines_of others → Goes line s t mid new
    → IsRunning first text others t old new
running_more first text rest others line s t old mid new held split goes =
    let P : List ℕ → Type 0 = λ out. Appends old new out in
    let Q : ShowState → Type 0 = λ u. Appends mid new (printed_lines (datagrams (given_at u goes.happening).sends)) in
    record {
      happened = held.happened ++ goes.happening ∷ [];
      lines = held.lines ++ line ∷ [];
      all = held.all ∙ ap (λ (xs : List (List ℕ)). held.lines ++ xs) split
          ∙ sym (append_assoc held.lines (line ∷ []) (lines_of others));
      each = map-append happening_in held.lines (line ∷ [])
          ∙ ap (λ (xs : List (Option Happening)). xs ++ happening_in line ∷ []) held.each
          ∙ ap (λ (x : Option Happening). map Some held.happened ++ x ∷ []) goes.tells
          ∙ sym (map-append Some held.happened (goes.happening ∷ []));
      is = goes.is ∙ ap (λ (u : ShowState). after_events u (given_at u goes.happening).batch) held.is
          ∙ sym (run-more-state first held.happened goes.happening);
      wrote = subst P (sym (output-more first held.happened goes.happening))
          (appends_both old mid new _ _ held.wrote (subst Q held.is goes.wrote));
    }

-- a line of which this is known went on
pub goes_behind : {T E : Type 0} (r : Result T E) (state : T → ShowState) (line : List ℕ) (h : Happening)
    (s : ShowState) (old new : Option (List ℕ)) → happening_in line ≡ Some h →
    IfOk r (λ next. state next ≡ after_events s (given_at s h).batch)
    → OnOk r (Appends old new (printed_lines (datagrams (given_at s h).sends)))
    → IfOk r (λ next. Goes line s (state next) old new)
goes_behind (Ok next) state line h s old new tells is wrote =
    record { happening = h; tells = tells; is = is; wrote = wrote }
goes_behind (Err ending) state line h s old new tells is wrote = tt

ends_one : (ending : Ending) (line : List ℕ) (old new : Option (List ℕ)) → EndsUnheard ending old new
    → EndsAt ending line old new
ends_one Done line old new ends = absurd ends
ends_one BadLine line old new ends = absurd ends
ends_one BadInput line old new ends = absurd ends
ends_one (Failed failure) line old new ends = ends
ends_one (Stopped failure) line old new ends = tt

pub ends_behind : {T : Type 0} (r : Result T Ending) (line : List ℕ) (old new : Option (List ℕ))
    → IfErr r (λ ending. EndsUnheard ending old new) → IfErr r (λ ending. EndsAt ending line old new)
ends_behind (Ok next) line old new ends = tt
ends_behind (Err ending) line old new ends = ends_one ending line old new ends

-- the script stands where its first lines were run
pub ran : (first : ShowState) (text rest : List ℕ) (left : List (List ℕ)) (s : ShowState) (old new : Option (List ℕ))
    → IsRunning first text rest s old new → lines_of rest ≡ left → length text ≤ MAX_SCRIPT
    → Ran first text left [] old new
ran first text rest left s old new held is short =
    let P : List ℕ → Type 0 = λ out. Appends old new out in
    record {
      happened = held.happened;
      lines = held.lines;
      all = held.all ∙ ap (λ (xs : List (List ℕ)). held.lines ++ xs) is;
      each = held.each;
      short = short;
      wrote = subst P (sym (append-nil (output first held.happened))) held.wrote;
    }

-- a line ended the script
pub ran_until : (ending : Ending) (first : ShowState) (text rest others line : List ℕ) (s : ShowState)
    (old mid new : Option (List ℕ)) →
    IsRunning first text rest s old mid → lines_of rest ≡ line ∷ lines_of others → length text ≤ MAX_SCRIPT
    → EndsAt ending line mid new → Wrote ending first text [] old new
ran_until Done first text rest others line s old mid new held split short ends = absurd ends
ran_until BadLine first text rest others line s old mid new held split short ends =
    let P : Option (List ℕ) → Type 0 = λ now. Ran first text (line ∷ lines_of others) [] old now in
    record {
      bad = line;
      others = lines_of others;
      no_form = ends.0;
      ran =
          subst P (sym ends.1) (ran first text rest (line ∷ lines_of others) s old mid held split short);
    }
ran_until BadInput first text rest others line s old mid new held split short ends = absurd ends
ran_until (Failed failure) first text rest others line s old mid new held split short ends =
    let P : Option (List ℕ) → Type 0 = λ now. Ran first text (line ∷ lines_of others) [] old now in (
      ends.0,
      (
        line ∷ lines_of others,
        subst P (sym ends.1)
            (ran first text rest (line ∷ lines_of others) s old mid held split short),
      ),
    )
ran_until (Stopped failure) first text rest others line s old mid new held split short ends = tt

-- a last line after it
ran_with : (first : ShowState) (text last : List ℕ) (left : List (List ℕ)) (old mid new : Option (List ℕ))
    → Ran first text left [] old mid → Appends mid new last → Ran first text left last old new
ran_with first text last left old mid new held more =
    let P : List ℕ → Type 0 = λ out. Appends old mid out in
    record {
      happened = held.happened;
      lines = held.lines;
      all = held.all;
      each = held.each;
      short = held.short;
      wrote = appends_both old mid new _ _ (subst P (append-nil (output first held.happened)) held.wrote) more;
    }

pub wrote_with : (ending : Ending) (first : ShowState) (text last : List ℕ) (old mid new : Option (List ℕ))
    → Wrote ending first text [] old mid → Appends mid new last → Wrote ending first text last old new
wrote_with Done first text last old mid new held more = ran_with first text last [] old mid new held more
wrote_with BadLine first text last old mid new held more =
    record {
      bad = held.bad;
      others = held.others;
      no_form = held.no_form;
      ran =
          ran_with first text last (held.bad ∷ held.others) old mid new held.ran more;
    }
wrote_with BadInput first text last old mid new held more = (held.0, appends_both old mid new [] last held.1 more)
wrote_with (Failed failure) first text last old mid new held more =
    (held.0, (held.1.0, ran_with first text last held.1.0 old mid new held.1.1 more))
wrote_with (Stopped failure) first text last old mid new held more = tt

-- a text of which no more than so many bytes were read was read whole
pub read_whole : (text : List ℕ) (limit : ℕ) → length (take (limit + 1) text) ≤ limit → (take (limit + 1) text ≡ text)
    × (length text ≤ limit)
read_whole text limit short =
    let shorter : length text ≤ limit = omega (arith, length-take (limit + 1) text) in
    (take_all (limit + 1) text (omega arith), shorter)

-- the same of what is known of a reader
pub read_known : (known : Option (List ℕ)) (limit : ℕ) (bytes : List ℕ)
    → IfSome (option_map (take (limit + 1)) known) (λ text. bytes ≡ text) → length bytes ≤ limit
    → IfSome known (λ text. (bytes ≡ text) × (length text ≤ limit))
read_known None limit bytes read short = tt
read_known (Some text) limit bytes read short =
    let whole = read_whole text limit (omega (arith, ap length read)) in
    (read ∙ whole.0, whole.1)

-- what holds of the bytes that were read holds of what is known of the reader
pub of_known : (known : Option (List ℕ)) (limit : ℕ) (bytes : List ℕ) (F : List ℕ → Type 0)
    → IfSome known (λ text. (bytes ≡ text) × (length text ≤ limit)) → F bytes → IfSome known F
of_known None limit bytes F read holds = tt
of_known (Some text) limit bytes F read holds = subst F read.0 holds

-- nothing was run of a text that is too long
pub too_long : (known : Option (List ℕ)) (first : ShowState) (old : Option (List ℕ))
    → IfSome known (λ text. MAX_SCRIPT < length text) → IfSome known (λ text. Wrote BadInput first text [] old old)
too_long None first old long = tt
too_long (Some text) first old long = (long, appends_none old)

-- nothing was run where no engine was formed, and two new disks are refused out of memory, or by themselves
pub not_formed : (fault : StoreFault) (first : ShowState) (text : List ℕ) (old : Option (List ℕ))
    → length text ≤ MAX_SCRIPT → can_come (Store fault) ≡ true → Wrote (Failed (Store fault)) first text [] old old
not_formed fault first text old short comes = (
  comes,
  (
    lines_of text,
    ran first text text (lines_of text) first old old (running_first first text old) refl
        short,
  ),
)

pub has_run : (known : Option (List ℕ)) (ending : Ending) (first : ShowState) (line : List ℕ) (status : ℕ)
    (old mid new : Option (List ℕ)) → IfSome known (λ text. Wrote ending first text [] old mid)
    → line ≡ ending_line ending →
    Appends mid new line → status ≡ status_of ending → IfSome known (λ text. HasRun first text status old new)
has_run None ending first line status old mid new wrote is last ends = tt
has_run (Some text) ending first line status old mid new wrote is last ends =
    let P : List ℕ → Type 0 = λ l. Appends mid new l in
    record {
      ending = ending;
      is = ends;
      wrote = wrote_with ending first text (ending_line ending) old mid new wrote
          (subst P is last);
    }

pub stopped_known : (known : Option (List ℕ)) (failure : StreamFailure) (first : ShowState) (old new : Option (List ℕ))
    → IfSome known (λ text. Wrote (Stopped failure) first text [] old new)
stopped_known None failure first old new = tt
stopped_known (Some text) failure first old new = tt

-- an empty disk has no area
absent : (held : Contents) → held ≡ settled_contents [] → IsAbsent held.bytes
absent held is =
    let P : Contents → Type 0 = λ now. IsAbsent now.bytes in
    subst P (sym is) tt

-- two empty disks have none
pub no_area : (one two : Contents) → one ≡ settled_contents [] → two ≡ settled_contents []
    → SomeIsThere one.bytes two.bytes → ⊥
no_area one two first second (inl there) = there (absent one first)
no_area one two first second (inr there) = there (absent two second)

-- a recovery of what stands for a state, with a generation left, is refused for want of memory or by a disk
pub comes_of_recovery : (fault : StoreFault) → (fault ≡ store.NotEmpty → ⊥) → (fault ≡ store.Unformed → ⊥)
    → (fault ≡ store.Damaged → ⊥) → (fault ≡ store.Version → ⊥) → (fault ≡ store.Malformed → ⊥)
    → (fault ≡ store.Full → ⊥) → (fault ≡ store.Exhausted → ⊥) → can_come (Store fault) ≡ true
comes_of_recovery store.NotEmpty empty unformed damaged version malformed full none = absurd (empty refl)
comes_of_recovery store.Unformed empty unformed damaged version malformed full none = absurd (unformed refl)
comes_of_recovery store.Damaged empty unformed damaged version malformed full none = absurd (damaged refl)
comes_of_recovery store.Version empty unformed damaged version malformed full none = absurd (version refl)
comes_of_recovery store.Malformed empty unformed damaged version malformed full none = absurd (malformed refl)
comes_of_recovery store.Full empty unformed damaged version malformed full none = absurd (full refl)
comes_of_recovery store.Exhausted empty unformed damaged version malformed full none = absurd (none refl)
comes_of_recovery store.Memory empty unformed damaged version malformed full none = refl
comes_of_recovery store.Disk empty unformed damaged version malformed full none = refl

-- an engine that works takes an input, with a generation left, or is refused for want of memory or by a disk
pub comes_of_taking : (fault : Fault) (failure : Failure) → failure ≡ failure_by fault → (fault ≡ engine.Broken → ⊥)
    → (fault ≡ engine.Full → ⊥) → (fault ≡ engine.Exhausted → ⊥) → can_come failure ≡ true
comes_of_taking engine.Broken failure by broken full none = absurd (broken refl)
comes_of_taking engine.Full failure by broken full none = absurd (full refl)
comes_of_taking engine.Exhausted failure by broken full none = absurd (none refl)
comes_of_taking engine.Memory failure by broken full none = ap can_come by
comes_of_taking engine.Disk failure by broken full none = ap can_come by

-- what reads as an area that is not of the last generation has one left
pub has_generation : (n : ℕ) (x y : List ℕ) → ReadsAt n x y → n + 1 < 2 ^ 64 → NoGenerationLeft x y → ⊥
has_generation n x y read left none =
    let same : none.area ≡ read.area = one_of_a_pair none.area read.area x y none.needs.reads read.reads in
    let last : n ≡ 2 ^ 64 - 1 = sym read.same ∙ ap (λ (a : Area). a.generation) (sym same) ∙ none.last in
    omega (arith, last, left)

-- what was turned over once is kept as it is
pub still_once : {T E : Type 0} (r : Result T E) (generation : T → ℕ) (before after : ℕ)
    → IfOk r (λ next. generation next ≡ after) → after ≤ before + 1 → IfOk r (λ next. generation next ≤ before + 1)
still_once (Ok next) generation before after same once = omega (arith, same, once)
still_once (Err ending) generation before after same once = tt
