-- What was taken by a run, and then by another; and what a group is as a run.
use Rattle.std.proofs.Common.{◌≡◌, ℕ, ◌+◌, ◌-◌, ◌^◌, List, [], ◌∷◌, ◌++◌, length, take, drop, min, Option, Some, None}
use Rattle.std.proofs.Common.{refl, sym, ap, ◌∙◌, arith, length-append, append_assoc, subst}
use Rattle.std.proofs.lemmas.List.{map-append}
use Rattle.cue_core.specs.State.{ShowState}
use Rattle.cue_core.specs.Steps.{after_events}
use Rattle.cue_keeper.specs.Stands.{folded_all}
use Rattle.cue_outbox.specs.Sending.{datagram, datagrams, Send}
use Rattle.cue_engine.specs.Given.{Input, given_of}
use Rattle.cue_engine.specs.Groups.{batches_given, sends_given}
use Rattle.cue_engine.specs.Sources.{Answer, comes, others_left, GaveInTurn, GaveAll}
use Rattle.cue_engine.specs.Wires.{Handed, AllHanded}
use Rattle.cue_engine.proofs.GroupLemmas.{is_a_run}
use Rattle.cue_engine.proofs.WireLemmas.{handed_none, handed_first, part_more, parts_all}
use Rattle.cue_run.specs.Running.{given_answers, story, HasRun}
use Rattle.cue_run.specs.Grouping.{HandedCounted, CountedSoFar}

-- ---- answers

gave_more : (size : ℕ) (old : List Answer) (gs : List Answer) (mid : List Answer) (hs : List Answer) (new : List Answer)
    → GaveInTurn size old gs mid → GaveInTurn size mid hs new → GaveInTurn size old (gs ++ hs) new
gave_more size old [] mid hs new e h = rw (← e) h
gave_more size old (g ∷ gs) mid hs new k h = (k.0, gave_more size (others_left old) gs mid hs new k.1 h)

-- no answer was taken
pub gave_none : (size : ℕ) (left : Option (List Answer)) → GaveAll size left [] left
gave_none size None = tt
gave_none size (Some answers) = refl

pub gave_all_more : (size : ℕ) (old : Option (List Answer)) (gs : List Answer) (mid : Option (List Answer))
    (hs : List Answer) (new : Option (List Answer)) → GaveAll size old gs mid → GaveAll size mid hs new
    → GaveAll size old (gs ++ hs) new
gave_all_more size old gs mid hs None k h = tt
gave_all_more size old gs None hs (Some new) k h = absurd h
gave_all_more size None gs (Some mid) hs (Some new) k h = absurd k
gave_all_more size (Some old) gs (Some mid) hs (Some new) k h = gave_more size old gs mid hs new k h

-- inputs, and then others
pub gave_join : (size : ℕ) (left mid left_then : Option (List Answer)) (is js : List (ℕ × Input))
    → GaveAll size left (given_answers is) mid → GaveAll size mid (given_answers js) left_then
    → GaveAll size left (given_answers (is ++ js)) left_then
gave_join size left mid left_then is js g h =
    rw (map-append (λ (t : ℕ × Input). comes t.0 t.1) is js)
    (gave_all_more size left (given_answers is) mid (given_answers js) left_then g h)

-- ---- datagrams

-- some were handed over, and then others
all_handed_both : {told mid new : Option (List Handed)} {os ps : List (ℕ × List ℕ)} {n m : ℕ}
    → AllHanded told os n mid → AllHanded mid ps m new → AllHanded told (os ++ ps) (n + m) new
all_handed_both {os = os} first more = parts_all (record { sent = os; together = refl; all = first }) more

-- none was handed over yet
pub so_far_none : (told : Option (List Handed)) (owed : List (ℕ × List ℕ)) → CountedSoFar told owed owed 0 told
so_far_none told owed = record { refused = 0; handed = handed_none told owed; counted = refl }

module _ {told mid told_then : Option (List Handed)} {owed left : List (ℕ × List ℕ)} {unsent refused all : ℕ}
    (counts : all ≡ min (unsent + refused) (2 ^ 64 - 1)) (so_far : CountedSoFar told owed left unsent mid) where
  -- the first k of those that are left were handed over
  pub so_far_more : (k : ℕ) {rest : List (ℕ × List ℕ)} {seen : Option (List Handed)}
      → rest ≡ drop k left → seen ≡ told_then → AllHanded mid (take k left) refused told_then
      → CountedSoFar told owed rest all seen
  so_far_more k {rest} others same more = record {
    refused = so_far.refused + refused;
    handed = rw same (part_more k others so_far.handed more);
    counted = omega (arith, counts, so_far.counted);
  }

  -- all that were left were handed over
  pub so_far_all : AllHanded mid left refused told_then → HandedCounted told owed all told_then
  so_far_all more = record {
    refused = so_far.refused + refused;
    handed = parts_all so_far.handed more;
    counted = omega (arith, counts, so_far.counted);
  }

-- ---- runs

story_join : (s : ShowState) (is js : List (ℕ × Input))
    → ((story s (is ++ js)).state ≡ (story (story s is).state js).state)
    × ((story s (is ++ js)).sends ≡ (story s is).sends ++ (story (story s is).state js).sends)
story_join s [] js = (refl, refl)
story_join s (i ∷ is) js =
    let sends : List (ℕ × Send) = (given_of s i.0 i.1).sends in
    let next : ShowState = after_events s (given_of s i.0 i.1).batch in
    let rest = story_join next is js in (
      rest.0,
      ap (λ (xs : List (ℕ × Send)). sends ++ xs) rest.1
          ∙ sym (append_assoc sends (story next is).sends (story (story next is).state js).sends),
    )

-- a run, and then another
pub runs_join : {size turns unsent more mores all : ℕ} {left mid left_then : Option (List Answer)}
    {s mid_s s_then : ShowState} {owed : List (ℕ × List ℕ)} {told mid_told told_then : Option (List Handed)}
    → all ≡ min (unsent + mores) (2 ^ 64 - 1)
    → (h : HasRun size left s owed told turns unsent mid mid_s mid_told)
    → (k : HasRun size mid mid_s [] mid_told more mores left_then s_then told_then)
    → (run : HasRun size left s owed told (turns + more) all left_then s_then told_then)
    × (run.inputs ≡ h.inputs ++ k.inputs)
runs_join {size = size} {left = left} {mid = mid} {left_then = left_then} {s = s} {owed = owed} counts h k =
    let next : ShowState = (story s h.inputs).state in
    let joined = story_join s h.inputs k.inputs in
    let then = rw h.state at k.handed in (
      record {
        inputs = h.inputs ++ k.inputs;
        gave = gave_join size left mid left_then h.inputs k.inputs h.gave k.gave;
        number = omega (arith, h.number, k.number, length-append h.inputs k.inputs);
        state = rw (joined.0, ← h.state) k.state;
        refused = h.refused + k.refused;
        handed = rw (
          joined.1,
          map-append datagram (story s h.inputs).sends (story next k.inputs).sends,
          ← append_assoc owed (datagrams (story s h.inputs).sends) (datagrams (story next k.inputs).sends),
        )
            (all_handed_both h.handed then);
        counted = omega (arith, counts, h.counted, k.counted);
      },
      refl,
    )

-- one group
pub group_has_run : (inputs : List (ℕ × Input)) {size count unsent : ℕ} {s s_then : ShowState}
    {left mid : Option (List Answer)} {told told_then : Option (List Handed)}
    → length inputs ≡ count
    → GaveAll size left (given_answers inputs) mid
    → s_then ≡ folded_all s (batches_given s inputs)
    → HandedCounted told (datagrams (sends_given s inputs)) unsent told_then
    → (run : HasRun size left s [] told count unsent mid s_then told_then) × (run.inputs ≡ inputs)
group_has_run inputs {s = s} number gave same handed = (
  record {
    inputs = inputs;
    gave = gave;
    number = number;
    state = same ∙ sym (is_a_run s inputs).0;
    refused = handed.refused;
    handed = rw (is_a_run s inputs).2 handed.handed;
    counted = handed.counted;
  },
  refl,
)

-- and a run as one group
pub has_run_as_group : {size turns unsent : ℕ} {left left_then : Option (List Answer)} {s s_then : ShowState}
    {told told_then : Option (List Handed)}
    (run : HasRun size left s [] told turns unsent left_then s_then told_then) (group : List (ℕ × Input))
    → run.inputs ≡ group
    → (s_then ≡ folded_all s (batches_given s group))
    × AllHanded told (datagrams (sends_given s group)) run.refused told_then
has_run_as_group {s = s} {s_then = s_then} {told = told} {told_then = told_then} run group same =
    let S : List (ℕ × Input) → Type 0 = λ is. s_then ≡ folded_all s (batches_given s is) in
    let H : List (ℕ × Input) → Type 0 =
    λ is. AllHanded told (datagrams (sends_given s is)) run.refused told_then in
    let M : List (ℕ × Send) → Type 0 = λ ms. AllHanded told (datagrams ms) run.refused told_then in (
      subst S same (run.state ∙ (is_a_run s run.inputs).0),
      subst H same (subst M (is_a_run s run.inputs).2 run.handed),
    )

-- no input was taken
pub none_has_run : {size turns unsent : ℕ} {left : Option (List Answer)} {s s_then : ShowState}
    {told told_then : Option (List Handed)} → turns ≡ 0 → unsent ≡ 0 → s_then ≡ s → told_then ≡ told
    → (run : HasRun size left s [] told turns unsent left s_then told_then) × (run.inputs ≡ [])
none_has_run {size = size} {left = left} {told = told} no_turns all_sent same_s same_told = (
  record {
    inputs = [];
    gave = gave_none size left;
    number = sym no_turns;
    state = same_s;
    refused = 0;
    handed = rw same_told (handed_first 0 (omega arith) (handed_none told []));
    counted = all_sent;
  },
  refl,
)

-- inputs, others, and what came after them
pub came_join : (size : ℕ) (left mid left_then : Option (List Answer)) (is js : List (ℕ × Input)) (after : List Answer)
    → GaveAll size left (given_answers is) mid → GaveAll size mid (given_answers js ++ after) left_then
    → GaveAll size left (given_answers (is ++ js) ++ after) left_then
came_join size left mid left_then is js after g h =
    let P : List Answer → Type 0 = λ answers. GaveAll size left answers left_then in
    subst P (sym (ap (λ (answers : List Answer). answers ++ after) (map-append (λ (t : ℕ × Input). comes t.0 t.1) is js)
    ∙ append_assoc (given_answers is) (given_answers js) after))
    (gave_all_more size left (given_answers is) mid (given_answers js ++ after) left_then g h)
