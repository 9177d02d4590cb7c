-- A medium knows what it held before its last change, and so at each moment.
use Rattle.std.proofs.Common.{◌≡◌, ℕ, ◌+◌, ◌-◌, ◌<◌, ◌≤◌, min, max, List, [], ◌∷◌, ◌++◌, length, get_or, take, drop}
use Rattle.std.proofs.Common.{refl, ◌∙◌, ap, subst, ⊎_elim, arith}
use Rattle.std.proofs.lemmas.List.{drop_all, drop-append-le, take_all, take-append-le, length_push, length-take}
use Rattle.std.proofs.lemmas.List.{length-drop, get_or-take, get_or-drop, ext_get_or}
use Rattle.std.proofs.lemmas.Bool.{cases_lt}
use Rattle.cue_disk.specs.Disk.{Elapses, overwritten_bytes}
use Rattle.cue_disk.specs.Medium.{State, contents, undone, rewound, restored_bytes, UndoesWrites}
use Rattle.cue_disk.specs.declared.medium.Change.{Change}
use Rattle.cue_disk.specs.declared.medium.Change.TheVariants.{Wrote}
use Rattle.std.specs.declared.vec.Vec.{Vec}
use Rattle.std.specs.declared.alloc.Global.{Global}
use Rattle.cue_disk.proofs.CrashLemmas.{length-overwritten, overwritten_front, overwritten_within, overwritten_behind}

-- the last change is undone first
rewound_push : (now : State) (changes : List Change) (change : Change)
    → rewound now (changes ++ change ∷ []) ≡ rewound (undone change now) changes
rewound_push now [] change = refl
rewound_push now (first ∷ changes) change = ap (undone first) (rewound_push now changes change)

-- Time goes on by one change, and what was held before it stays known.
pub pushed : (old new : State) (before after : List Change) (change : Change) → after ≡ before ++ change ∷ []
    → undone change new ≡ old
    → Elapses (length before) (length after) (λ k. contents (rewound old (drop k before)) (take k before))
    (λ k. contents (rewound new (drop k after)) (take k after)) (contents new after)
pushed old new before after change push back =
    let long : length after ≡ length before + 1 = ap length push ∙ length_push before change in
    record {
      later = omega arith;
      same = λ k le.
          ap (λ (l : List Change). contents (rewound new (drop k l)) (take k l)) push
          ∙ ap (contents (rewound new (drop k (before ++ change ∷ [])))) (take-append-le k before (change ∷ []) le)
          ∙ ap (λ (s : State). contents s (take k before))
          (ap (rewound new) (drop-append-le k before (change ∷ []) le)
          ∙ rewound_push new (drop k before) change
          ∙ ap (λ (s : State). rewound s (drop k before)) back);
      rest = λ k past le.
          ap (λ (l : List Change). contents (rewound new l) (take k after)) (drop_all k after (omega arith))
          ∙ ap (contents new) (take_all k after (omega arith));
    }

-- What was kept of a written range, put back, makes the bytes as they were.
pub restored_overwritten : (old new kept : List ℕ) (at n : ℕ) → at ≤ length old → length new ≤ n
    → kept ≡ take (min n (length old - at)) (drop at old)
    → restored_bytes (overwritten_bytes old at new) at kept (length old) ≡ old
restored_overwritten old new kept at n room fits keeps =
    let mid = overwritten_bytes old at new in
    let back = overwritten_bytes mid at kept in
    let mid_long : length mid ≡ max (length old) (at + length new) = length-overwritten old new at room in
    let room_mid : at ≤ length mid = omega arith in
    let long : length kept ≡ min n (length old - at) =
    omega (arith, ap length keeps, length-take (min n (length old - at)) (drop at old), length-drop at old) in
    let back_long : length back ≡ max (length mid) (at + length kept) = length-overwritten mid kept at room_mid in
    ext_get_or 0 (take (length old) back) old
    (omega (arith, length-take (length old) back))
    (λ i less.
    let within : i < length old = omega (arith, less, length-take (length old) back) in
    get_or-take (length old) back i 0 within
    ∙ ⊎_elim
    (λ (low : i < at). overwritten_front mid kept at i room_mid low ∙ overwritten_front old new at i room low)
    (λ (high : at ≤ i).
    ⊎_elim
    (λ (inside : i - at < length kept).
    let there : at + (i - at) ≡ i = omega arith in
    subst (λ (k : ℕ). get_or back k 0 ≡ get_or old k 0) there
    (overwritten_within mid kept at (i - at) room_mid inside
    ∙ ap (λ (l : List ℕ). get_or l (i - at) 0) keeps
    ∙ get_or-take (min n (length old - at)) (drop at old) (i - at) 0 (omega arith)
    ∙ get_or-drop at old (i - at) 0))
    (λ (past : length kept ≤ i - at).
    overwritten_behind mid kept at i room_mid (omega arith) ∙ overwritten_behind old new at i room (omega arith))
    (cases_lt (i - at) (length kept)))
    (cases_lt i at))

-- What was kept of a range of the bytes undoes each write there.
pub kept_undoes : (state : State) (at asked count len : ℕ) (bytes : Vec ℕ Global) → at ≤ length state.bytes
    → len ≡ length state.bytes → count ≡ min asked (length state.bytes - at)
    → bytes.items ≡ take count (drop at state.bytes) → UndoesWrites (Wrote at asked bytes len) at asked state
kept_undoes state at asked count len bytes room is_len is_count is_bytes stored few =
    let back : restored_bytes (overwritten_bytes state.bytes at stored) at bytes.items len ≡ state.bytes =
    ap (λ (n : ℕ). restored_bytes (overwritten_bytes state.bytes at stored) at bytes.items n) is_len
    ∙ restored_overwritten state.bytes stored bytes.items at asked room few (is_bytes
    ∙ ap (λ (n : ℕ). take n (drop at state.bytes)) is_count) in
    λ j. record state { bytes = back j }
