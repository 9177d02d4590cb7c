-- Who comes to the page, and who gives way.
use Rattle.std.proofs.Common.{◌≡◌, ◌∙◌, refl, sym, ap, subst, ℕ, ◌+◌, ◌-◌, ◌<◌, ◌≤◌, Bool, true, false, List, []}
use Rattle.std.proofs.Common.{◌∷◌, ◌++◌, length, arith}
use Rattle.std.specs.Prelude.{if◌then◌else◌, is_ok, OnErr, Result, Ok, Err}
use Rattle.std.proofs.lemmas.List.{append-nil, append_assoc, length-append, length-drop}
use Rattle.cue_web.specs.Admitting.{Admits, AreFresh, Come, newest}
use Rattle.cue_connection.specs.Connecting.{IsFresh}
use Rattle.cue_web.specs.declared.wire.Wire.{Wire}
use Rattle.cue_web.specs.declared.connections.TheConstants.{MAX_ADMITTED, MAX_CONNECTIONS}

-- So many came so far: they stand after those who were here, or were dropped; there is room for as many as there was.
pub record ComeSoFar (room room_now : ℕ) (here all : List Wire) (n : ℕ) : Type 0 where
  pub came : List Wire
  pub dropped : ℕ
  pub fresh : AreFresh came
  pub stand : all ≡ here ++ came
  pub kept : length here + MAX_ADMITTED ≤ room → dropped ≡ 0
  pub count : length came + dropped ≡ n
  pub roomy : room ≤ room_now

-- nobody came yet
pub come_none : (room : ℕ) (here : List Wire) → ComeSoFar room room here here 0
come_none room here =
    record {
      came = [];
      dropped = 0;
      fresh = tt;
      stand = sym (append-nil here);
      kept = λ enough. refl;
      count = refl;
      roomy = omega arith;
    }

fresh-more : (came : List Wire) (c : Wire) → AreFresh came → IsFresh c.connection → AreFresh (came ++ c ∷ [])
fresh-more [] c past is = (is, tt)
fresh-more (b ∷ came) c past is = (past.0, fresh-more came c past.1 is)

-- one more came
come-more : (room room_now room_then : ℕ) (here all : List Wire) (n : ℕ) (c : Wire)
    → ComeSoFar room room_now here all n → IsFresh c.connection → room_now ≤ room_then
    → ComeSoFar room room_then here (all ++ c ∷ []) (n + 1)
come-more room room_now room_then here all n c past is grown =
    record {
      came = past.came ++ c ∷ [];
      dropped = past.dropped;
      fresh = fresh-more past.came c past.fresh is;
      stand = ap (λ l. l ++ c ∷ []) past.stand ∙ append_assoc here past.came (c ∷ []);
      kept = past.kept;
      count = let e = past.count in let l = length-append past.came (c ∷ []) in omega arith;
      roomy = let e = past.roomy in omega arith;
    }

-- one more was dropped: there is no room for it
come-dropped : (room room_now room_then : ℕ) (here all : List Wire) (n : ℕ)
    → ComeSoFar room room_now here all n → n < MAX_ADMITTED → room_now ≤ length all → room_now ≤ room_then
    → ComeSoFar room room_then here all (n + 1)
come-dropped room room_now room_then here all n past more full grown =
    let long : length all ≡ length here + length past.came = ap length past.stand ∙ length-append here past.came in
    let e : length past.came + past.dropped ≡ n = past.count in
    let r : room ≤ room_now = past.roomy in
    record {
      came = past.came;
      dropped = past.dropped + 1;
      fresh = past.fresh;
      stand = past.stand;
      kept = λ enough. absurd (omega arith);
      count = omega arith;
      roomy = omega arith;
    }

-- the next one came, or was dropped
pub come_next : (room room_now room_then : ℕ) (here all all_then : List Wire) (n : ℕ) (c : Wire)
    (is_kept : Bool) → all_then ≡ (if is_kept then all ++ c ∷ [] else all)
    → (is_kept ≡ false → room_now ≤ length all) → room_now ≤ room_then → n < MAX_ADMITTED
    → ComeSoFar room room_now here all n → IsFresh c.connection → ComeSoFar room room_then here all_then (n + 1)
come_next room room_now room_then here all all_then n c true e full grown more past is =
    subst (λ (l : List Wire). ComeSoFar room room_then here l (n + 1)) (sym e)
    (come-more room room_now room_then here all n c past is grown)
come_next room room_now room_then here all all_then n c false e full grown more past is =
    subst (λ (l : List Wire). ComeSoFar room room_then here l (n + 1)) (sym e)
    (come-dropped room room_now room_then here all n past more (full refl) grown)

-- as many came as are taken in one round
pub come_all : (room room_now : ℕ) (here all : List Wire) (n : ℕ) → n ≤ MAX_ADMITTED → MAX_ADMITTED ≤ n
    → ComeSoFar room room_now here all n → Come room here all true
come_all room room_now here all n few many past =
    record {
      came = past.came;
      dropped = past.dropped;
      fresh = past.fresh;
      stand = past.stand;
      kept = past.kept;
      few = let e = past.count in omega arith;
      many = λ more. let e = past.count in omega arith;
    }

-- nobody waits any more
pub come_some : (room room_now : ℕ) (here all : List Wire) (n : ℕ) → n ≤ MAX_ADMITTED
    → ComeSoFar room room_now here all n → Come room here all false
come_some room room_now here all n few past =
    record {
      came = past.came;
      dropped = past.dropped;
      fresh = past.fresh;
      stand = past.stand;
      kept = past.kept;
      few = let e = past.count in omega arith;
      many = λ more. let e : false ≡ true = more in absurd cc;
    }

-- a push that failed found no room
pub full_if : {A E : Type 0} (r : Result A E) (p : Type 0) → OnErr r p → is_ok r ≡ false → p
full_if (Ok v) p full e = absurd cc
full_if (Err e) p full same = full

-- those who have waited longest give way
pub admits : (room : ℕ) (here all here_then : List Wire) (may_wait : Bool) → Come room here all may_wait
    → here_then ≡ newest all → Admits room here here_then may_wait
admits room here all here_then may_wait come stay = record { all = all; come = come; stay = stay }

-- then they are not too many
pub newest_few : (cs : List Wire) → length (newest cs) ≤ MAX_CONNECTIONS
newest_few cs = let l = length-drop (length cs - MAX_CONNECTIONS) cs in omega arith
