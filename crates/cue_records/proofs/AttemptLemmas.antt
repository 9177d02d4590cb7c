-- Attempts: what is read is spelled so and fits, and is read again.
use Rattle.std.proofs.Common.{◌≡◌, ℕ, ◌<◌, ◌≤◌, Bool, true, false, ◌&&◌, List, [], ◌∷◌, ◌++◌, length, Option, Some}
use Rattle.std.proofs.Common.{None, IsTrue, nat_eq, nat_le, nat_lt, refl, sym, ap, subst, ◌∙◌, append_assoc, arith}
use Rattle.std.specs.Option.{option_map_or}
use Rattle.std.specs.List.{list_all}
use Rattle.std.specs.Bool.{beq}
use Rattle.std.specs.Cmp.{bool_eq_equiv, booleans_Decides}
use Rattle.std.proofs.lemmas.Bool.{le-leb, ltb-true, le-ltb}
use Rattle.cue_show.specs.Bytes.{are_bytes}
use Rattle.cue_show.specs.Devices.{disjoint}
use Rattle.cue_show.specs.Number.{is_cue_number}
use Rattle.cue_show.specs.Show.{ShowLists, parts_of}
use Rattle.cue_show.specs.declared.part.Part.{Part}
use Rattle.cue_exchange.specs.Answers.{devices_of}
use Rattle.cue_exchange.specs.Live.{is_number, is_time, are_live, goes_before}
use Rattle.cue_exchange.specs.Steps.{are_below, can_put, with_attempt}
use Rattle.cue_exchange.specs.declared.attempt.Answer.{Answer}
use Rattle.cue_exchange.specs.declared.attempt.Answer.TheVariants as answer
use Rattle.cue_exchange.specs.declared.attempt.Attempt.{Attempt}
use Rattle.cue_exchange.specs.declared.attempt.DeviceAnswer.{DeviceAnswer}
use Rattle.cue_exchange.specs.declared.attempt.Reason.TheVariants.{Operator, Deadline, Abort, Power, Release}
use Rattle.cue_exchange.specs.declared.attempt.Stage.{Stage}
use Rattle.cue_exchange.specs.declared.attempt.Stage.TheVariants.{Preparing, Decided, Cancelling}
use Rattle.cue_exchange.specs.declared.limits.TheConstants.{MAX_LIVE}
use Rattle.cue_exchange.proofs.ListLemmas.{all_weaker, before_next}
use Rattle.cue_exchange.proofs.LiveLemmas.{order_of}
use Rattle.cue_exchange.proofs.RisingLemmas.{can_put-next}
use Rattle.cue_core.specs.State.{is_of_part, are_of_parts, is_at_cue}
use Rattle.cue_core.proofs.lists.ConditionLemmas.{both, join, same_number, same_self}
use Rattle.cue_records.specs.Fields.{byte_text, number_text, time_text, text_text}
use Rattle.cue_records.specs.State.{stage_number, answer_number, answers_text, attempt_text, live_text}
use Rattle.cue_records.specs.Reading.{◌>>=◌}
use Rattle.cue_records.specs.StateReading.{stage_of, stage_at, answer_of, one_answer_at, answers_at, head_at}
use Rattle.cue_records.specs.StateReading.{attempt_at, can_follow, attempt_step, live_at}
use Rattle.cue_records.proofs.AfterwardsLemmas.{all_here}
use Rattle.cue_records.proofs.FieldLemmas.{byte_field, step_number, sequence_field, time_field, cue_field}
use Rattle.cue_records.proofs.FoldLemmas.{IsMade, counted_takes, counted_again}
use Rattle.cue_records.proofs.TakingLemmas.{Takes, IsField, bind_some, some_is, bytes_behind, made_field, both_field}

-- ---- stages

stage_numbered : (n : ℕ) (s : Stage) → stage_of n ≡ Some s → stage_number s ≡ n
stage_numbered n =
    step_number stage_number n 1 Preparing _ refl
    (step_number stage_number n 2 Decided _ refl
    (step_number stage_number n 3 (Cancelling Operator) _ refl
    (step_number stage_number n 4 (Cancelling Deadline) _ refl
    (step_number stage_number n 5 (Cancelling Abort) _ refl
    (step_number stage_number n 6 (Cancelling Power) _ refl
    (step_number stage_number n 7 (Cancelling Release) None refl (λ s e. absurd cc)))))))

stage_again : (s : Stage) → stage_of (stage_number s) ≡ Some s
stage_again Preparing = refl
stage_again Decided = refl
stage_again (Cancelling Operator) = refl
stage_again (Cancelling Deadline) = refl
stage_again (Cancelling Abort) = refl
stage_again (Cancelling Power) = refl
stage_again (Cancelling Release) = refl

stage_byte : (s : Stage) → IsTrue (nat_le (stage_number s) 255)
stage_byte Preparing = refl
stage_byte Decided = refl
stage_byte (Cancelling Operator) = refl
stage_byte (Cancelling Deadline) = refl
stage_byte (Cancelling Abort) = refl
stage_byte (Cancelling Power) = refl
stage_byte (Cancelling Release) = refl

stage_field : IsField stage_at (λ s. byte_text (stage_number s)) (λ s. true)
unfolding stage_at
stage_field = made_field stage_of stage_number (λ s. true) byte_field (λ n s h e. (stage_numbered n s e, refl))
    (λ s h. stage_again s) (λ s h. stage_byte s)

-- ---- answers

answer_numbered : (n : ℕ) (a : Answer) → answer_of n ≡ Some a → answer_number a ≡ n
answer_numbered n =
    step_number answer_number n 0 answer.Waiting _ refl
    (step_number answer_number n 1 answer.Ready _ refl
    (step_number answer_number n 2 answer.Done _ refl
    (step_number answer_number n 3 answer.LetGo _ refl
    (step_number answer_number n 4 answer.Failed _ refl
    (step_number answer_number n 5 answer.Excused None refl (λ a e. absurd cc))))))

answer_again : (a : Answer) → answer_of (answer_number a) ≡ Some a
answer_again answer.Waiting = refl
answer_again answer.Ready = refl
answer_again answer.Done = refl
answer_again answer.LetGo = refl
answer_again answer.Failed = refl
answer_again answer.Excused = refl

answer_byte : (a : Answer) → IsTrue (nat_le (answer_number a) 255)
answer_byte answer.Waiting = refl
answer_byte answer.Ready = refl
answer_byte answer.Done = refl
answer_byte answer.LetGo = refl
answer_byte answer.Failed = refl
answer_byte answer.Excused = refl

answer_field : IsField one_answer_at (λ a. byte_text (answer_number a)) (λ a. true)
unfolding one_answer_at
answer_field = made_field answer_of answer_number (λ a. true) byte_field (λ n a h e. (answer_numbered n a e, refl))
    (λ a h. answer_again a) (λ a h. answer_byte a)

-- an answer for the device of each part was taken
abbrev TakesAnswers : List Part → List ℕ → List DeviceAnswer × List ℕ → Type 0
TakesAnswers ps bytes y = (bytes ≡ answers_text y.0 ++ y.1) × IsTrue (are_of_parts ps y.0)

-- the device of a part, with an answer
abbrev answering : Part → Answer → DeviceAnswer
answering p a = record { device = p.device; optional = p.optional; answer = a }

answering_is : (p : Part) (a : Answer) → IsTrue (is_of_part p (answering p a))
answering_is p a = join (nat_eq p.device p.device) (beq p.optional p.optional) (same_self p.device)
    (bool_eq_equiv.refl p.optional)

is_answering : (p : Part) (x : DeviceAnswer) → IsTrue (is_of_part p x) → answering p x.answer ≡ x
is_answering p x h =
    let k = both (nat_eq p.device x.device) (beq p.optional x.optional) h in
    let device : p.device ≡ x.device = same_number p.device x.device k.0 in
    let optional : p.optional ≡ x.optional = (booleans_Decides p.optional x.optional).0 k.1 in
    ap (λ d. record { device = d; optional = p.optional; answer = x.answer }) device
    ∙ ap (λ o. record { device = x.device; optional = o; answer = x.answer }) optional

answers_take : (ps : List Part) (bytes : List ℕ) (y : List DeviceAnswer × List ℕ) → IsTrue (are_bytes bytes)
    → answers_at ps bytes ≡ Some y → TakesAnswers ps bytes y
unfolding answers_at
answers_take [] bytes y b e = subst (TakesAnswers [] bytes) (some_is ([], bytes) y e) (refl, refl)
answers_take (p ∷ ps) bytes y b e =
    let a = bind_some (one_answer_at bytes) (λ a. answers_at ps a.1 >>= λ xs. Some (answering p a.0 ∷ xs.0, xs.1)) y
    e in
    let m = bind_some (answers_at ps a.0.1) (λ xs. Some (answering p a.0.0 ∷ xs.0, xs.1)) y a.2 in
    let t = answer_field.takes bytes a.0 b a.1 in
    let u = answers_take ps a.0.1 m.0 (bytes_behind bytes (byte_text (answer_number a.0.0)) a.0.1 t.0 b) m.1 in
    let made : List DeviceAnswer × List ℕ = (answering p a.0.0 ∷ m.0.0, m.0.1) in
    subst (TakesAnswers (p ∷ ps) bytes) (some_is made y m.2) (
      t.0
          ∙ ap (λ bs. answer_number a.0.0 ∷ bs) u.0,
      join (is_of_part p (answering p a.0.0)) (are_of_parts ps m.0.0)
          (answering_is p a.0.0) u.1,
    )

answers_again : (xs : List DeviceAnswer) (ps : List Part) (rest : List ℕ) → IsTrue (are_of_parts ps xs)
    → answers_at ps (answers_text xs ++ rest) ≡ Some (xs, rest)
unfolding answers_at
answers_again [] [] rest e = refl
answers_again [] (p ∷ ps) rest e = absurd cc
answers_again (x ∷ xs) [] rest e = absurd cc
answers_again (x ∷ xs) (p ∷ ps) rest e =
    let k = both (is_of_part p x) (are_of_parts ps xs) e in
    rw (answer_field.again x.answer (answers_text xs ++ rest) refl, answers_again xs ps rest k.1)
    (ap (λ z. Some (z ∷ xs, rest)) (is_answering p x k.0))

-- ---- attempts

-- what stands before the answers
abbrev head_text : ℕ × (List ℕ × (ℕ × Stage)) → List ℕ
head_text h = number_text h.0 ++ (text_text h.1.0 ++ (time_text h.1.1.0 ++ byte_text (stage_number h.1.1.1)))

abbrev head_fits : ℕ × (List ℕ × (ℕ × Stage)) → Bool
head_fits h = is_number h.0 && (is_cue_number h.1.0 && (is_time h.1.1.0 && true))

head_field : IsField head_at head_text head_fits
unfolding head_at
head_field = both_field sequence_field (both_field cue_field (both_field time_field stage_field))

-- the attempt has a text, where the cues are those of the show
abbrev pub attempt_fits : ShowLists → Attempt → Bool
attempt_fits show a = head_fits (a.seq, (a.cue, (a.deadline, a.stage))) && is_at_cue show a

grouped : (a b c d e rest : List ℕ) → (a ++ (b ++ (c ++ d))) ++ (e ++ rest) ≡ (a ++ (b ++ (c ++ (d ++ e)))) ++ rest
grouped a b c d e rest = simp append_assoc

-- an attempt of these parts
abbrev attempt_of : ℕ × (List ℕ × (ℕ × Stage)) → List DeviceAnswer → Attempt
attempt_of h xs = record { seq = h.0; cue = h.1.0; deadline = h.1.1.0; stage = h.1.1.1; answers = xs }

-- the devices are those of the parts
at_parts : (o : Option (List Part)) (ps : List Part) (xs : List DeviceAnswer) → o ≡ Some ps
    → IsTrue (are_of_parts ps xs) → IsTrue (option_map_or (λ parts. are_of_parts parts xs) o false)
at_parts o ps xs e h = rw e h

attempt_takes : (show : ShowLists) (bytes : List ℕ) (y : Attempt × List ℕ) → IsTrue (are_bytes bytes)
    → attempt_at show bytes ≡ Some y → Takes attempt_text (attempt_fits show) bytes y
unfolding attempt_at
attempt_takes show bytes y b e =
    let s = bind_some (head_at bytes) (λ h. parts_of show h.0.1.0 >>= λ ps. answers_at ps h.1 >>= λ xs.
    Some (attempt_of h.0 xs.0, xs.1)) y e in
    let h = s.0.0 in
    let p = bind_some (parts_of show h.1.0) (λ ps. answers_at ps s.0.1 >>= λ xs. Some (attempt_of h xs.0, xs.1)) y
    s.2 in
    let m = bind_some (answers_at p.0 s.0.1) (λ xs. Some (attempt_of h xs.0, xs.1)) y p.2 in
    let t = head_field.takes bytes s.0 b s.1 in
    let u = answers_take p.0 s.0.1 m.0 (bytes_behind bytes (head_text h) s.0.1 t.0 b) m.1 in
    let xs = m.0.0 in
    let parts : bytes ≡ attempt_text (attempt_of h xs) ++ m.0.1 =
    t.0 ∙ ap (λ bs. head_text h ++ bs) u.0
    ∙ grouped (number_text h.0) (text_text h.1.0) (time_text h.1.1.0) (byte_text (stage_number h.1.1.1))
    (answers_text xs) m.0.1 in
    let at : IsTrue (is_at_cue show (attempt_of h xs)) = at_parts (parts_of show h.1.0) p.0 xs p.1 u.1 in
    subst (Takes attempt_text (attempt_fits show) bytes) (some_is (attempt_of h xs, m.0.1) y m.2)
    (parts, join (head_fits h) (is_at_cue show (attempt_of h xs)) t.1 at)

pub parts_found : (show : ShowLists) (a : Attempt) → IsTrue (is_at_cue show a)
    → (ps : List Part) × (parts_of show a.cue ≡ Some ps) × IsTrue (are_of_parts ps a.answers)
parts_found show a h = by (parts_of show a.cue) h
  where
    by : (o : Option (List Part)) → IsTrue (option_map_or (λ parts. are_of_parts parts a.answers) o false)
        → (ps : List Part) × (o ≡ Some ps) × IsTrue (are_of_parts ps a.answers)
    by None h = absurd cc
    by (Some ps) h = (ps, refl, h)

attempt_again : (show : ShowLists) (a : Attempt) (rest : List ℕ) → IsTrue (attempt_fits show a)
    → attempt_at show (attempt_text a ++ rest) ≡ Some (a, rest)
unfolding attempt_at
attempt_again show a rest h =
    let head : ℕ × (List ℕ × (ℕ × Stage)) = (a.seq, (a.cue, (a.deadline, a.stage))) in
    let k = both (head_fits head) (is_at_cue show a) h in
    let p = parts_found show a k.1 in
    let regrouped : attempt_text a ++ rest ≡ head_text head ++ (answers_text a.answers ++ rest) =
    sym (grouped (number_text a.seq) (text_text a.cue) (time_text a.deadline) (byte_text (stage_number a.stage))
    (answers_text a.answers) rest) in
    ap (attempt_at show) regrouped
    ∙ rw (head_field.again head (answers_text a.answers ++ rest) k.0, p.1, answers_again a.answers p.0 rest p.2)
    refl

pub attempt_field : (show : ShowLists) → IsField (attempt_at show) attempt_text (attempt_fits show)
attempt_field show = record { takes = attempt_takes show; again = attempt_again show }

-- ---- the live ones

-- attempts that may be live, each at a cue of the show
abbrev pub are_live_at : ShowLists → List Attempt → Bool
are_live_at show live = are_live live && list_all (attempt_fits show) live

put_last : (a : Attempt) (live : List Attempt) → IsTrue (are_below a.seq live) → with_attempt a live ≡ live ++ a ∷ []
put_last a [] h = refl
put_last a (b ∷ bs) h =
    let p = both (nat_lt b.seq a.seq) (are_below a.seq bs) h in
    let lt : b.seq < a.seq = ltb-true b.seq a.seq p.0 in
    rw (le-ltb a.seq b.seq (omega arith)) (ap (λ xs. b ∷ xs) (put_last a bs p.1))

live_allow : (show : ShowLists) (ys zs : List Attempt) (a : Attempt) → IsTrue (are_live_at show (ys ++ a ∷ zs))
    → IsTrue (can_follow ys a)
live_allow show ys zs a h =
    let live = (both (are_live (ys ++ a ∷ zs)) (list_all (attempt_fits show) (ys ++ a ∷ zs)) h).0 in
    let before = before_next goes_before ys zs a (order_of (ys ++ a ∷ zs) live) in
    let below = all_weaker (λ b. goes_before b a) (λ b. nat_lt b.seq a.seq)
    (λ b k. (both (nat_lt b.seq a.seq) (disjoint (devices_of b.answers) (devices_of a.answers)) k).0) ys before in
    join (are_below a.seq ys) (can_put a ys) below (can_put-next ys zs a live)

live_made : (show : ShowLists) → IsMade can_follow (λ live a. with_attempt a live) (λ live. live) (attempt_fits show)
    (are_live_at show)
live_made show = record {
  grows = λ live a may. put_last a live (both (are_below a.seq live) (can_put a live) may).0;
  allows = live_allow show;
  fitting = λ ys zs a h. all_here (attempt_fits show) ys zs a
      (both (are_live (ys ++ a ∷ zs)) (list_all (attempt_fits show) (ys ++ a ∷ zs)) h).1;
}

pub live_takes : (show : ShowLists) (bytes : List ℕ) (y : List Attempt × List ℕ) → IsTrue (are_bytes bytes)
    → live_at show [] bytes ≡ Some y → bytes ≡ live_text y.0 ++ y.1
unfolding live_at attempt_step
live_takes show bytes y b e =
    let t = counted_takes byte_field (attempt_field show) (live_made show) bytes y b e in
    t.1 ∙ ap (λ live. live_text live ++ y.1) (sym t.2)

pub live_again : (show : ShowLists) (live : List Attempt) (rest : List ℕ) → length live ≤ MAX_LIVE
    → IsTrue (are_live_at show live) → live_at show [] (live_text live ++ rest) ≡ Some (live, rest)
unfolding live_at attempt_step
live_again show live rest few h = counted_again byte_field (attempt_field show) (live_made show) live rest
    (le-leb (length live) 255 (omega arith)) h
