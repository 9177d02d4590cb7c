-- How many lines a board has, and that they have room.
use Rattle.std.proofs.Common.{◌≡◌, ◌≤◌, ◌+◌, ◌-◌, ◌/◌, ◌⊎◌, ◌==◌, ◌&&◌, ℕ, zero, suc, Bool, true, false, cond, min}
use Rattle.std.proofs.Common.{List, [], ◌∷◌, ◌++◌, map, length, drop, take, Option, None, Some, nat_le}
use Rattle.std.proofs.Common.{if◌then◌else◌, inl, inr, refl, sym, ap, subst, arith, is_some, length-append}
use Rattle.std.specs.Prelude.{String, string_bytes}
use Rattle.std.specs.declared.alloc.Global.{Global}
use Rattle.std.specs.List.{count_by, flat_map}
use Rattle.std.proofs.lemmas.Bool.{leb-true, ne_eqb}
use Rattle.std.proofs.lemmas.List.{length-map, length-take}
use Rattle.std.proofs.lemmas.List.Elements.{All-take}
use Rattle.std.proofs.lemmas.List.Sums.{sum_by-cons}
use Rattle.cue_exchange.specs.declared.attempt.DeviceAnswer.{DeviceAnswer}
use Rattle.cue_view.specs.declared.view.Alarm.{Alarm}
use Rattle.cue_view.specs.declared.view.Alarm.TheVariants as alarm
use Rattle.cue_view.specs.declared.view.Contacted.{Contacted}
use Rattle.cue_view.specs.declared.view.LiveAttempt.{LiveAttempt}
use Rattle.cue_view.specs.declared.view.Told.{Told}
use Rattle.cue_view.specs.declared.view.View.{View}
use Rattle.cue_show_file.specs.declared.together.Group.{Group}
use Rattle.cue_columns.proofs.ColumnLemmas.{are_fit_append}
use Rattle.cue_columns.specs.Columns.{AreFit, IsFit}
use Rattle.cue_columns.specs.declared.columns.TheConstants.{COLUMNS}
use Rattle.cue_board.specs.declared.board.TheConstants.{CLAIMED}
use Rattle.cue_board.specs.declared.line.BoardLine.{BoardLine}
use Rattle.cue_board.specs.declared.names.Names.{Names}
use Rattle.cue_board.specs.declared.stack.TheConstants.{ALWAYS, SHOWN}
use Rattle.cue_board.specs.Board.{Begin, HasRoom, alarm_said, alarm_says, alarm_takes, around, attempt_lines}
use Rattle.cue_board.specs.Board.{before_place, board_brief, board_said, board_with, called, called_takes, claims_within}
use Rattle.cue_board.specs.Board.{cue_said, cues_beside, cues_in, cues_within, device_said, ends_said, fault_says}
use Rattle.cue_board.specs.Board.{fault_takes, holds_back, is_owed, live_of, live_said, loudest, owed_line, owed_said}
use Rattle.cue_board.specs.Board.{owed_takes, owed_words, read_said, room_after, room_beside_live, said_of, says_takes}
use Rattle.cue_board.specs.Board.{stack_said, text_of}
use Rattle.cue_board.specs.Claims.{answer_says, has_answer_said, has_said, is_failed, reason_of, says_lines, says_or_none}
use Rattle.cue_board.specs.Ends.{excused_said, failed_lines, last_said, last_takes}

-- ---- the alarm

-- what moves by itself has a line for each cue that is owed
length-owed : (live : List LiveAttempt) → length (flat_map owed_line live) ≡ count_by is_owed live
unfolding owed_line
length-owed [] = refl
length-owed (a ∷ live) =
    let one : length (owed_line a) ≡ cond (is_owed a) 1 0 = by (is_owed a) in
    omega (
      arith,
      one,
      length-owed live,
      length-append (owed_line a) (flat_map owed_line live),
      sum_by-cons (λ (x : LiveAttempt). cond (is_owed x) 1 0) a live,
    )
  where
    by : (b : Bool) → length (if b then owed_words a ∷ [] else []) ≡ cond b 1 0
    by true = refl
    by false = refl

length-owed_said : (a : Alarm) (live : List LiveAttempt) → length (owed_said a live) ≡ owed_takes a live
length-owed_said a live = by (holds_back a)
  where
    by : (b : Bool) → length (if b then flat_map owed_line live else []) ≡ (if b then count_by is_owed live else 0)
    by true = length-owed live
    by false = refl

-- ---- what devices say

length-says : (network : List Contacted) (q d : ℕ)
    → length (says_lines network q d) ≡ cond (has_said network q d) 1 0
unfolding says_lines has_said
length-says network q d = by (reason_of network q d)
  where
    by : (words : Option (List ℕ)) → length (says_or_none d words) ≡ cond (is_some words) 1 0
    by None = refl
    by (Some words) = refl

length-answer : (network : List Contacted) (q : ℕ) (a : DeviceAnswer)
    → length (answer_says network q a) ≡ cond (has_answer_said network q a) 1 0
unfolding answer_says has_answer_said
length-answer network q a = by (is_failed a.answer)
  where
    by : (b : Bool)
        → length (if b then says_lines network q a.device else []) ≡ cond (b && has_said network q a.device) 1 0
    by true = length-says network q a.device
    by false = refl

length-answers : (network : List Contacted) (q : ℕ) (answers : List DeviceAnswer)
    → length (flat_map (answer_says network q) answers) ≡ count_by (has_answer_said network q) answers
length-answers network q [] = refl
length-answers network q (a ∷ answers) =
    omega (
      arith,
      length-answer network q a,
      length-answers network q answers,
      length-append (answer_says network q a) (flat_map (answer_says network q) answers),
      sum_by-cons (λ (x : DeviceAnswer). cond (has_answer_said network q x) 1 0) a answers,
    )

length-fault : (network : List Contacted) (live : Option LiveAttempt)
    → length (fault_says network live) ≡ fault_takes network live
length-fault network None = refl
length-fault network (Some a) = length-answers network a.seq a.devices

length-alarm_says : (v : View) (a : Alarm) → length (alarm_says v a) ≡ says_takes v a
length-alarm_says v (alarm.Failed q) = length-fault v.network.items (live_of q v.live.items)
length-alarm_says v alarm.NobodyListens = refl
length-alarm_says v (alarm.Silent asked) = refl
length-alarm_says v (alarm.OtherStore since) = refl
length-alarm_says v (alarm.NotShown since) = refl
length-alarm_says v (alarm.RelayStopped since) = refl
length-alarm_says v (alarm.Unread why) = refl
length-alarm_says v (alarm.Old read) = refl
length-alarm_says v (alarm.ClockPutBack q) = refl
length-alarm_says v (alarm.DeviceSilent d) = refl

length-called : (port : ℕ) (v : View) (a : Option Alarm) → length (called port v a) ≡ called_takes v a
length-called port v None = refl
length-called port v (Some a) =
    omega (
      arith,
      length-owed_said a v.live.items,
      length-alarm_says v a,
      length-append (owed_said a v.live.items) (alarm_says v a),
    )

-- ---- the attempt that ended last

length-failed : (names : Names) (network : List Contacted) (t : Told) (ds : List ℕ)
    → length (flat_map (failed_lines names network t) ds) ≡ length ds + count_by (has_said network t.seq) ds
length-failed names network t [] = refl
length-failed names network t (d ∷ ds) =
    omega (
      arith,
      length-says network t.seq d,
      length-failed names network t ds,
      length-append (failed_lines names network t d) (flat_map (failed_lines names network t) ds),
      sum_by-cons (λ (x : ℕ). cond (has_said network t.seq x) 1 0) d ds,
    )

length-last : (names : Names) (network : List Contacted) (last : Option Told)
    → length (last_said names network last) ≡ last_takes network last
length-last names network None = refl
length-last names network (Some t) =
    let failed = flat_map (failed_lines names network t) t.failed in
    let excused = map (excused_said names) t.excused in
    omega (
      arith,
      length-append failed excused,
      length-failed names network t t.failed,
      length-map t.excused (excused_said names),
    )

-- ---- the stack

few-stack : (shown : ℕ) (groups : List Group) (v : View) → length (stack_said shown groups v) ≤ 3 + shown
few-stack shown groups v =
    omega (
      arith,
      length-map (around shown v.place v.stack.items) (cue_said v.place),
      length-take shown (drop (before_place v.place v.stack.items - shown / 3) v.stack.items),
    )

-- ---- the live attempts

after-is : (v : View) (room : ℕ) (live : List LiveAttempt)
    → room_after room live ≡ room - length (flat_map (attempt_lines v) live)
after-is v room [] = omega arith
after-is v room (a ∷ live) =
    omega (
      arith,
      after-is v (room - 1 - length a.devices) live,
      length-map a.devices device_said,
      length-append (attempt_lines v a) (flat_map (attempt_lines v) live),
    )

beside-is : (v : View) (room : ℕ) (live : List LiveAttempt)
    → room_beside_live room live ≡ room - length (live_said v live)
beside-is v room [] = refl
beside-is v room (a ∷ live) = after-is v room (a ∷ live)

-- ---- the whole

few-within : (room : ℕ) (live : List LiveAttempt) → cues_within room live ≤ room_beside_live (room - ALWAYS) live
few-within room live = by (nat_le SHOWN left) refl
  where
    left : ℕ
    left = room_beside_live (room - ALWAYS) live

    by : (b : Bool) → nat_le SHOWN left ≡ b → (if b then SHOWN else left) ≤ left
    by true e = leb-true SHOWN left e
    by false e = omega arith

few-with : (shown : ℕ) (names : Names) (v : View)
    → length (board_with shown names v)
    ≤ alarm_takes v + (3 + shown) + length (live_said v v.live.items) + (last_takes v.network.items v.last + 1)
few-with shown names v =
    let alarm = alarm_said names.port v in
    let stack = stack_said shown names.together.now v in
    let live = live_said v v.live.items in
    let ends = ends_said names v in
    omega (
      arith,
      length-append alarm (stack ++ (live ++ ends)),
      length-append stack (live ++ ends),
      length-append live ends,
      length-append (last_said names v.network.items v.last) (read_said v ∷ []),
      length-called names.port v (loudest v),
      few-stack shown names.together.now v,
      length-last names v.network.items v.last,
    )

-- a board that shows a cue has room
fits : (room heard claims shown : ℕ) (names : Names) (v : View) → suc shown ≡ cues_in (Some room) v heard claims
    → length (board_with (suc shown) names v) + heard ≤ room
fits room heard claims shown names v e =
    let under = room - heard - claims - alarm_takes v - last_takes v.network.items v.last in
    omega (
      arith,
      e,
      few-within under v.live.items,
      beside-is v (under - ALWAYS) v.live.items,
      few-with (suc shown) names v,
    )

-- whether or not it has room for claims, too
fits_beside : (room heard claims shown : ℕ) (names : Names) (v : View)
    → suc shown ≡ cues_beside (Some room) v heard claims → length (board_with (suc shown) names v) + heard ≤ room
fits_beside room heard claims shown names v e = by (cues_in (Some room) v heard (min claims CLAIMED) == 0) e
  where
    few : ℕ
    few = min claims CLAIMED

    by : (b : Bool)
        → suc shown ≡ (if b then cues_in (Some room) v heard 0 else cues_in (Some room) v heard few)
        → length (board_with (suc shown) names v) + heard ≤ room
    by true h = fits room heard 0 shown names v h
    by false h = fits room heard few shown names v h

-- the claims have room beside the other lines
within : (room lines heard claims : ℕ) → lines + heard ≤ room
    → lines + (heard + claims_within (Some room) lines heard claims) ≤ room
within room lines heard claims h = grind arith

-- the lines of a board have room, or it shows no cue
pub has_room : (room : Option ℕ) (names : Names) (v : View) (shown heard claims : ℕ) (lines : List BoardLine)
    (all : List (String Global)) → shown ≡ cues_beside room v heard claims
    → map said_of lines ≡ board_said shown names v
    → length all ≡ length lines + (heard + claims_within room (length lines) heard claims)
    → Begin (map said_of lines) (map string_bytes all) → HasRoom room names v (map string_bytes all)
has_room None names v shown heard claims lines all few said count begin = tt
has_room (Some room) names v zero heard claims lines all few said count begin =
    inr (subst (λ fronts. Begin fronts (map string_bytes all)) said begin)
has_room (Some room) names v (suc shown) heard claims lines all few said count begin =
    let some : (suc shown == 0) ≡ false = ne_eqb (suc shown) 0 (λ e. absurd (omega arith)) in
    let P : Bool → Type 0 = λ b. length (map said_of lines)
    ≡ length (if b then board_brief names v else board_with (suc shown) names v) in
    let fronts : length (map said_of lines) ≡ length (board_with (suc shown) names v) = subst P some (ap length said) in
    let whole : length lines + heard ≤ room =
    omega (arith, fits_beside room heard claims shown names v few, fronts, length-map lines said_of) in
    inl (omega (
      arith,
      within room (length lines) heard claims whole,
      count,
      length-map all string_bytes,
    ))

-- as many lines as are drawn, and those of a relay
pub count_drawn : (lines : List BoardLine) (texts heard all : List (String Global))
    → map string_bytes texts ≡ map text_of lines → all ≡ texts ++ heard → length all ≡ length lines + length heard
count_drawn lines texts heard all same whole =
    let one : length (map string_bytes texts) ≡ length (map text_of lines) = ap length same in
    let two : length all ≡ length (texts ++ heard) = ap length whole in
    omega (arith, one, two, length-append texts heard, length-map texts string_bytes, length-map lines text_of)

-- lines that fit, and the first ones of others that do
pub are_fit_few : (n : ℕ) (heard claims few all : List (String Global)) → AreFit heard → AreFit claims
    → few ≡ take n claims → all ≡ heard ++ few → AreFit all
are_fit_few n heard claims few all h k first whole =
    let P : String Global → Type 0 = λ l. IsFit COLUMNS (string_bytes l) in
    are_fit_append heard few all h (subst AreFit (sym first) (All-take P n claims k)) whole
