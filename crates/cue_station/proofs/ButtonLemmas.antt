-- Two buttons are the same exactly if they are equal.
use Rattle.std.proofs.Common.{◌≡◌, ap, ap₂, ℕ, List, IsTrue, nat_eq}
use Rattle.cue_show.proofs.TestLemmas.{both, same_number, same_self, join}
use Rattle.cue_show.proofs.TextLemmas.{same_text-true, same_text-itself}
use Rattle.cue_show.specs.Number.{same_text}
use Rattle.cue_view.specs.declared.button.Button.{Button}
use Rattle.cue_view.specs.declared.button.Button.TheVariants as button
use Rattle.cue_station.specs.Offering.{is_cancel, is_choice, is_go, is_move, is_release, is_seen, is_standby}
use Rattle.cue_station.specs.Offering.{same_button}

standby_true : (c : List ℕ) (b : Button) → IsTrue (is_standby c b) → button.Standby c ≡ b
standby_true c (button.Standby c') h = ap button.Standby (same_text-true c c' h)
standby_true c (button.Go c' q') h = (cc)
standby_true c (button.Cancel c' q') h = (cc)
standby_true c (button.Release q' d') h = (cc)
standby_true c (button.MoveTo c') h = (cc)
standby_true c (button.Choose q') h = (cc)
standby_true c (button.Seen q') h = (cc)

go_true : (c : List ℕ) (q : ℕ) (b : Button) → IsTrue (is_go c q b) → button.Go c q ≡ b
go_true c q (button.Standby c') h = (cc)
go_true c q (button.Go c' q') h =
    let k = both (same_text c c') (nat_eq q q') h in
    ap₂ button.Go (same_text-true c c' k.0) (same_number q q' k.1)
go_true c q (button.Cancel c' q') h = (cc)
go_true c q (button.Release q' d') h = (cc)
go_true c q (button.MoveTo c') h = (cc)
go_true c q (button.Choose q') h = (cc)
go_true c q (button.Seen q') h = (cc)

cancel_true : (c : List ℕ) (q : ℕ) (b : Button) → IsTrue (is_cancel c q b) → button.Cancel c q ≡ b
cancel_true c q (button.Standby c') h = (cc)
cancel_true c q (button.Go c' q') h = (cc)
cancel_true c q (button.Cancel c' q') h =
    let k = both (same_text c c') (nat_eq q q') h in
    ap₂ button.Cancel (same_text-true c c' k.0) (same_number q q' k.1)
cancel_true c q (button.Release q' d') h = (cc)
cancel_true c q (button.MoveTo c') h = (cc)
cancel_true c q (button.Choose q') h = (cc)
cancel_true c q (button.Seen q') h = (cc)

release_true : (q : ℕ) (d : ℕ) (b : Button) → IsTrue (is_release q d b) → button.Release q d ≡ b
release_true q d (button.Standby c') h = (cc)
release_true q d (button.Go c' q') h = (cc)
release_true q d (button.Cancel c' q') h = (cc)
release_true q d (button.Release q' d') h =
    let k = both (nat_eq q q') (nat_eq d d') h in
    ap₂ button.Release (same_number q q' k.0) (same_number d d' k.1)
release_true q d (button.MoveTo c') h = (cc)
release_true q d (button.Choose q') h = (cc)
release_true q d (button.Seen q') h = (cc)

move_true : (c : List ℕ) (b : Button) → IsTrue (is_move c b) → button.MoveTo c ≡ b
move_true c (button.Standby c') h = (cc)
move_true c (button.Go c' q') h = (cc)
move_true c (button.Cancel c' q') h = (cc)
move_true c (button.Release q' d') h = (cc)
move_true c (button.MoveTo c') h = ap button.MoveTo (same_text-true c c' h)
move_true c (button.Choose q') h = (cc)
move_true c (button.Seen q') h = (cc)

choice_true : (q : ℕ) (b : Button) → IsTrue (is_choice q b) → button.Choose q ≡ b
choice_true q (button.Standby c') h = (cc)
choice_true q (button.Go c' q') h = (cc)
choice_true q (button.Cancel c' q') h = (cc)
choice_true q (button.Release q' d') h = (cc)
choice_true q (button.MoveTo c') h = (cc)
choice_true q (button.Choose q') h = ap button.Choose (same_number q q' h)
choice_true q (button.Seen q') h = (cc)

seen_true : (q : ℕ) (b : Button) → IsTrue (is_seen q b) → button.Seen q ≡ b
seen_true q (button.Standby c') h = (cc)
seen_true q (button.Go c' q') h = (cc)
seen_true q (button.Cancel c' q') h = (cc)
seen_true q (button.Release q' d') h = (cc)
seen_true q (button.MoveTo c') h = (cc)
seen_true q (button.Choose q') h = (cc)
seen_true q (button.Seen q') h = ap button.Seen (same_number q q' h)

pub same_button-true : (a b : Button) → IsTrue (same_button a b) → a ≡ b
same_button-true (button.Standby c) b h = standby_true c b h
same_button-true (button.Go c q) b h = go_true c q b h
same_button-true (button.Cancel c q) b h = cancel_true c q b h
same_button-true (button.Release q d) b h = release_true q d b h
same_button-true (button.MoveTo c) b h = move_true c b h
same_button-true (button.Choose q) b h = choice_true q b h
same_button-true (button.Seen q) b h = seen_true q b h

pub same_button-itself : (b : Button) → IsTrue (same_button b b)
same_button-itself (button.Standby c) = same_text-itself c
same_button-itself (button.Go c q) = join (same_text c c) (nat_eq q q) (same_text-itself c) (same_self q)
same_button-itself (button.Cancel c q) = join (same_text c c) (nat_eq q q) (same_text-itself c) (same_self q)
same_button-itself (button.Release q d) = join (nat_eq q q) (nat_eq d d) (same_self q) (same_self d)
same_button-itself (button.MoveTo c) = same_text-itself c
same_button-itself (button.Choose q) = same_self q
same_button-itself (button.Seen q) = same_self q
