-- What each lawful order says.
use Rattle.std.proofs.Common.{◌≡◌, ℕ, List, Option, Some, None, refl, sym, subst}
use Rattle.cue_device.specs.declared.words.Order.{Order}
use Rattle.cue_device.specs.declared.words.Order.TheVariants.{Prepare, Move, GiveUp}
use Rattle.cue_device.specs.declared.words.Answer.{Answer}
use Rattle.cue_device.specs.Hearing.{ordered_for}
use Rattle.cue_device.specs.Laws.{MayCome}
use Rattle.cue_device.proofs.FitsLemmas.{Lawful, OnlyPrepares, UpTo, all_up_to}

gives_way : (q : ℕ) (u : Option Order) → OnlyPrepares q u → MayCome u (GiveUp q)
gives_way q None h = tt
gives_way q (Some o) h = (q, h, refl)

free : (u : Option Order) (o : Order) → u ≡ None → MayCome u o
free u o e = subst (λ (v : Option Order). MayCome v o) (sym e) tt

-- it comes one at a time
pub may_come : (o : Order) (os : List Order) (xs : List Answer) (u : Option Order) → Lawful o os xs u → MayCome u o
may_come (Prepare q) os xs u l = free u (Prepare q) l.1
may_come (Move q) os xs u l = free u (Move q) l.2
may_come (GiveUp q) os xs u l = gives_way q u l.1

-- its number is at least that of each before
pub numbers_rise : (o : Order) (os : List Order) (xs : List Answer) (u : Option Order) → Lawful o os xs u
    → UpTo (ordered_for o) os
numbers_rise (Prepare q) os xs u l = all_up_to q os l.0
numbers_rise (Move q) os xs u l = l.3
numbers_rise (GiveUp q) os xs u l = l.2
