-- The numbers that stand in C for phases and orders, as include/cue_device.h names them.
use Rattle.std.specs.Prelude.{ℕ, if◌then◌else◌, Option, Some, None, nat_eq}
use Rattle.cue_device.specs.declared.phase.Phase.{Phase}
use Rattle.cue_device.specs.declared.phase.Phase.TheVariants.{Preparing, Ready, Moving, Done, LettingGo, LetGo, Failed}
use Rattle.cue_device.specs.declared.words.Order.{Order}
use Rattle.cue_device.specs.declared.words.Order.TheVariants.{Prepare, Move, GiveUp}

-- the number of a phase, 0 for none
abbrev pub phase_code : Option Phase → ℕ
phase_code None = 0
phase_code (Some Preparing) = 1
phase_code (Some Ready) = 2
phase_code (Some Moving) = 3
phase_code (Some Done) = 4
phase_code (Some LettingGo) = 5
phase_code (Some LetGo) = 6
phase_code (Some Failed) = 7

-- the phase of a number
abbrev pub phase_of : ℕ → Option Phase
phase_of n = if nat_eq n 1 then Some Preparing else if nat_eq n 2 then Some Ready else if nat_eq n 3 then Some Moving
    else if nat_eq n 4 then Some Done else if nat_eq n 5 then Some LettingGo else if nat_eq n 6 then Some LetGo
    else if nat_eq n 7 then Some Failed else None

-- the number of an order, 0 for none
abbrev pub order_code : Option Order → ℕ
order_code None = 0
order_code (Some (Prepare q)) = 1
order_code (Some (Move q)) = 2
order_code (Some (GiveUp q)) = 3

-- the attempt of an order, 0 for none
abbrev pub order_number : Option Order → ℕ
order_number None = 0
order_number (Some (Prepare q)) = q
order_number (Some (Move q)) = q
order_number (Some (GiveUp q)) = q

-- the order of a number, for an attempt
abbrev pub order_of : ℕ → ℕ → Option Order
order_of n q = if nat_eq n 1 then Some (Prepare q) else if nat_eq n 2 then Some (Move q)
    else if nat_eq n 3 then Some (GiveUp q) else None
