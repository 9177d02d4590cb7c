-- What was sent for an input, and what of it left.
use Rattle.std.specs.Prelude.{ℕ, ◌+◌, min, Bool, if◌then◌else◌, List, [], ◌∷◌, length, Option, Some, None, nat_eq}
use Rattle.cue_engine.specs.declared.account.Account.{Account}
use Rattle.cue_engine.specs.declared.account.Order.{Order}
use Rattle.cue_engine.specs.declared.account.Reply.{Reply}

-- so many more, up to the largest number that there is
abbrev pub more_by : ℕ → ℕ → ℕ
more_by n count = min (count + n) 18446744073709551615

-- how many datagrams these replies are beside so many others: each reply, and its statuses
abbrev pub count_of : ℕ → List Reply → ℕ
count_of others [] = others
count_of others (r ∷ rs) = count_of (more_by 1 (more_by r.statuses others)) rs

-- the replies of an account, and its orders
abbrev pub replies_of : Option Account → List Reply
replies_of None = []
replies_of (Some account) = account.replies.items

abbrev pub orders_of : Option Account → List Order
orders_of None = []
orders_of (Some account) = account.orders.items

-- what is known of its datagrams: each has left or not, if there is a bit for each, else nothing is known
abbrev pub left_of : Option Account → List Bool → List Bool
left_of account left =
    if nat_eq (length left) (count_of (length (orders_of account)) (replies_of account)) then left else []

-- the first of a list
abbrev pub first : {A : Type 0} → List A → Option A
first [] = None
first (x ∷ xs) = Some x
