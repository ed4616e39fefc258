-- The hand of a server that is admitted to a shard: a request, or none.
use Rattle.std.specs.Prelude.{ℕ, Bool, false, Option, Some, None, is_none}
use Rattle.std.specs.Option.{option_map}
use Rattle.sm_table.specs.declared.hands.InHand.{InHand}
use Rattle.sm_table.specs.declared.hands.Work.{Work}

-- the server, and the request that it has begun
abbrev pub work_of : {Q : Type 0} → Option (InHand Q) → Option (ℕ × Work Q)
work_of None = None
work_of (Some hand) = option_map (λ work. (hand.server, work)) hand.work

-- the server holds the shard without a request
abbrev pub is_alone : {Q : Type 0} → Option (InHand Q) → Bool
is_alone None = false
is_alone (Some hand) = is_none hand.work
