-- The facts about a change that the desk doesn't refuse.
use Rattle.std.specs.Prelude.{◌≡◌, ◌<◌, ℕ, Bool, true, false, Option, Some, None, refl, length, nat_lt, not}
use Rattle.std.specs.Prelude.{if◌then◌else◌}
use Rattle.std.specs.Option.{option_map, option_or}
use Rattle.std.proofs.lemmas.Bool.{ltb-true}
use Rattle.sm_ownership.specs.declared.change.Change.{Change}
use Rattle.sm_ownership.specs.Rules.{phase_fault, newly_named}
use Rattle.sm_place.specs.Books.{BooksView, shard_at}
use Rattle.sm_desk.specs.declared.command.CommandFault.TheVariants.{Change as ChangeRefused}
use Rattle.sm_desk.specs.Desk.{desk_change_fault, is_unknown, resume_fault, resumed, room_fault}

-- the shard exists, the server that the change newly names exists and has room, the shard's stand allows the change,
-- and the owner that will execute again isn't leaving
pub record IsLetThrough (books : BooksView) (shard : ℕ) (change : Change) : Type 0 where
  pub within : shard < length books.shards
  pub known : is_unknown books.servers (newly_named change) ≡ false
  pub phase : phase_fault (shard_at books.shards shard).stand change ≡ None
  pub room : room_fault books shard (newly_named change) ≡ None
  pub stays : resume_fault books (resumed (shard_at books.shards shard).stand change) ≡ None

no_fault : {X Y : Type 0} (there unknown : Bool) (x y : X) (fault : Option Y) (of : Y → X) (u v : Option X)
    → (if not there then Some x else if unknown then Some y else option_or (option_map of fault) (option_or u v)) ≡ None
    → (there ≡ true) × (unknown ≡ false) × (fault ≡ None) × (u ≡ None) × (v ≡ None)
no_fault true false x y None of None v none = (refl, refl, refl, refl, none)
no_fault true false x y None of (Some u) v none = absurd cc
no_fault true false x y (Some fault) of u v none = absurd cc
no_fault true true x y fault of u v none = absurd cc
no_fault false unknown x y fault of u v none = absurd cc

pub let_through : (books : BooksView) (shard : ℕ) (change : Change) → desk_change_fault books shard change ≡ None
    → IsLetThrough books shard change
let_through books shard change none =
    let stand = (shard_at books.shards shard).stand in
    let all = no_fault (nat_lt shard (length books.shards)) (is_unknown books.servers (newly_named change)) _ _
    (phase_fault stand change)
    ChangeRefused (room_fault books shard (newly_named change))
    (resume_fault books (resumed stand change)) none in
    record { within = ltb-true _ _ all.0; known = all.1; phase = all.2; room = all.3; stays = all.4 }
