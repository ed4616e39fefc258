-- Plans. Each shard in turn goes to the first server that it fits, as if the earlier moves were made.
use Rattle.std.specs.Prelude.{Bool, true, false, ◌≡◌, ◌≢◌, ◌⊎◌, All, Ok, ℕ, Option, Some, None, List, [], ◌∷◌, ◌++◌}
use Rattle.std.specs.Prelude.{◌==◌, is_ok, filter, find, length, map, not}
use Rattle.std.specs.List.{range_with_len}
use Rattle.sm_ranges.specs.declared.stand.Stand.{Stand}
use Rattle.sm_ranges.specs.declared.stand.Stand.TheVariants.{Vacant, Serving}
use Rattle.sm_rows.specs.declared.server_row.ServerRow.{ServerRow}
use Rattle.sm_place.specs.declared.shard.Shard.{Shard}
use Rattle.sm_place.specs.declared.plan.Move.{Move}
use Rattle.sm_ranges.specs.Stand.{passes}
use Rattle.sm_place.specs.Books.{BooksView, shard_at, with_stand}
use Rattle.sm_place.specs.Room.{fit}

-- where shards go, and which shards fit none of the plan's servers in their turn
pub record PlanView : Type 0 where
  pub moves : List Move
  pub left : List ℕ

-- the empty plan
abbrev pub no_plan : PlanView
no_plan = record { moves = []; left = [] }

-- the plan of one shard: it goes to the server, or is left if there is none
abbrev pub turn : ℕ → Option ℕ → PlanView
turn k None = record { moves = []; left = k ∷ [] }
turn k (Some a) = record { moves = record { shard = k; to = a } ∷ []; left = [] }

-- one plan, and then the other
abbrev pub joined : PlanView → PlanView → PlanView
joined p q = record { moves = p.moves ++ q.moves; left = p.left ++ q.left }

-- the first of the servers that shard k fits
abbrev pub first_fit : BooksView → ℕ → List ℕ → Option ℕ
first_fit books k servers = find (λ a. is_ok (fit books k a)) servers

-- if there is a server, the books after it came to serve shard k
abbrev pub books_after : BooksView → ℕ → Option ℕ → BooksView
books_after books k None = books
books_after books k (Some a) =
    record {
      servers = books.servers;
      groups = books.groups;
      shards = with_stand books.shards k (Serving a);
      states = books.states;
      domains = books.domains;
    }

-- each of the shards in turn goes to the first of the servers that it fits
abbrev pub plan : BooksView → List ℕ → List ℕ → PlanView
plan books [] servers = no_plan
plan books (k ∷ shards) servers =
    joined (turn k (first_fit books k servers)) (plan (books_after books k (first_fit books k servers)) shards servers)

-- whether a plan moves a shard of this stand: with a server, a shard that it serves; without one, a vacant shard
abbrev pub stands_to_move : Option ℕ → Stand → Bool
stands_to_move None Vacant = true
stands_to_move (Some a) (Serving owner) = owner == a
stands_to_move from stand = false

-- the numbers of the shards that the plan moves
abbrev pub shards_to_move : Option ℕ → List Shard → List ℕ
shards_to_move from shards =
    filter (λ k. stands_to_move from (shard_at shards k).stand) (range_with_len 0 (length shards))

-- the servers' numbers, except for the one from which shards move
abbrev pub servers_but : Option ℕ → List ServerRow → List ℕ
servers_but from servers = filter (λ a. not (passes (λ b. b == a) from)) (map (λ row. row.id) servers)

-- the plan for the vacant shards by number, over all servers
abbrev pub assign_plan : BooksView → PlanView
assign_plan books = plan books (shards_to_move None books.shards) (servers_but None books.servers)

-- the plan for the shards that server a serves, by number, over all other servers
abbrev pub drain_plan : BooksView → ℕ → PlanView
drain_plan books a = plan books (shards_to_move (Some a) books.shards) (servers_but (Some a) books.servers)

-- the result of each turn: either the next move takes the turn's shard to a server that it fits, or the shard is the
-- next one left, and fits none of the servers
abbrev pub KeepsRoom : BooksView → List ℕ → List ℕ → List Move → List ℕ → Type 0
KeepsRoom books [] servers moves left = (moves ≡ []) × (left ≡ [])
KeepsRoom books (k ∷ shards) servers moves left =
    ((a : ℕ) × (rest : List Move) × (moves ≡ record { shard = k; to = a } ∷ rest) × (fit books k a ≡ Ok tt)
    × KeepsRoom (books_after books k (Some a)) shards servers rest left)
    ⊎ ((rest : List ℕ) × (left ≡ k ∷ rest) × All (λ a. fit books k a ≢ Ok tt) servers
    × KeepsRoom books shards servers moves rest)
