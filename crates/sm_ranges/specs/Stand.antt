-- The servers that a stand names.
use Rattle.std.specs.Prelude.{ℕ, Bool, true, false, Option, Some, None, IfSome, is_none, unwrap_or, ◌==◌, ◌||◌}
use Rattle.sm_ranges.specs.declared.stand.Stand.{Stand}
use Rattle.sm_ranges.specs.declared.stand.Stand.TheVariants.{Vacant, Serving, Prepared, Forwarding, Taken, Paused}

-- the owner that a stand names
abbrev pub owner_of : Stand → Option ℕ
owner_of Vacant = None
owner_of (Serving owner) = Some owner
owner_of (Prepared owner next) = Some owner
owner_of (Forwarding owner next) = Some owner
owner_of (Taken owner previous) = Some owner
owner_of (Paused owner) = Some owner

-- whether a stand names no owner
abbrev pub is_vacant : Stand → Bool
is_vacant stand = is_none (owner_of stand)

-- whether a shard of this stand is paused
abbrev pub is_paused : Stand → Bool
is_paused (Paused owner) = true
is_paused stand = false

-- the next or the previous server that a stand names
abbrev pub other_of : Stand → Option ℕ
other_of Vacant = None
other_of (Serving owner) = None
other_of (Prepared owner next) = Some next
other_of (Forwarding owner next) = Some next
other_of (Taken owner previous) = Some previous
other_of (Paused owner) = None

-- whether there is a number and it passes the test
abbrev pub passes : (ℕ → Bool) → Option ℕ → Bool
passes test None = false
passes test (Some a) = test a

-- whether the stand names a server that passes the test
abbrev pub names_one : (ℕ → Bool) → Stand → Bool
names_one test stand = passes test (owner_of stand) || passes test (other_of stand)

-- whether the stand names the server
abbrev pub names : Stand → ℕ → Bool
names stand server = names_one (λ named. named == server) stand

-- each server that the stand names has this property
abbrev pub AllNamed : (ℕ → Type 0) → Stand → Type 0
AllNamed IsSuch stand = IfSome (owner_of stand) IsSuch × IfSome (other_of stand) IsSuch

-- the number of the owner, or 0 if the stand names none
abbrev pub owner_number : Stand → ℕ
owner_number stand = unwrap_or (owner_of stand) 0

-- the number of the next or previous server, or 0 if the stand names none
abbrev pub other_number : Stand → ℕ
other_number stand = unwrap_or (other_of stand) 0
