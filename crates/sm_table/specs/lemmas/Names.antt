-- The servers that the stands of a world name.
use Rattle.std.proofs.Common.{◌≡◌, ℕ, Bool, true, false, not, List, refl}
use Rattle.std.specs.Prelude.{Some, None, ◌==◌, unwrap_or, if◌then◌else◌}
use Rattle.std.proofs.lemmas.Bool.{cond_both}
use Rattle.sm_ranges.specs.Stand.{AllNamed}
use Rattle.sm_ranges.specs.declared.stand.Stand.{Stand}
use Rattle.sm_ranges.specs.declared.stand.Stand.TheVariants.{Vacant, Serving, Prepared, Forwarding, Taken, Paused}
use Rattle.sm_ownership.specs.declared.change.Change.{Change}
use Rattle.sm_ownership.specs.declared.change.Change.TheVariants.{Assign, PrepareAddShard, AddShard, DropShard, Cancel}
use Rattle.sm_ownership.specs.declared.change.Change.TheVariants.{Pause, Resume, Reassign}
use Rattle.sm_ownership.specs.Rules.{stand_after, newly_named, forward_at}
use Rattle.sm_rows.specs.declared.server_row.ServerRow.{ServerRow}
use Rattle.sm_desk.specs.Desk.{is_known, is_unknown}
use Rattle.sm_table.specs.Standing.{IsThere}

known_of : (known : Bool) → not known ≡ false → known ≡ true
known_of true is = refl
known_of false is = absurd cc

-- a change of a stand that names known servers leads to a stand that names known servers, if the server that it newly
-- names is known
pub names_after : (servers : List ServerRow) (stand : Stand) (change : Change) → AllNamed (IsThere servers) stand
    → is_unknown servers (newly_named change) ≡ false
    → AllNamed (IsThere servers) (unwrap_or (stand_after stand change) stand)
names_after servers Vacant (Assign server) named known = (known_of (is_known servers server) known, tt)
names_after servers (Serving owner) (PrepareAddShard next) named known =
    cond_both (next == owner) None (Some (Prepared owner next)) (λ after. AllNamed (IsThere servers)
    (unwrap_or after (Serving owner))) (λ _. named) (λ _. (named.0, known_of (is_known servers next) known))
names_after servers (Serving owner) Pause named known = named
names_after servers (Prepared owner next) Cancel named known = (named.0, tt)
names_after servers (Forwarding owner next) AddShard named known = (named.1, named.0)
names_after servers (Forwarding owner next) Cancel named known = (named.0, tt)
names_after servers (Taken owner previous) DropShard named known = (named.0, tt)
names_after servers (Paused owner) Resume named known = named
names_after servers (Paused owner) (Reassign next) named known =
    cond_both (next == owner) None (Some (Serving next)) (λ after. AllNamed (IsThere servers)
    (unwrap_or after (Paused owner))) (λ _. named) (λ _. (known_of (is_known servers next) known, tt))
names_after servers stand change named known = named

known_where : (servers : List ServerRow) (here : Bool) (other to : ℕ) → is_known servers other ≡ true
    → (if here then Some other else None) ≡ Some to → is_known servers to ≡ true
known_where servers true other to known is = cc
known_where servers false other to known is = absurd cc

-- a server forwards to a server that is known
pub known_forward : (servers : List ServerRow) (stand : Stand) (server to : ℕ) → AllNamed (IsThere servers) stand
    → forward_at stand server ≡ Some to → is_known servers to ≡ true
known_forward servers (Forwarding owner next) server to named is =
    known_where servers (owner == server) next to named.1 is
known_forward servers (Taken owner previous) server to named is =
    known_where servers (previous == server) owner to named.0 is
known_forward servers Vacant server to named is = absurd cc
known_forward servers (Serving owner) server to named is = absurd cc
known_forward servers (Prepared owner next) server to named is = absurd cc
known_forward servers (Paused owner) server to named is = absurd cc
