use Rattle.std.proofs.Common.{◌≡◌, ◌≤◌, List, subst, sym}
use Rattle.std.specs.Prelude.{Option, Some, None, IfNone, IfSome}
use Rattle.std.specs.BTreeMap.{get}
use Rattle.std.specs.Ordering.{nat_cmp}
use Rattle.sm_store.specs.declared.item.Item.{Item}
use Rattle.sm_store.specs.Clients.{Automaton, floor_of, last_of, reply_in}
use Rattle.sm_shard.specs.declared.replica.LastRequest.{LastRequest}
use Rattle.sm_shard.specs.declared.replica.Replica.{Replica}
use Rattle.sm_shard.specs.Replicas.{IsReplica}
use Rattle.sm_shard.proofs.Lasts.{IsLast}
use Rattle.sm_shard.proofs.Replicas.{table_is}
use Rattle.sm_shard.proofs.replica.last_request.Goals as goal

some_is : {M Q R : Type 0} (service : Automaton M Q R) (replica : Replica M R) (client : _) (o : Option (LastRequest R))
    → o ≡ get nat_cmp replica.lasts client → IfSome o (λ last. (before : List (Item Q))
    → IsReplica service before replica → floor_of before ≤ client → (last_of client before ≡ last.number)
    × (reply_in service service.start before client last.number ≡ Some last.reply))
some_is service replica client None is = tt
some_is service replica client (Some last) is = λ before whole below.
    subst (IsLast service before client) (sym is) (table_is service before replica client whole below)

none_is : {M Q R : Type 0} (service : Automaton M Q R) (replica : Replica M R) (client : _) (o : Option (LastRequest R))
    → o ≡ get nat_cmp replica.lasts client
    → IfNone o ((before : List (Item Q)) → IsReplica service before replica → floor_of before ≤ client
    → last_of client before ≡ 0)
none_is service replica client None is = λ before whole below.
    subst (IsLast service before client) (sym is) (table_is service before replica client whole below)
none_is service replica client (Some last) is = tt

pub returns : goal.returns
returns g c = record {
  exact = c.found_in-last.ensures;
  some = some_is g.M.StoreMachine.service c.args.replica.now c.args.client c.found_in-last.result
      c.found_in-last.ensures;
  none = none_is g.M.StoreMachine.service c.args.replica.now c.args.client c.found_in-last.result
      c.found_in-last.ensures;
}
