use Rattle.std.proofs.Common.{◌≡◌, drop, length}
use Rattle.sm_place.specs.Plans.{joined, plan, servers_but}
use Rattle.sm_place.proofs.books.Books.plan.Given as goal

abbrev pub invariant-loop-k : goal.invariant-loop-k
invariant-loop-k l = record {
  going_on : joined l.plan (plan l.draft (drop l.k-index l.k-items) (servers_but l.from l.fn.self.servers))
      ≡ plan l.fn.self l.k-items (servers_but l.from l.fn.self.servers);
  servers_stay : l.draft.servers ≡ l.fn.self.servers;
  count_stays : length l.draft.shards ≡ length l.fn.self.shards;
}
