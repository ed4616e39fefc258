use Rattle.std.proofs.Common.{◌≡◌, List}
use Rattle.std.specs.Prelude.{All}
use Rattle.sm_ownership.specs.declared.entry.Entry.{Entry}
use Rattle.sm_rule.specs.Views.{Begins}
use Rattle.sm_cluster.proofs.cluster.stopping.told.Given as goal

-- the closing pass has seen everything that the teller had seen; a history that extends this, and everything that each
-- remaining client had seen, extends everything that each client had seen
abbrev pub invariant-loop-client : goal.invariant-loop-client
invariant-loop-client g l = record {
  board : l.closer.board ≡ l.board;
  held : l.closer.held ≡ l.fn.teller.held;
  told : Begins l.fn.teller.seen l.closer.seen;
  left : All (λ client. client.pass.board ≡ l.board) l.client-iterator.rest.items;
  seen : (history : List (Entry g.row.S-Request.Denot)) → Begins l.closer.seen history
      → All (λ client. Begins client.pass.seen history) l.client-iterator.rest.items
      → All (λ client. Begins client.pass.seen history) l.fn.clients.items;
}
