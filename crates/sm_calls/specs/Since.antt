-- A client that has made calls since.
use Rattle.std.specs.Prelude.{◌≡◌}
use Rattle.sm_publish.specs.Seen.{Extends}
use Rattle.sm_rule.specs.Views.{Begins}
use Rattle.sm_calls.specs.Calls.{ClientValue}

-- a client of the same board with the same bounds that has seen no less
pub record IsClientSince {Q : Type 0} (before after : ClientValue Q) : Type 0 where
  pub board : after.pass.board ≡ before.pass.board
  pub bounds : after.bounds ≡ before.bounds
  pub seen : Begins before.pass.seen after.pass.seen
  pub read : Extends after.router.seen before.router.seen
