use Rattle.std.proofs.Common.{◌≡◌}
use Rattle.sm_calls.specs.Since.{IsClientSince}
use Rattle.sm_load.proofs.loading.ask.Given as goal

-- the request is still the same, and the client has seen no less
abbrev pub invariant-loop-retry : goal.invariant-loop-retry
invariant-loop-retry g l = (l.request ≡ l.fn.request) × IsClientSince l.fn.client l.client
