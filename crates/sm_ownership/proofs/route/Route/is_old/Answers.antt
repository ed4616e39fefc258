use Rattle.std.proofs.Common.{rules}
use Rattle.sm_ownership.proofs.route.Route.is_old.Goals as goal

pub returns-in-Some : goal.returns-in-Some
returns-in-Some c = search rules
