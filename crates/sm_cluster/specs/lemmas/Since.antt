-- A client of a cluster, once its calls were made.
use Rattle.std.proofs.Common.{◌∙◌}
use Rattle.sm_rule.specs.lemmas.Passing.{begins_begins}
use Rattle.sm_calls.specs.Calls.{ClientValue}
use Rattle.sm_calls.specs.Since.{IsClientSince}
use Rattle.sm_cluster.specs.Clusters.{ClusterValue, IsClientOf, KnowsAll}
pub use Rattle.sm_calls.specs.lemmas.Since.{since_looks, since_read, since_same, since_since}

-- it stays a client of its cluster
pub client_since : {Q : Type 0} (cluster : ClusterValue Q) (before after : ClientValue Q) → IsClientSince before after
    → IsClientOf cluster before → IsClientOf cluster after
client_since cluster before after since is = (since.board ∙ is.0, since.bounds ∙ is.1)

-- it still knows everything that the cluster tells
pub knows_since : {Q : Type 0} (cluster : ClusterValue Q) (before after : ClientValue Q) → IsClientSince before after
    → KnowsAll cluster before → KnowsAll cluster after
knows_since cluster before after since knows =
    begins_begins cluster.told before.pass.seen after.pass.seen knows since.seen
