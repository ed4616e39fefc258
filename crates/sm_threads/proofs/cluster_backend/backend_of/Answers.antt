use Rattle.std.proofs.Common.{◌≡◌, ap, subst, sym, ◌∙◌}
use Rattle.std.proofs.lemmas.List.Elements.{All-weaker}
use Rattle.sm_cluster.specs.Calls.{ClientValue}
use Rattle.sm_cluster.specs.Clusters.{ClusterValue, IsClientOf}
use Rattle.std.specs.Prelude.{All, length}
use Rattle.sm_cluster.specs.lemmas.Since.{client_since, since_looks}
use Rattle.sm_service.specs.declared.request.Request.{Request}
use Rattle.sm_threads.specs.Sessions.{IsNewClientOf, IsWhole}
use Rattle.sm_threads.proofs.Answering.{session_with}
use Rattle.sm_threads.proofs.Clients.{popped_of}
use Rattle.sm_threads.proofs.cluster_backend.backend_of.Goals as goal

pub invariant_of-result : goal.invariant_of-result
invariant_of-result g c =
    let last = popped_of (IsNewClientOf c.args.cluster) c.args.clients.items c.pop.new.self.items c.pop.result
    c.unwrap-client.result c.pop.ensures.items c.unwrap-client.ensures c.requires.fresh c.requires.clients in
    let theirs = All-weaker (IsNewClientOf c.args.cluster) (IsClientOf c.args.cluster)
    (λ (client : ClientValue Request) new. new.0) c.pop.new.self.items last.1 in
    let told = c.tell.ensures in
    let client = c.tell.new.client in
    let since = since_looks c.unwrap-client.result client told.told.0 told.told.3 in
    let its = client_since c.args.cluster c.unwrap-client.result client since last.0.0 in
    subst
    (λ (cluster : ClusterValue Request). IsWhole (session_with cluster c.pop.new.self.items client)
    × All (IsClientOf cluster) c.pop.new.self.items × (length c.pop.new.self.items ≡ 17)) (sym told.unchanged)
    ((its, c.requires.shards, told.told.1), theirs, last.2)

pub returns-clause-client : goal.returns-clause-client
returns-clause-client g c =
    let last = popped_of (IsNewClientOf c.args.cluster) c.args.clients.items c.pop.new.self.items c.pop.result
    c.unwrap-client.result c.pop.ensures.items c.unwrap-client.ensures c.requires.fresh c.requires.clients in
    let told = c.tell.ensures.told in
    let client = c.tell.new.client in
    let since = since_looks c.unwrap-client.result client told.0 told.3 in (
      client_since c.args.cluster c.unwrap-client.result client since last.0.0,
      ap (λ (one : ClientValue Request). one.router) told.3 ∙ last.0.1,
    )

pub returns-clause-loaders : goal.returns-clause-loaders
returns-clause-loaders g c =
    (popped_of (IsNewClientOf c.args.cluster) c.args.clients.items c.pop.new.self.items c.pop.result
    c.unwrap-client.result c.pop.ensures.items c.unwrap-client.ensures c.requires.fresh c.requires.clients).1

pub returns-clause-enough : goal.returns-clause-enough
returns-clause-enough g c =
    (popped_of (IsNewClientOf c.args.cluster) c.args.clients.items c.pop.new.self.items c.pop.result
    c.unwrap-client.result c.pop.ensures.items c.unwrap-client.ensures c.requires.fresh c.requires.clients).2
