use Rattle.sm_cluster.specs.lemmas.Since.{since_looks}
use Rattle.sm_threads.proofs.Telling.{whole_since}
use Rattle.sm_threads.proofs.cluster_backend.ClusterBackend.record.Goals as goal

pub invariant_of-self : goal.invariant_of-self
invariant_of-self g c =
    let looked = c.look.ensures in
    whole_since c.self.inside.cluster c.self.inside.client c.look.new.self c.self.inside.loaders.items
    (since_looks c.self.inside.client c.look.new.self looked.0 looked.2) c.self.invariant
