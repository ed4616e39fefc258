use Rattle.std.proofs.Common.{List, ℕ, refl, subst}
use Rattle.sm_cluster.specs.Calls.{HasReadRoute}
use Rattle.sm_cluster.specs.lemmas.Since.{since_read}
use Rattle.sm_ranges.specs.Ranges.{shard_of}
use Rattle.sm_script.specs.declared.line_answer.LineAnswer.TheVariants.{Way}
use Rattle.sm_threads.specs.Calls.{RoutedKey}
use Rattle.sm_threads.specs.Sessions.{SessionValue}
use Rattle.sm_threads.proofs.Answering.{session_with}
use Rattle.sm_threads.proofs.Telling.{whole_since}
use Rattle.sm_threads.proofs.cluster_backend.calls.ClusterBackendBackend.route.Goals as goal

pub returns-clause-answers : goal.returns-clause-answers
returns-clause-answers g c =
    let before = c.self.inside.client in
    let read = c.route.new.self in
    let after = session_with c.self.inside.cluster c.self.inside.loaders.items read in
    let reads : HasReadRoute before (shard_of before.bounds c.args.key) c.route.result read =
    subst (λ (key : List ℕ). HasReadRoute before (shard_of before.bounds key) c.route.result read)
    c.as_bytes.ensures.bytes c.route.ensures in
    subst (λ (s : SessionValue). RoutedKey s c.args.key (Way c.route.result) after) c.self.view_is (reads, refl)

pub invariant_of-self : goal.invariant_of-self
invariant_of-self g c =
    let read = c.route.ensures in
    whole_since c.self.inside.cluster c.self.inside.client c.route.new.self c.self.inside.loaders.items
    (since_read c.self.inside.client c.route.new.self read.2 read.0) c.self.invariant
