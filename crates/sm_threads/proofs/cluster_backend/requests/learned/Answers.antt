use Rattle.sm_cluster.specs.lemmas.Since.{since_looks, since_same}
use Rattle.sm_threads.proofs.cluster_backend.requests.learned.Goals as goal

pub returns-in-Ok-clause-since : goal.returns-in-Ok-clause-since
returns-in-Ok-clause-since c =
    let heard = c.learn-told.ensures.heard in
    since_looks c.args.client.now c.learn-told.new.self heard.0 heard.2

pub returns-in-Err-clause-since : goal.returns-in-Err-clause-since
returns-in-Err-clause-since c = since_same c.args.client.now
