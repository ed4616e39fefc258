use Rattle.std.proofs.Common.{◌≡◌, ◌+◌, ◌*◌, List, ap, drop, length, subst, sym, ◌∙◌, ℕ}
use Rattle.sm_cluster.specs.Calls.{ClientValue}
use Rattle.sm_service.specs.declared.request.Request.{Request}
use Rattle.sm_threads.specs.Loads.{IsLoadOf}
use Rattle.sm_threads.specs.Sessions.{SessionValue}
use Rattle.sm_threads.proofs.Clients.{take_all}
use Rattle.sm_threads.proofs.cluster_backend.calls.ClusterBackendBackend.load.Goals as goal

pub returns-clause-answers : goal.returns-clause-answers
returns-clause-answers g c =
    let report = c.load_by-report.result in
    let after = c.load_by-report.new.clients in
    let old = c.self.inside.loaders in
    let many : length after ≡ length old.items = c.load_by-report.auto.clients ∙ ap length c.deref_mut.ensures.value in
    let kept = take_all after (drop (length after) old.items) old.len (old.ok.0 ∙ sym many) in
    let loaded = subst (λ (n : ℕ). IsLoadOf c.args.key n c.args.each c.deref_mut.result.now report after)
    c.count.ensures.value c.load_by-report.ensures.loaded in
    let mine = subst (λ (before : List (ClientValue Request)). IsLoadOf c.args.key c.args.clients c.args.each before
    report after) c.deref_mut.ensures.value loaded in
    rw kept (
      report,
      subst (λ (n : ℕ). report.acked + report.refused ≡ n * c.args.each) c.count.ensures.value
          c.load_by-report.ensures.total,
      subst (λ (s : SessionValue). IsLoadOf c.args.key c.args.clients c.args.each s.loaders report after) c.self.view_is
          mine,
      c.verdict_on.ensures,
      ap (λ (s : SessionValue). record s { loaders = after }) c.self.view_is,
    )
