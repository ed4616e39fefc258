use Rattle.std.proofs.Common.{◌≡◌, ◌+◌, ◌∷◌, ◌++◌, [], ◌∙◌, ap, length, length-append, rules, subst, sym}
use Rattle.std.specs.Arc.{arc_value}
use Rattle.std.specs.Prelude.{All, ℕ, map}
use Rattle.std.proofs.lemmas.List.{map-append}
use Rattle.sm_publish.specs.Seen.{RouterView}
use Rattle.std.proofs.lemmas.List.Elements.{All-push}
use Rattle.sm_calls.specs.Calls.{ClientValue}
use Rattle.sm_cluster.proofs.cluster.starting.clients_of.Goals as goal

pub loop-router-preserved : goal.loop-router-preserved
loop-router-preserved g c =
    let was = c.loop-router.invariant in
    let made = c.loop-router.clients.items in
    let grown = c.in_ok-push.ensures.items in
    let router_of : ClientValue g.row.S-Request.Denot → RouterView = λ client. client.router in
    let router : c.new.result.router ≡ c.in-Some.router = search rules in
    let board : c.new.result.pass.board ≡ (arc_value c.args.ground.now).board = search rules in
    let bounds : c.new.result.bounds ≡ (arc_value c.args.ground.now).layout = search rules in (
      ap length grown ∙ (length-append made (c.new.result ∷ [])
          ∙ (ap (λ (n : ℕ). n + 1) was.0 ∙ sym (length-append c.loop-router.yielded (c.in-Some.router ∷ [])))),
      subst (All (λ (client : ClientValue g.row.S-Request.Denot). client.pass.board
          ≡ (arc_value c.args.ground.now).board)) (sym grown)
          (All-push (λ (client : ClientValue g.row.S-Request.Denot). client.pass.board
          ≡ (arc_value c.args.ground.now).board) made c.new.result was.1 board),
      subst (All (λ (client : ClientValue g.row.S-Request.Denot). client.bounds ≡ (arc_value c.args.ground.now).layout))
          (sym grown)
          (All-push (λ (client : ClientValue g.row.S-Request.Denot). client.bounds
          ≡ (arc_value c.args.ground.now).layout) made c.new.result was.2 bounds),
      ap (map router_of) grown ∙ (map-append router_of made (c.new.result ∷ []) ∙ (λ i. was.3 i ++ router i ∷ [])),
    )
