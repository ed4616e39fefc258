use Rattle.std.proofs.Common.{◌≡◌, ℕ, subst, sym}
use Rattle.sm_map.specs.KeyMap.{IsEdgeOf}
use Rattle.sm_map.specs.ArenaMap.{MapValue}
use Rattle.sm_map.specs.Blocks.{number_of}
use Rattle.sm_map.proofs.KeyMaps.{edge_here, edge_gap}
use Rattle.sm_map.proofs.arena_map.ArenaMap.edge.Goals as goal

pub returns-in-Ok-clause-edge : goal.returns-in-Ok-clause-edge
returns-in-Ok-clause-edge c = edge_here _ _ c.find.ensures.rising _ c.in-Ok.ensures.found

pub returns-in-Err-clause-edge : goal.returns-in-Err-clause-edge
returns-in-Err-clause-edge c =
    let same : number_of c.args.self.now.blocks c.in-Err.place ≡ number_of c.args.self.now.blocks c.stop.result =
    subst (λ (x : MapValue). number_of x.blocks c.in-Err.place ≡ number_of x.blocks c.stop.result) c.self.view_is
    (sym c.stop.ensures.same) in
    subst (λ (n : ℕ). IsEdgeOf c.args.self.now.pairs c.args.key.now n) same
    (edge_gap _ _ c.find.ensures.rising _ c.in-Err.ensures.absent)
