use Rattle.std.proofs.Common.{◌≡◌, ◌-◌, min, sym, ◌∙◌, arith}
use Rattle.sm_map.specs.Blocks.{number_of}
use Rattle.sm_map.proofs.Blocks.{not_before}
use Rattle.sm_map.proofs.Ranges.{rows_within}
use Rattle.sm_map.proofs.arena_map.ArenaMap.scan.Goals as goal
use Rattle.sm_map.proofs.arena_map.ArenaMap.scan.Goals.{then-loop-self-test+else-precedes, else-loop-self-test}

pub returns : goal.returns
returns c =
    let long : number_of c.args.self.now.blocks c.loop-self.place - number_of c.args.self.now.blocks c.edge-place.result
    ≡ min (number_of c.args.self.now.blocks c.edge-end.result - number_of c.args.self.now.blocks
    c.edge-place.result) c.args.max = elim c.loop-self-test.branch [
      | then-loop-self-test+else-precedes w ↦ omega (
        arith,
        c.loop-self.invariant.count,
        c.loop-self.invariant.bounded,
        c.loop-self.invariant.most,
        not_before c.args.self.now.blocks c.loop-self.place c.edge-end.result
            c.loop-self.invariant.stop c.edge-end.ensures.stop (sym w.if-precedes.ensures),
      )
      | else-loop-self-test w ↦ omega (
        arith,
        c.loop-self.invariant.count,
        c.loop-self.invariant.bounded,
        c.loop-self.invariant.most,
        w.loop-self-test.false,
        c.len.ensures,
        c.loop-self.rows.ok.0,
      )
    ] in
    c.loop-self.invariant.rows ∙ rows_within c.args.self.now.pairs c.args.low.now c.args.high.now (number_of
    c.args.self.now.blocks c.edge-place.result) (number_of c.args.self.now.blocks c.edge-end.result) c.args.max
    (number_of c.args.self.now.blocks c.loop-self.place) c.edge-place.ensures.edge c.edge-end.ensures.edge long
