use Rattle.std.proofs.Common.{◌≡◌, ℕ, ◌+◌, ◌-◌, ◌++◌, ◌∷◌, [], List, take, drop, ap, sym, subst, ◌∙◌}
use Rattle.sm_shard.specs.declared.base_part.TheConstants.{PART_BYTES, PART_CLIENTS}
use Rattle.sm_shard.specs.Bases.{Lasts, Part, cut}
use Rattle.sm_shard.proofs.Cuts.{cut_done, cut_more}
use Rattle.sm_shard.proofs.base.cut.Goals as goal

pub loop-preserved : goal.loop-preserved
loop-preserved g c =
    let parts : List (Part g.row.R.Denot) = c.loop.parts.items in
    let state = c.loop.state.now in
    let lasts = c.loop.lasts.now in
    let left = c.args.count - (c.loop.counter + 1) in
    let all : List (Part g.row.R.Denot) = cut c.args.floor c.args.count c.args.state.now c.args.lasts.now in
    let part : Part g.row.R.Denot =
    record { state = take PART_BYTES state; lasts = take PART_CLIENTS lasts; floor = c.args.floor } in
    let pushed : c.push.new.self.items ≡ parts ++ part ∷ [] =
    c.in_ok-push.ensures.items ∙ ap (λ (x : Part g.row.R.Denot). parts ++ x ∷ []) c.in_ok-part.ensures in
    subst (λ (list : List (Part g.row.R.Denot)). list
    ++ cut c.args.floor left c.rest_of-more.result.now c.rest_of-others.result.now
    ≡ all) (sym pushed)
    (subst (λ (s : List ℕ). (parts ++ part ∷ []) ++ cut c.args.floor left s c.rest_of-others.result.now ≡ all)
    (sym c.rest_of-more.ensures)
    (subst (λ (l : Lasts g.row.R.Denot). (parts ++ part ∷ []) ++ cut c.args.floor left (drop PART_BYTES state) l ≡ all)
    (sym c.rest_of-others.ensures)
    (cut_more c.args.floor parts c.args.count c.loop.counter state lasts all c.loop-test.true c.loop.invariant)))

pub returns : goal.returns
returns g c =
    cut_done c.args.floor c.loop.parts.items c.args.count c.loop.counter c.loop.state.now c.loop.lasts.now
    (cut c.args.floor c.args.count c.args.state.now c.args.lasts.now) c.loop-test.false c.loop.invariant
