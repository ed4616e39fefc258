use Rattle.std.proofs.Common.{◌≡◌, ℕ, ◌+◌, ◌++◌, ◌∷◌, [], take, ap, sym, ◌∙◌}
use Rattle.std.specs.BTreeMap.{insert_entry}
use Rattle.std.specs.Ordering.{nat_cmp}
use Rattle.std.proofs.lemmas.List.{take_more}
use Rattle.sm_shard.specs.declared.replica.LastRequest.{LastRequest}
use Rattle.sm_shard.specs.Bases.{Lasts, put_in}
use Rattle.sm_shard.proofs.Cuts.{put-append}
use Rattle.sm_shard.proofs.base.put_all.Goals as goal

pub loop-client-preserved : goal.loop-client-preserved
loop-client-preserved g c =
    let last = c.loop-client-item.result in
    let more = c.args.more.now in
    let index = c.loop-client.client-index in
    let entries = c.args.lasts.now.entries in
    let grown : take (index + 1) more ≡ take index more ++ last ∷ [] =
    take_more more index last c.loop-client-test.true
    ∙ ap (λ (x : ℕ × LastRequest g.row.R.Denot). take index more ++ x ∷ []) (sym c.loop-client-item.is) in
    c.in_ok-insert.ensures.entries
    ∙ ap (λ (e : Lasts g.row.R.Denot). insert_entry nat_cmp e last.0 last.1) c.loop-client.invariant
    ∙ sym (put-append entries (take index more) (last ∷ []))
    ∙ ap (put_in entries) (sym grown)
