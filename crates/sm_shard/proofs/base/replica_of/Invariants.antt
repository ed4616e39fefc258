use Rattle.std.proofs.Common.{◌≡◌, [], take}
use Rattle.sm_shard.specs.Bases.{put_in}
use Rattle.sm_shard.proofs.Cuts.{lasts_in, states_in}
use Rattle.sm_shard.proofs.base.replica_of.Given as goal

abbrev pub invariant-loop-part : goal.invariant-loop-part
invariant-loop-part g l =
    let parts = take l.part-index l.parts in
    record {
      state : l.state.items ≡ states_in parts;
      lasts : l.lasts.entries ≡ put_in [] (lasts_in parts);
    }
