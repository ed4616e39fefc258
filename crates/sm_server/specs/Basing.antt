-- The effect of a checkpoint of a shard.
use Rattle.std.specs.Prelude.{ℕ, ◌≡◌}
use Rattle.sm_ownership.specs.declared.entry.Ending.TheVariants.{Nothing}
use Rattle.sm_ownership.specs.declared.entry.Kind.TheVariants.{Done}
use Rattle.sm_ownership.specs.declared.mode.Mode.TheVariants.{Direct}
use Rattle.sm_ownership.specs.History.{all_of, checkpoint_ending, kept}
use Rattle.sm_rule.specs.Admissions.{PassAdmitted, RefusedBy}
use Rattle.sm_rule.specs.Passes.{PassAdds, PassLooks, PassValue}
use Rattle.sm_server.specs.declared.checkpoint_fault.CheckpointFault.{CheckpointFault}
use Rattle.sm_server.specs.declared.checkpoint_fault.CheckpointFault.TheVariants.{Admit as NotAdmitted, NoMemory}

-- the pass was admitted, and ended its admission with a checkpoint, or with nothing if the shard kept no requests then
abbrev pub HasMadeCheckpoint : {Q : Type 0} → PassValue Q → ℕ → PassValue Q → Type 0
HasMadeCheckpoint before shard after =
    (admitted : PassValue _) × PassAdmitted before shard Direct admitted
    × PassAdds admitted shard (Done (checkpoint_ending (kept admitted.seen shard))) after
    × (all_of after.seen shard ≡ all_of admitted.seen shard)

-- why there is no checkpoint: the pass wasn't admitted, or memory was refused and its admission ended with nothing
abbrev pub CheckpointRefused : {Q : Type 0} → PassValue Q → ℕ → PassValue Q → CheckpointFault → Type 0
CheckpointRefused before shard after (NotAdmitted refusal) =
    PassLooks before after × RefusedBy before after shard Direct refusal
CheckpointRefused before shard after NoMemory =
    (admitted : PassValue _) × PassAdmitted before shard Direct admitted
    × PassAdds admitted shard (Done Nothing) after
    × (kept after.seen shard ≡ kept admitted.seen shard)
