-- Boards as contracts see them.
use Rattle.std.specs.Prelude.{ℕ, nat_lt, ◌==◌, List, Option, Some, None, if◌then◌else◌, map, slice_index_or}
use Rattle.atomic_table.specs.Seated.{TableId}
use Rattle.sm_ownership.specs.declared.record.TheConstants.{MAX_GENERATION}
use Rattle.sm_ranges.specs.declared.limits.TheConstants.{MAX_SHARDS}
use Rattle.sm_rule.specs.declared.limits.Limits.{Limits}
use Rattle.sm_rule.specs.declared.make_fault.MakeFault.{MakeFault}
use Rattle.sm_rule.specs.declared.make_fault.MakeFault.TheVariants.{NoShard, TooMany, BadCeiling}

-- which board it is, how many shards it has, the ceiling of their generations, and the most that the body of each keeps
pub record BoardValue : Type 0 where
  pub id : TableId
  pub limits : Limits

-- the limits of a board made from so many bodies
abbrev pub limits_of : {S : Type 0} → (S → ℕ) → ℕ → ℕ → List S → Limits
limits_of limit count ceiling bodies = record { count = count; ceiling = ceiling; bodies = map limit bodies }

-- the most requests that the body of a shard keeps
abbrev pub limit_at : Limits → ℕ → ℕ
limit_at limits shard = slice_index_or limits.bodies shard 0

-- the first reason, other than a lack of memory, for which there is no board of so many shards below this ceiling
abbrev pub make_fault : ℕ → ℕ → Option MakeFault
make_fault count ceiling =
    if count == 0 then Some NoShard
    else if nat_lt MAX_SHARDS count then Some TooMany
    else if nat_lt ceiling 3 then Some BadCeiling
    else if nat_lt MAX_GENERATION ceiling then Some BadCeiling
    else None
