use Rattle.std.proofs.Common.{◌≡◌, ℕ, ◌<◌, false}
use Rattle.sm_tasks.specs.Approvals.{is_full}
use Rattle.sm_tasks.proofs.groups.full_group.Given as goal

abbrev pub invariant-loop-g : goal.invariant-loop-g
invariant-loop-g l = (k : ℕ) → k < l.g → is_full l.books l.fn.a k ≡ false
