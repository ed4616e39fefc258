-- The counts of a closure for the items at which it is called.
use Rattle.std.specs.Prelude.{ℕ, ◌≡◌, ◌+◌}
use denote.Ref.{MutBor}
use denote.Param.Members.{Shared}
use Rattle.sm_load.specs.declared.inc_counts.IncCounts.{IncCounts}

module _ {F T : Type 0} (calls : Shared F (MutBor T × Unit {0}) (IncCounts × (MutBor T × Unit {0}))) (f : F) where
  -- a call of f at a `&mut` to the item may count so much, and change the item like this
  pub record MayCount (before : T) (acked refused : ℕ) (after : T) : Type 0 where
    pub argument : MutBor T
    pub argument_is : argument.now ≡ before
    pub after_call : MutBor T
    pub call : calls.post f (argument, tt) (record { acked = acked; refused = refused }, (after_call, tt))
    pub left : after_call.now ≡ after

  -- each call of f counts so many in all
  abbrev pub CountsAll : ℕ → Type 0
  CountsAll each =
      (before : T) (acked refused : ℕ) (after : T) → MayCount before acked refused after → acked + refused ≡ each
