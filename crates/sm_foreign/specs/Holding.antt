-- Passes with the permits that they hold.
use Rattle.std.specs.Prelude.{ℕ, ◌≡◌, ◌≢◌, ◌+◌, List, Option, Some, None}
use Rattle.std.specs.Option.{option_map}
use Rattle.sm_ownership.specs.declared.entry.Ending.TheVariants.{Nothing}
use Rattle.sm_ownership.specs.declared.entry.Kind.TheVariants.{Done}
use Rattle.sm_ownership.specs.declared.mode.Mode.{Mode}
use Rattle.sm_ownership.specs.declared.record.Record.{Record}
use Rattle.sm_ownership.specs.History.{NoneBy}
use Rattle.sm_rule.specs.declared.permit.Front.{Front}
use Rattle.sm_rule.specs.declared.view.HeldShard.{HeldShard}
use Rattle.sm_rule.specs.Admissions.{PassAdmitted, PermitValue}
use Rattle.sm_rule.specs.Boards.{BoardValue, limit_at}
use Rattle.sm_rule.specs.Passes.{PassAdds, PassValue, record_of}
use Rattle.sm_rule.specs.Views.{EndsWith}
use Rattle.sm_foreign.specs.declared.foreign.Foreign.{Foreign}

-- a pass has not acted: it holds nothing, isn't the control, and has no entry in its history
abbrev pub HasNotActed : {Q : Type 0} → PassValue Q → Type 0
HasNotActed pass = (pass.held ≡ None) × (pass.number ≢ 0) × NoneBy pass.number pass.seen

-- the shard that a pass holds, with its record since the admission
abbrev pub admission_of : {Q : Type 0} → Option (HeldShard Q) → Option (ℕ × Record)
admission_of held = option_map (λ it. (it.shard, it.state)) held

-- the generation of the shard that a pass holds, since the admission
abbrev pub generation_held : {Q : Type 0} → PassValue Q → Option ℕ
generation_held pass = option_map (λ held. held.state.generation) pass.held

-- the fencing token of the admission that a pass holds, if any, with tokens that begin after this number
abbrev pub token_of : {Q : Type 0} → ℕ → PassValue Q → Option ℕ
token_of after pass = option_map (λ generation. after + generation) (generation_held pass)

-- a pass on this board that holds this shard has this permit, whose body is the shard's and unchanged
abbrev pub IsPermitOf : {S Q : Type 0} → (S → ℕ → List Q → Type 0) → (S → ℕ) → BoardValue → Option (HeldShard Q)
    → Option (PermitValue S) → Type 0
IsPermitOf keeps limit board held None = held ≡ None
IsPermitOf keeps limit board held (Some permit) =
    (permit.board ≡ board) × (admission_of held ≡ Some (permit.shard, permit.state))
    × EndsWith keeps held permit.body Nothing × (limit permit.body ≡ limit_at board.limits permit.shard)

-- a pass to foreign bodies, and its permit
abbrev pub ForeignValue : Type 0
ForeignValue = PassValue (Unit {0}) × Option (PermitValue Foreign)

-- the permit is one of the shard, whose body has this number
abbrev pub IsPermitFor : Option (PermitValue Foreign) → ℕ → ℕ → Type 0
IsPermitFor (Some permit) shard number = (permit.shard ≡ shard) × (permit.body.number ≡ number)
IsPermitFor None shard number = ⊥

-- the pass was admitted to the shard and holds the permit, and the number is that of the shard's body
abbrev pub AdmitsPass : ForeignValue → ForeignValue → ℕ → Mode → ℕ → Type 0
AdmitsPass before after shard mode number =
    PassAdmitted before.0 shard mode after.0 × IsPermitFor after.1 shard number
    × (limit_at before.0.board.limits shard ≡ number)

-- the admission of this permit ended, and left the shard at this generation
abbrev pub EndsPermit : Option (PermitValue Foreign) → PassValue (Unit {0}) → PassValue (Unit {0}) → ℕ → Type 0
EndsPermit (Some permit) before after generation =
    PassAdds before permit.shard (Done Nothing) after × (generation ≡ (record_of after permit.shard).generation)
EndsPermit None before after generation = ⊥

-- the admission of the pass ended, and it holds nothing
abbrev pub EndsPass : ForeignValue → ForeignValue → Front → Type 0
EndsPass before after front = EndsPermit before.1 before.0 after.0 front.generation × (after.1 ≡ None)
