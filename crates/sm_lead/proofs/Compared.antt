-- The compares are those in the transaction's numbers.
use Rattle.std.proofs.Common.{◌≡◌, ℕ, ap}
use Rattle.sm_desk.specs.declared.command.Command.{Command}
use Rattle.sm_desk.specs.declared.command.Command.TheVariants.{Change, Ask, Approve, Stopped, Back, Fail}
use Rattle.sm_store.specs.Store.{Transaction}
use Rattle.sm_lead.specs.declared.store_control.StoreControl.{StoreControl}
use Rattle.sm_lead.specs.Commands.{write_of}
use Rattle.sm_lead.specs.Sendings.{command_transaction, compares_of, sending_of}

module _ {Q P : Type 0} where
  pub compares_said : (control : StoreControl) (process : ℕ) (command : Command) (txn : Transaction Q P)
      → let sending = sending_of control (write_of control process command) in
      txn ≡ command_transaction sending → txn.compares ≡ compares_of sending
  compares_said control process (Change k change) txn is = ap (λ (t : Transaction Q P). t.compares) is
  compares_said control process (Ask a) txn is = ap (λ (t : Transaction Q P). t.compares) is
  compares_said control process (Approve a) txn is = ap (λ (t : Transaction Q P). t.compares) is
  compares_said control process (Stopped a) txn is = ap (λ (t : Transaction Q P). t.compares) is
  compares_said control process (Back a) txn is = ap (λ (t : Transaction Q P). t.compares) is
  compares_said control process (Fail a) txn is = ap (λ (t : Transaction Q P). t.compares) is
