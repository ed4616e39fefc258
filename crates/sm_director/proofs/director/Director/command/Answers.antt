use Rattle.std.proofs.Common.{◌≡◌, true, refl, sym, subst, List}
use Rattle.std.specs.Prelude.{None}
use Rattle.sm_place.specs.Sound.{AreSound}
use Rattle.sm_store.specs.Deeds.{MaySend}
use Rattle.sm_lead.specs.declared.command_write.CommandWrite.{CommandWrite}
use Rattle.sm_lead.specs.declared.ack_read.AckRead.{AckRead}
use Rattle.sm_lead.specs.Waits.{has_waited}
use Rattle.sm_lead.specs.declared.follower.Follower.{Follower}
use Rattle.sm_lead.specs.declared.store_control.StoreControl.{StoreControl}
use Rattle.sm_lead.specs.Commands.{command_fault, may_name, write_of}
use Rattle.sm_lead.specs.Placements.{charter_of}
use Rattle.sm_lead.specs.Sendings.{command_transaction, sending_of}
use Rattle.sm_director.specs.Directors.{IsFollowed, IsPrepared}
use Rattle.sm_director.proofs.Refusals.{refuses}
use Rattle.sm_director.proofs.director.Director.command.Goals as goal

-- the transaction is the one in the law for the control that judged it
pub returns-in-Sent-command-clause-sent : goal.returns-in-Sent-command-clause-sent
returns-in-Sent-command-clause-sent c =
    let sent = c.in-Sent-command.sent in
    let judged = c.in-Sent-command.ensures in
    let same = sym judged.1 in
    let sound = subst (λ (k : StoreControl). AreSound k.desk.books) same c.soundness.ensures.books in
    let allowed = subst (λ (k : StoreControl). command_fault k c.args.command ≡ None) same judged.0 in
    let acks = c.args.self.now.acks.items in
    let waited : has_waited c.in-Stands.control acks c.args.command ≡ true =
    subst (λ (read : List AckRead). has_waited c.in-Stands.control read c.args.command ≡ true)
    c.deref-in-Stands.ensures.value
    (c.if-not-has_waited.ensures.waited refl) in
    let written = subst (λ (k : StoreControl). sent.write ≡ write_of k c.args.process c.args.command) same judged.3 in
    let named = subst (λ (k : StoreControl). may_name k (write_of k c.args.process c.args.command) ≡ true) same
    (sym c.if-not-is_named.ensures) in (
      c.in-Stands.control,
      sent,
      sym c.in-Stands.ensures.value,
      judged,
      subst (λ (fs : List Follower). IsFollowed c.in-Stands.control fs c.args.command) c.deref.ensures.value
          (c.if-not-is_followed.ensures refl),
      subst
          (λ (acks : List AckRead). IsPrepared c.in-Stands.control acks c.args.command) c.deref-in-Stands.ensures.value
          (c.if-not-has_waited.ensures.prepared refl),
      waited,
      λ reading parts log by made.
          subst (λ (it : CommandWrite). MaySend (charter_of reading sent.control.waits parts) log
          (command_transaction (sending_of sent.control it)))
          (sym written)
          (c.commands_may_be_sent.ensures reading parts log sent.control acks c.args.process c.args.command sound by
          made allowed (subst (λ (k : StoreControl). has_waited k acks c.args.command ≡ true) same waited) named),
      refl,
    )

pub returns-then-not-is_named-clause-refused : goal.returns-then-not-is_named-clause-refused
returns-then-not-is_named-clause-refused c =
    refuses c.in-Stands.control c.args.command c.args.self.now c.unnamed-refused.result
    (sym c.in-Stands.ensures.value) c.unnamed-refused.ensures

pub returns-in-Refused-clause-refused : goal.returns-in-Refused-clause-refused
returns-in-Refused-clause-refused c =
    (c.in-Stands.control, sym c.in-Stands.ensures.value, c.in-Refused.ensures.0)

pub returns-then-not-is_followed-clause-refused : goal.returns-then-not-is_followed-clause-refused
returns-then-not-is_followed-clause-refused c = (c.in-Stands.control, sym c.in-Stands.ensures.value, tt)

pub returns-then-not-has_waited-clause-refused : goal.returns-then-not-has_waited-clause-refused
returns-then-not-has_waited-clause-refused c = (c.in-Stands.control, sym c.in-Stands.ensures.value, tt)

pub returns-in-Sent-clause-refused : goal.returns-in-Sent-clause-refused
returns-in-Sent-clause-refused c = (c.in-Sent.sent, sym c.in-Sent.ensures.value)
