-- Each batch of a right store was executed by the one server that was the executor in the shard's record at that time.
use Rattle.std.proofs.Common.{◌≡◌, ℕ, true, List, [], ◌∷◌, Option, Some, None, sym, ap, subst}
use Rattle.std.specs.Prelude.{IsTrue}
use Rattle.std.specs.List.{AllByRecursion}
use Rattle.std.proofs.lemmas.Bool.{and_parts, eqb-true, true≢false}
use Rattle.sm_ownership.specs.declared.record.Record.{Record}
use Rattle.sm_ownership.specs.Rules.{accepts, executor, is_server}
use Rattle.sm_store.specs.declared.item.Item.{Item}
use Rattle.sm_store.specs.Deeds.{AreRight, Charter, Deed, Electing, Expiring, Changing, Restarting, Settling}
use Rattle.sm_store.specs.Deeds.{Resettling}
use Rattle.sm_store.specs.Deeds.{Executing, Basing, Naming, Clearing, Following, Checking, Foreign, IsRight}
use Rattle.sm_store.specs.Deeds.{transaction_of}
use Rattle.sm_store.specs.Store.{Transaction, stored_record}
use Rattle.sm_store.specs.lemmas.Logs.{all_map}
use Rattle.sm_whole.specs.Runs.{AreByExecutors, IsByExecutor}

server_is : (found : Option ℕ) (server : ℕ) → is_server found server ≡ true → found ≡ Some server
server_is None server so = absurd (true≢false (sym so))
server_is (Some named) server so = ap Some (eqb-true named server so)

accepted_is : (state : Record) (server : ℕ) {Q : Type 0} (item : Item Q) → IsTrue (accepts state server item.mode)
    → executor state ≡ Some server
accepted_is state server item accepted =
    server_is (executor state) server (and_parts (is_server (executor state) server) _ accepted).0

module _ {Q P : Type 0} (charter : Charter Q P) where
  by_deed : (past : List (Transaction Q P)) (deed : Deed Q P) → IsRight charter past deed
      → AllByRecursion (IsByExecutor past) (transaction_of deed).writes
  by_deed past (Electing process) right = (tt, tt)
  by_deed past (Expiring keys) right = (tt, tt)
  by_deed past (Changing process shard change next elected placed) right = (tt, (tt, tt))
  by_deed past (Restarting process server run elected placed) right = (tt, (tt, tt))
  by_deed past (Settling settings) right = (tt, tt)
  by_deed past (Resettling process settings elected placed) right = (tt, (tt, tt))
  by_deed past (Executing shard server items head stood logged) right = (
    tt,
    (
      all_map (λ (item : Item Q). IsTrue (accepts (stored_record shard past) server item.mode))
          (λ (item : Item Q). executor (stored_record shard past) ≡ Some server)
          (accepted_is (stored_record shard past) server) items right.accepted.accepted,
      tt,
    ),
  )
  by_deed past (Basing shard number place part) right = (tt, tt)
  by_deed past (Naming shard head number parts logged) right = (tt, tt)
  by_deed past (Clearing keys) right = (tt, tt)
  by_deed past (Following server revision acks told) right = (tt, (tt, tt))
  by_deed past (Checking compares) right = tt
  by_deed past Foreign right = (tt, tt)

  pub by_executors : (log : List (Transaction Q P)) → AreRight charter log → AreByExecutors log
  by_executors [] right = tt
  by_executors (txn ∷ past) right = (
    subst (λ (one : Transaction Q P). AllByRecursion (IsByExecutor past) one.writes) (sym right.0.is)
        (by_deed past right.0.deed right.0.right),
    by_executors past right.1,
  )
