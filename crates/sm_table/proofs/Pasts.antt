-- The requests of a shard while a history grows.
use Rattle.std.proofs.Common.{◌≡◌, ℕ, false, List, [], ◌∷◌, ◌++◌}
use Rattle.std.specs.Prelude.{◌==◌}
use Rattle.sm_ownership.specs.declared.entry.Ending.{Ending}
use Rattle.sm_ownership.specs.declared.entry.Ending.TheVariants.{Nothing, Request, Checkpoint}
use Rattle.sm_ownership.specs.declared.entry.Entry.{Entry}
use Rattle.sm_ownership.specs.History.{ending_of}
use Rattle.sm_ownership.specs.lemmas.Requests.{all_of-push_checkpoint, all_of-push_none, all_of-push_other}
use Rattle.sm_ownership.specs.lemmas.Requests.{all_of-push_some, first_of-push_checkpoint, first_of-push_none}
use Rattle.sm_ownership.specs.lemmas.Requests.{first_of-push_other, first_of-push_some}
use Rattle.sm_table.specs.Bodies.{past_after, past_of}

module _ {Q : Type 0} (history : List (Entry Q)) (entry : Entry Q) where
  abbrev longer : List (Entry Q)
  longer = history ++ entry ∷ []

  -- an entry of another shard doesn't change them
  pub past_of-push_other : (shard : ℕ) → (entry.shard == shard) ≡ false → past_of longer shard ≡ past_of history shard
  past_of-push_other shard other = λ i. record {
    all = all_of-push_other history entry shard other i;
    first = first_of-push_other history entry shard other i;
  }

  -- an entry that ends no admission, or ends it with nothing, doesn't change them either
  pub past_of-push_none : (shard : ℕ) → ending_of entry.kind ≡ Nothing → past_of longer shard ≡ past_of history shard
  past_of-push_none shard nothing = λ i. record {
    all = all_of-push_none history entry nothing shard i;
    first = first_of-push_none history entry nothing shard i;
  }

  -- an entry of the shard changes them by how it ends the admission
  pub past_of-push : (ending : Ending Q) → ending_of entry.kind ≡ ending
      → past_of longer entry.shard ≡ past_after (past_of history entry.shard) ending
  past_of-push Nothing is = past_of-push_none entry.shard is
  past_of-push (Request request) is = λ i. record {
    all = all_of-push_some history entry request is i;
    first = first_of-push_some history entry request is i;
  }
  past_of-push Checkpoint is = λ i. record {
    all = all_of-push_checkpoint history entry is i;
    first = first_of-push_checkpoint history entry is i;
  }
