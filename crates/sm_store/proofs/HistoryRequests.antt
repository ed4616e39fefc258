-- The requests of a store's history are those that are made, and the history is legal.
use Rattle.std.proofs.Common.{reverse, map, Option, None, ◌++◌, append_assoc, append-nil, ◌≡◌, ℕ, ◌<◌, ◌≤◌, Bool, true}
use Rattle.std.proofs.Common.{false, List, [], ◌∷◌, length, refl, sym, ap, subst, ◌∙◌, ⊎_elim}
use Rattle.std.specs.Prelude.{◌==◌, ◌||◌, if◌then◌else◌}
use Rattle.std.specs.List.{filter_map}
use Rattle.std.proofs.lemmas.Bool.{cases_Bool, cond_both}
use Rattle.std.proofs.lemmas.List.{reverse-append, map-append}
use Rattle.std.proofs.lemmas.List.Elements.{filter_map-append}
use Rattle.sm_ownership.specs.declared.change.Change.{Change}
use Rattle.sm_ownership.specs.declared.entry.Ending.TheVariants.{Request}
use Rattle.sm_ownership.specs.declared.entry.Entry.{Entry}
use Rattle.sm_ownership.specs.declared.entry.Kind.TheVariants.{Change as Changed, Admit, Done}
use Rattle.sm_ownership.specs.History.{record_at, table_of, table_of_latest, IsLegal, IsLegalLatest, all_of, ending_of}
use Rattle.sm_ownership.specs.History.{request_of}
use Rattle.sm_store.specs.declared.item.Item.{Item}
use Rattle.sm_store.specs.Deeds.{AreRight, Charter, Deed, Electing, Expiring, Changing, Executing, Basing, Naming}
use Rattle.sm_store.specs.Deeds.{Clearing, Following, Restarting, Settling, Checking, Foreign, transaction_of}
use Rattle.sm_store.specs.Deeds.{Resettling}
use Rattle.sm_store.specs.Histories.{history_of, with_requests, with_write}
use Rattle.sm_store.specs.Store.{Deletes, Transaction, head_key, left_by, made, made_by, stored_record, touches}
use Rattle.sm_store.proofs.Histories.{agrees, with_deed}

twice : {A : Type 0} (xs : List A) → reverse (reverse xs) ≡ xs
twice [] = refl
twice (x ∷ xs) = ap reverse (reverse-append (x ∷ []) xs) ∙ reverse-append (reverse xs) (x ∷ [])
    ∙ ap (λ (list : List _). x ∷ list) (twice xs)

module _ {Q : Type 0} where
  -- the request of an entry, if the entry belongs to the shard
  abbrev request_at : ℕ → Entry Q → Option Q
  request_at shard entry = if entry.shard == shard then request_of (ending_of entry.kind) else None

  abbrev requests : List (Item Q) → List Q
  requests items = map (λ item. item.request) items

  pair_of : (shard server : ℕ) (item : Item Q) (k : ℕ) (rest : List Q)
      → filter_map (request_at k) (record {
        actor = server;
        shard = shard;
        kind =
            Admit server item.mode;
      } ∷ record { actor = server; shard = shard; kind = Done (Request item.request) } ∷ [])
      ++ (if shard == k then rest else []) ≡ (if shard == k then item.request ∷ rest else [])
  pair_of shard server item k rest =
      ⊎_elim
      (λ (yes : (shard == k) ≡ true). rw yes refl)
      (λ (no : (shard == k) ≡ false). rw no refl)
      (cases_Bool (shard == k))

  requests_of_batch : (shard server k : ℕ) (items : List (Item Q)) (earlier : List (Entry Q))
      → all_of (reverse (with_requests shard server earlier items)) k ≡ all_of (reverse earlier) k
      ++ (if shard == k then requests items else [])
  requests_of_batch shard server k [] earlier =
      cond_both (shard == k) [] [] (λ list. all_of (reverse earlier) k ≡ all_of (reverse earlier) k ++ list)
      (λ _. sym (append-nil (all_of (reverse earlier) k))) (λ _. sym (append-nil (all_of (reverse earlier) k)))
  requests_of_batch shard server k (item ∷ items) earlier =
      let done : Entry Q = record { actor = server; shard = shard; kind = Done (Request item.request) } in
      let admit : Entry Q = record { actor = server; shard = shard; kind = Admit server item.mode } in
      let rest : List Q = if shard == k then requests items else [] in
      requests_of_batch shard server k items (done ∷ admit ∷ earlier)
      ∙ ap (λ (list : List (Entry Q)). all_of list k ++ rest) (reverse-append (done ∷ admit ∷ []) earlier)
      ∙ ap (λ (list : List Q). list ++ rest) (filter_map-append (request_at k) (reverse earlier) (admit ∷ done ∷ []))
      ∙ append_assoc (all_of (reverse earlier) k) (filter_map (request_at k) (admit ∷ done ∷ [])) rest
      ∙ ap (λ (list : List Q). all_of (reverse earlier) k ++ list) (pair_of shard server item k (requests items))

  no_request : (shard k : ℕ) (change : Change) (earlier : List (Entry Q))
      → all_of (reverse (record { actor = 0; shard = shard; kind = Changed change } ∷ earlier)) k
      ≡ all_of (reverse earlier) k
  no_request shard k change earlier =
      let entry : Entry Q = record { actor = 0; shard = shard; kind = Changed change } in
      let none : filter_map (request_at k) (entry ∷ []) ≡ [] = cond_both (shard == k) None None
      (λ (o : Option Q). filter_map (λ (x : Option Q). x) (o ∷ []) ≡ []) (λ _. refl) (λ _. refl) in
      ap (λ (list : List (Entry Q)). all_of list k) (reverse-append (entry ∷ []) earlier)
      ∙ filter_map-append (request_at k) (reverse earlier) (entry ∷ [])
      ∙ ap (λ (list : List Q). all_of (reverse earlier) k ++ list) none
      ∙ append-nil (all_of (reverse earlier) k)

  map_if : (b : Bool) (items : List (Item Q)) → (if b then requests items else []) ≡ requests (if b then items else [])
  map_if true items = refl
  map_if false items = refl

  nothing : (k : ℕ) (earlier : List (Entry Q)) (b : Bool) (none : List (Item Q)) → none ≡ []
      → all_of (reverse earlier) k ≡ all_of (reverse earlier) k ++ requests (if b then none else [])
  nothing k earlier b none is =
      sym (append-nil (all_of (reverse earlier) k))
      ∙ ap (λ (list : List (Item Q)). all_of (reverse earlier) k ++ requests list)
      (sym (cond_both b none [] (λ list. list ≡ []) (λ _. is) (λ _. refl)))

made_is : {Q : Type 0} (shard k : ℕ) (items : List (Item Q))
    → (if (shard == k) || false then (if shard == k then items else []) ++ [] else [])
    ≡ (if shard == k then items else [])
made_is shard k items =
    ⊎_elim
    (λ (yes : (shard == k) ≡ true). rw yes (append-nil items))
    (λ (no : (shard == k) ≡ false). rw no refl)
    (cases_Bool (shard == k))

module _ {Q P : Type 0} (charter : Charter Q P) where
  requests_of_deed : (k : ℕ) (deed : Deed Q P) (earlier : List (Entry Q))
      → all_of (reverse (with_deed charter 0 deed earlier)) k
      ≡ all_of (reverse earlier) k ++ requests (made_by k (transaction_of deed).writes)
  requests_of_deed k (Electing process) earlier = sym (append-nil (all_of (reverse earlier) k))
  requests_of_deed k (Expiring keys) earlier =
      nothing k earlier (touches {Q = Q} {P = P} (head_key k) (Deletes keys ∷ [])) [] refl
  requests_of_deed k (Changing process shard change next elected placed) earlier =
      no_request shard k change earlier ∙ sym (append-nil (all_of (reverse earlier) k))
  requests_of_deed k (Executing shard server items head stood logged) earlier =
      requests_of_batch shard server k items earlier
      ∙ ap (λ (list : List Q). all_of (reverse earlier) k ++ list) (map_if (shard == k) items
      ∙ ap requests (sym (made_is shard k items)))
  requests_of_deed k (Basing shard number place part) earlier = sym (append-nil (all_of (reverse earlier) k))
  requests_of_deed k (Naming shard head number parts logged) earlier =
      nothing k earlier (touches (head_key k) (transaction_of {Q = Q} {P = P}
      (Naming shard head number parts logged)).writes) [] refl
  requests_of_deed k (Clearing keys) earlier =
      nothing k earlier (touches {Q = Q} {P = P} (head_key k) (Deletes keys ∷ [])) [] refl
  requests_of_deed k (Restarting process server run elected placed) earlier =
      sym (append-nil (all_of (reverse earlier) k))
  requests_of_deed k (Settling settings) earlier = sym (append-nil (all_of (reverse earlier) k))
  requests_of_deed k (Resettling process settings elected placed) earlier =
      sym (append-nil (all_of (reverse earlier) k))
  requests_of_deed k (Following server revision acks told) earlier = sym (append-nil (all_of (reverse earlier) k))
  requests_of_deed k (Checking compares) earlier = sym (append-nil (all_of (reverse earlier) k))
  requests_of_deed k Foreign earlier = sym (append-nil (all_of (reverse earlier) k))

  pub requests_so : (k : ℕ) (log : List (Transaction Q P)) → AreRight charter log
      → all_of (reverse (history_of log)) k ≡ requests (made k log)
  requests_so k [] right = refl
  requests_so k (txn ∷ earlier) right =
      subst (λ (t : Transaction Q P). all_of (reverse (left_by with_write (history_of earlier) t.writes)) k
      ≡ all_of (reverse (history_of earlier)) k ++ requests (made_by k t.writes)) (sym right.0.is)
      (requests_of_deed k right.0.deed (history_of earlier))
      ∙ ap (λ (list : List Q). list ++ requests (made_by k txn.writes)) (requests_so k earlier right.1)
      ∙ sym (map-append (λ (item : Item Q). item.request) (made k earlier) (made_by k txn.writes))

module _ {Q P : Type 0} (charter : Charter Q P) where
  pub legal_history : (ceiling : ℕ) (log : List (Transaction Q P)) → AreRight charter log
      → length (history_of log) ≤ ceiling
      → IsLegal charter.count ceiling (reverse (history_of log))
  legal_history ceiling log right room =
      subst (IsLegalLatest charter.count ceiling) (sym (twice (history_of log)))
      (agrees charter ceiling log right room).legal

  pub table_so : (ceiling : ℕ) (log : List (Transaction Q P)) → AreRight charter log → length (history_of log) ≤ ceiling
      → (shard : ℕ) → shard < charter.count
      → (record_at (table_of charter.count ceiling (reverse (history_of log))) shard).stand
      ≡ (stored_record shard log).stand
  table_so ceiling log right room shard below =
      ap (λ (list : List (Entry Q)). (record_at (table_of_latest charter.count ceiling list) shard).stand)
      (twice (history_of log))
      ∙ (agrees charter ceiling log right room).stand shard below
