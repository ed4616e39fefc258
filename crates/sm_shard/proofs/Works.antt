-- The knowledge of a server about the base that it makes, and the transactions that it may send by that.
use Rattle.std.proofs.Common.{◌≡◌, ◌≢◌, ℕ, ◌+◌, ◌<◌, ◌≤◌, Bool, true, false, List, [], ◌∷◌, ◌++◌, length, refl, sym, ap}
use Rattle.std.proofs.Common.{subst, ◌∙◌, arith, ⊎_elim, append_assoc, length-append}
use Rattle.std.specs.Prelude.{Option, Some, None, IfSome, not, ◌==◌, ◌&&◌, nat_le, nat_lt, slice_get, if◌then◌else◌}
use Rattle.std.specs.Global.{Vec}
use Rattle.std.specs.List.{AllByRecursion}
use Rattle.std.proofs.lemmas.Bool.{and_parts, and_from, cases_eq, eq-eqb, eqb-true, true≢false}
use Rattle.std.proofs.lemmas.Bool.Decides.{nat_tests}
use Rattle.std.proofs.lemmas.Option.{none-some}
use Rattle.sm_store.specs.declared.head.Head.{Head}
use Rattle.sm_store.specs.declared.item.Item.{Item}
use Rattle.sm_store.specs.declared.store_key.PassingKey.{PassingKey}
use Rattle.sm_store.specs.declared.store_key.PassingKey.TheVariants as keys
use Rattle.sm_store.specs.Clients.{Automaton}
use Rattle.sm_store.specs.Store.{Transaction, head_key, head_of, part_at, part_key}
use Rattle.sm_store.specs.Deeds.{Basing, Charter, HasRequests, MayClear, MayName, MaySend, ShardLog, WasFound}
use Rattle.sm_store.specs.Deeds.{done_at, shard_log}
use Rattle.sm_store.specs.Deeds.{transaction_of}
use Rattle.sm_store.specs.lemmas.Growth.{found_grows}
use Rattle.sm_shard.specs.declared.base_work.BaseStage.{BaseStage}
use Rattle.sm_shard.specs.declared.base_work.BaseStage.TheVariants.{Writing, Written, Naming}
use Rattle.sm_shard.specs.declared.base_work.BaseWork.{BaseWork}
use Rattle.sm_shard.specs.declared.base_work.NamedBase.{NamedBase}
use Rattle.sm_shard.specs.Bases.{Part, base_of}
use Rattle.sm_shard.specs.Decisions.{is_behind, is_naming, named_by}
use Rattle.sm_shard.specs.ShardServers.{ArePlaced, IsNewBase, IsWorkTrue, StoreLog, WasMade, basing_by, basing_from}
use Rattle.sm_shard.specs.ShardServers.{is_writing, naming_next, written_now}

pub le_of : (a b : ℕ) → nat_le a b ≡ true → a ≤ b
le_of a b is = grind (arith, nat_tests)

pub lt_of : (a b : ℕ) → nat_lt a b ≡ true → a < b
lt_of a b is = grind (arith, nat_tests)

get_front : {A : Type 0} (front : List A) (x : A) (rest : List A)
    → slice_get (front ++ x ∷ rest) (length front) ≡ Some x
get_front [] x rest = refl
get_front (y ∷ front) x rest = get_front front x rest

if_is : {A : Type 0} (b : Bool) (x y : A) → (if b then Some x else None) ≡ Some y → (b ≡ true) × (x ≡ y)
if_is true x y is = (refl, cc)
if_is false x y is = absurd (none-some _ is)

not_writing : (stage : BaseStage) → is_naming stage ≡ true → not (is_writing stage) ≡ true
not_writing Writing is = absurd (true≢false (sym is))
not_writing Written is = absurd (true≢false (sym is))
not_writing Naming is = refl

-- the head was found in the log
pub head_found : {Q R : Type 0} (log : StoreLog Q R) (shard : ℕ) (read : ShardLog Q) (revision : ℕ)
    → WasFound (shard_log shard) (head_key shard) log read revision
    → WasFound (head_of shard) (head_key shard) log read.head revision
head_found log shard read revision found = record {
  later = found.later;
  past = found.past;
  is = found.is;
  at = found.at;
  was = ap (λ (l : ShardLog _). l.head) found.was;
}

module _ {Q R : Type 0} where
  placed_grows : (more log : StoreLog Q R) (shard number count : ℕ) → ArePlaced log shard number count
      → ArePlaced (more ++ log) shard number count
  placed_grows more log shard number count placed place below =
      let was = placed place below in (was.0, was.1, found_grows _ _ more log _ _ was.2)

  placed_one : (log : StoreLog Q R) (shard number place : ℕ) (part : Part R) (revision : ℕ)
      → WasMade log (transaction_of (Basing shard number place part)) revision
      → WasFound (part_at shard number place) (part_key shard number place) log (Some part) revision
  placed_one log shard number place part revision was =
      let here : (shard == shard && (number == number && place == place)) ≡ true =
      and_from (shard == shard) (number == number && place == place) (eq-eqb shard shard refl)
      (and_from (number == number) (place == place) (eq-eqb number number refl) (eq-eqb place place refl)) in
      record {
        later = was.later;
        past = done_at revision (Basing shard number place part) ∷ was.past;
        is = was.is;
        at = rw here refl;
        was = rw here refl;
      }

  placed_from : (log : StoreLog Q R) (shard number start : ℕ) (parts : List (Part R))
      → AllByRecursion (λ (txn : Transaction Q (Part R)). (revision : ℕ) × WasMade log txn revision)
      (basing_from shard number start parts)
      → (place : ℕ) → start ≤ place → place < start + length parts → (part : Part R) × (revision : ℕ)
      × WasFound (part_at shard number place) (part_key shard number place) log (Some part) revision
  placed_from log shard number start [] all place from below = absurd (omega arith)
  placed_from log shard number start (part ∷ parts) all place from below =
      ⊎_elim
      (λ (same : start ≡ place).
      let made = all.0 in
      subst (λ (k : ℕ). (p : Part R) × (revision : ℕ)
      × WasFound (part_at shard number k) (part_key shard number k) log (Some p) revision) same
      (part, made.0, placed_one log shard number start part made.0 made.1))
      (λ (apart : start ≢ place).
      placed_from log shard number (start + 1) parts all.1 place (omega arith) (omega arith))
      (cases_eq start place)

module _ {M Q R : Type 0} (service : Automaton M Q R) where
  work_grows : (more log : StoreLog Q R) (shard : ℕ) (head : Head) (work : BaseWork R)
      → IsWorkTrue service log shard head work → IsWorkTrue service (more ++ log) shard head work
  work_grows more log shard head work was = record {
    newer = was.newer;
    items = was.items;
    requests = record {
      head = was.requests.head;
      revision = was.requests.revision;
      log_was = found_grows _ _ more log _ _ was.requests.log_was;
      all = was.requests.all;
    };
    parts = was.parts;
    placed = λ there. placed_grows more log shard work.number (length work.parts.items) (was.placed there);
  }

  -- knowledge about a base is still true later
  pub base_grows : (more log : StoreLog Q R) (shard : ℕ) (head : Head) (base : Option (BaseWork R))
      → IfSome base (IsWorkTrue service log shard head) → IfSome base (IsWorkTrue service (more ++ log) shard head)
  base_grows more log shard head None was = tt
  base_grows more log shard head (Some work) was = work_grows more log shard head work was

  -- also if the head has more batches
  pub base_later : (log : StoreLog Q R) (shard : ℕ) (old new : Head) (base : Option (BaseWork R)) → new.base ≡ old.base
      → IfSome base (IsWorkTrue service log shard old) → IfSome base (IsWorkTrue service log shard new)
  base_later log shard old new None same was = tt
  base_later log shard old new (Some work) same was =
      let newer = was.newer in
      record {
        newer = omega arith;
        items = was.items;
        requests = was.requests;
        parts = was.parts;
        placed = was.placed;
      }

  naming_by : (log : StoreLog Q R) (shard : ℕ) (head : Head) (number : ℕ) (parts : Vec (Part R)) (stage : BaseStage)
      → IsWorkTrue service log shard head (record { number = number; parts = parts; stage = stage })
      → IfSome (naming_next (Some (record { number = number; parts = parts; stage = stage })))
      (IsWorkTrue service log shard head)
  naming_by log shard head number parts Writing was = was
  naming_by log shard head number parts Written was = record {
    newer = was.newer;
    items = was.items;
    requests = was.requests;
    parts = was.parts;
    placed = λ there. was.placed refl;
  }
  naming_by log shard head number parts Naming was = was

  pub base_naming : (log : StoreLog Q R) (shard : ℕ) (head : Head) (base : Option (BaseWork R))
      → IfSome base (IsWorkTrue service log shard head)
      → IfSome (naming_next base) (IsWorkTrue service log shard head)
  base_naming log shard head None was = tt
  base_naming log shard head (Some work) was = naming_by log shard head work.number work.parts work.stage was

  written_by : (log : StoreLog Q R) (shard : ℕ) (head : Head) (number : ℕ) (parts : Vec (Part R)) (stage : BaseStage)
      → IsWorkTrue service log shard head (record { number = number; parts = parts; stage = stage })
      → AllByRecursion (λ (txn : Transaction Q (Part R)). (revision : ℕ) × WasMade log txn revision)
      (basing_from shard number 0 parts.items)
      → IfSome (written_now (Some (record { number = number; parts = parts; stage = stage })))
      (IsWorkTrue service log shard head)
  written_by log shard head number parts Writing was all = record {
    newer = was.newer;
    items = was.items;
    requests = was.requests;
    parts = was.parts;
    placed = λ there place below. placed_from log shard number 0 parts.items all place (omega arith) (omega arith);
  }
  written_by log shard head number parts Written was all = was
  written_by log shard head number parts Naming was all = was

  pub base_written : (log : StoreLog Q R) (shard : ℕ) (head : Head) (base : Option (BaseWork R))
      → IfSome base (IsWorkTrue service log shard head)
      → AllByRecursion (λ (txn : Transaction Q (Part R)). (revision : ℕ) × WasMade log txn revision)
      (basing_by shard base)
      → IfSome (written_now base) (IsWorkTrue service log shard head)
  base_written log shard head None was all = tt
  base_written log shard head (Some work) was all =
      written_by log shard head work.number work.parts work.stage was all

  -- a base that was begun is that of the requests that were made
  begun_one : (log : StoreLog Q R) (shard logged : ℕ) (head : Head) (items : List (Item Q)) (work : BaseWork R)
      → WasFound (shard_log shard) (head_key shard) log (record { head = head; items = items }) logged
      → head.base < head.batches → IsNewBase service head.batches items work → IsWorkTrue service log shard head work
  begun_one log shard logged head items work found newer begun =
      let number = begun.number_is in
      record {
        newer = omega arith;
        items = items;
        requests = record { head = head; revision = logged; log_was = found; all = sym number };
        parts = begun.parts;
        placed = λ there. absurd (true≢false (sym there ∙ ap (λ (s : BaseStage). not (is_writing s)) begun.stage));
      }

  pub base_begun : (log : StoreLog Q R) (shard logged : ℕ) (head : Head) (items : List (Item Q))
      (base : Option (BaseWork R))
      → WasFound (shard_log shard) (head_key shard) log (record { head = head; items = items }) logged
      → head.base < head.batches → IfSome base (IsNewBase service head.batches items)
      → IfSome base (IsWorkTrue service log shard head)
  base_begun log shard logged head items None found newer begun = tt
  base_begun log shard logged head items (Some work) found newer begun =
      begun_one log shard logged head items work found newer begun

  basing_may : (charter : Charter Q (Part R)) (log : StoreLog Q R) (shard number : ℕ) (items : List (Item Q))
      → HasRequests log shard number items → (front rest : List (Part R)) → charter.parts items ≡ front ++ rest
      → (place : ℕ) → place ≡ length front
      → AllByRecursion (MaySend charter log) (basing_from shard number place rest)
  basing_may charter log shard number items has front [] is place place_is = tt
  basing_may charter log shard number items has front (part ∷ rest) is place place_is = (
    record {
      deed = Basing shard number place part;
      is = refl;
      may = record {
        items = items;
        requests = has;
        is = ap (λ (list : List (Part R)). slice_get list place) is
            ∙ ap (slice_get (front ++ part ∷ rest)) place_is
            ∙ get_front front part rest;
      };
    },
    basing_may charter log shard number items has (front ++ part ∷ [])
        rest (is ∙ sym (append_assoc front (part ∷ []) rest)) (place + 1)
        (omega (arith, length-append front (part ∷ []))),
  )

  -- the parts of a base may be written
  pub bases_may : (charter : Charter Q (Part R)) (log : StoreLog Q R) (shard : ℕ) (head : Head)
      (base : Option (BaseWork R)) → charter.parts ≡ base_of service
      → IfSome base (IsWorkTrue service log shard head)
      → AllByRecursion (MaySend charter log) (basing_by shard base)
  bases_may charter log shard head None parts was = tt
  bases_may charter log shard head (Some work) parts was =
      basing_may charter log shard work.number was.items was.requests [] work.parts.items
      (ap (λ (f : List (Item Q) → List (Part R)). f was.items) parts ∙ sym was.parts) 0 refl

  -- the head may name a base that is there
  pub name_may : (charter : Charter Q (Part R)) (log : StoreLog Q R) (shard logged : ℕ) (head : Head)
      (found : Option (BaseWork R)) (base : NamedBase) → charter.parts ≡ base_of service
      → WasFound (head_of shard) (head_key shard) log head logged
      → IfSome found (IsWorkTrue service log shard head) → named_by found ≡ Some base
      → MayName charter log shard head base.number base.parts logged
  name_may charter log shard logged head None base parts head_was was is = absurd (none-some _ is)
  name_may charter log shard logged head (Some work) base parts head_was was is =
      let named = if_is (is_naming work.stage)
      (record { number = work.number; parts = length work.parts.items }) base is in
      subst (λ (b : NamedBase). MayName charter log shard head b.number b.parts logged) named.1
      (record {
        head_was = head_was;
        newer = was.newer;
        items = was.items;
        requests = was.requests;
        all = ap length (was.parts ∙ sym (ap (λ (f : List (Item Q) → List (Part R)). f was.items) parts));
        there = was.placed (not_writing work.stage named.0);
      })

-- a key that the base has replaced may be deleted
pub clear_may : {Q R : Type 0} (charter : Charter Q (Part R)) (log : StoreLog Q R) (shard logged : ℕ) (head : Head)
    (key : PassingKey) → WasFound (head_of shard) (head_key shard) log head logged → is_behind shard head key ≡ true
    → MayClear charter log key
clear_may charter log shard logged head (keys.Batch at number) found behind =
    let parts = and_parts (at == shard) (nat_le number head.base) behind in
    let same = eqb-true at shard parts.0 in (
      head,
      logged,
      subst (λ (k : ℕ). WasFound (head_of k) (head_key k) log head logged) (sym same) found,
      le_of number head.base parts.1,
    )
clear_may charter log shard logged head (keys.Part at number place) found behind =
    let parts = and_parts (at == shard) (nat_lt number head.base) behind in
    let same = eqb-true at shard parts.0 in (
      head,
      logged,
      subst (λ (k : ℕ). WasFound (head_of k) (head_key k) log head logged) (sym same) found,
      lt_of number head.base parts.1,
    )
clear_may charter log shard logged head keys.Leader found behind = absurd (true≢false (sym behind))
clear_may charter log shard logged head (keys.Server server) found behind = absurd (true≢false (sym behind))
clear_may charter log shard logged head (keys.Ack at by) found behind = absurd (true≢false (sym behind))
clear_may charter log shard logged head keys.Other found behind = absurd (true≢false (sym behind))
