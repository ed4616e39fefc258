-- The values at a shard's keys are all requests that are made: the base that the head names, and the batches after it.
use Rattle.std.specs.Prelude.{ℕ, Some, ◌≡◌, ◌<◌, ◌≤◌, ◌+◌, List, [], ◌∷◌, ◌++◌, length, slice_get}
use Rattle.sm_store.specs.declared.head.Head.{Head}
use Rattle.sm_store.specs.declared.item.Item.{Item}
use Rattle.sm_store.specs.Store.{Transaction, batch_at, head_of, made, made_until, part_at}
use Rattle.sm_store.specs.Deeds.{Charter}

-- the parts of the base for this many first batches
abbrev pub base_parts : {Q P : Type 0} → Charter Q P → ℕ → ℕ → List (Transaction Q P) → List P
base_parts charter shard number log = charter.parts (made_until shard number log)

-- the base that a head names lies there whole
pub record IsBased {Q P : Type 0} (charter : Charter Q P) (shard : ℕ) (log : List (Transaction Q P))
    (head : Head) : Type 0 where
  pub within : head.base ≤ head.batches
  pub all : 0 < head.base → head.parts ≡ length (base_parts charter shard head.base log)
  pub there : 0 < head.base → (place : ℕ) → place < head.parts
      → part_at shard head.base place log ≡ slice_get (base_parts charter shard head.base log) place

-- the batch after this many is there, and holds the requests that come next
pub record IsBatchThere {Q P : Type 0} (shard : ℕ) (log : List (Transaction Q P)) (number : ℕ) : Type 0 where
  pub items : List (Item Q)
  pub stands : batch_at shard (number + 1) log ≡ Some items
  pub next : made_until shard (number + 1) log ≡ made_until shard number log ++ items

-- each batch since the base that the head names is there
abbrev pub AreThere : {Q P : Type 0} → ℕ → List (Transaction Q P) → Head → Type 0
AreThere shard log head = (number : ℕ) → head.base ≤ number → number < head.batches → IsBatchThere shard log number

-- from nothing, or from the base, the batches after it lead to all requests that are made
pub record IsLogWhole {Q P : Type 0} (charter : Charter Q P) (shard : ℕ) (log : List (Transaction Q P)) : Type 0 where
  pub none : made_until shard 0 log ≡ []
  pub based : IsBased charter shard log (head_of shard log)
  pub batches : AreThere shard log (head_of shard log)
  pub all : made_until shard (head_of shard log).batches log ≡ made shard log

-- at some moment the view had this value
pub record WasSeen {Q P A : Type 0} (view : List (Transaction Q P) → A) (log : List (Transaction Q P))
    (value : A) : Type 0 where
  pub later : List (Transaction Q P)
  pub past : List (Transaction Q P)
  pub is : log ≡ later ++ past
  pub was : view past ≡ value

-- these are the shard's batches after this many, each as it was at some moment
abbrev pub AreBatches : {Q P : Type 0} → ℕ → List (Transaction Q P) → ℕ → List (List (Item Q)) → Type 0
AreBatches shard log number [] = Unit {0}
AreBatches shard log number (items ∷ others) =
    WasSeen (batch_at shard (number + 1)) log (Some items) × AreBatches shard log (number + 1) others

-- these are the parts of a base from a place on, each as it was at some moment
abbrev pub AreParts : {Q P : Type 0} → ℕ → List (Transaction Q P) → ℕ → ℕ → List P → Type 0
AreParts shard log number place [] = Unit {0}
AreParts shard log number place (part ∷ others) =
    WasSeen (part_at shard number place) log (Some part) × AreParts shard log number (place + 1) others

-- the requests of batches, one after the other
abbrev pub all_items : {Q : Type 0} → List (List (Item Q)) → List (Item Q)
all_items [] = []
all_items (items ∷ others) = items ++ all_items others
