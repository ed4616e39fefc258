-- If a state is set, or a stand that leaves room, books stay sound. Also the state of a server without a row.
use Rattle.std.proofs.Common.{◌≡◌, ◌≢◌, ℕ, ◌<◌, length, sym, ap, subst, ◌∙◌, ⊎_elim}
use Rattle.std.proofs.lemmas.Bool.{cases_eq}
use Rattle.std.proofs.lemmas.List.{length-set}
use Rattle.sm_ranges.specs.declared.stand.Stand.{Stand}
use Rattle.sm_ranges.specs.Stand.{AllNamed}
use Rattle.sm_place.specs.declared.server_state.ServerState.{ServerState}
use Rattle.sm_place.specs.declared.shard.Shard.{Shard}
use Rattle.sm_place.specs.Books.{BooksView, IsKnown, place_of, shard_at, with_stand, with_state}
use Rattle.sm_place.specs.Room.{HasRoom}
use Rattle.sm_place.specs.Sound.{AreSound}
use Rattle.sm_place.specs.lemmas.Changed.{length-with_stand, shard_at-other, shard_at-same}

pub sound_state : (books : BooksView) (a : ℕ) (state : ServerState) → AreSound books
    → AreSound (with_state books a state)
sound_state books a state sound = record {
  numbers = sound.numbers;
  servers_rise = sound.servers_rise;
  states = length-set books.states (place_of books.servers a) state ∙ sound.states;
  groups = sound.groups;
  shards = sound.shards;
  group = sound.group;
  known = sound.known;
  room = sound.room;
}

pub sound_stand : (books : BooksView) (k : ℕ) (stand : Stand) → AreSound books → k < length books.shards
    → AllNamed (IsKnown books.servers) stand
    → HasRoom books.servers books.groups (with_stand books.shards k stand)
    → AreSound (record books { shards = with_stand books.shards k stand })
sound_stand books k stand sound within known room = record {
  numbers = sound.numbers;
  servers_rise = sound.servers_rise;
  states = sound.states;
  groups = sound.groups;
  shards = rw (length-with_stand books.shards k stand) sound.shards;
  group = λ j inside. subst (λ g. g < length books.groups) (sym (row_at j)) (sound.group j (as_before j inside));
  known = λ j inside. ⊎_elim
      (λ (same : j ≡ k). subst
      (λ i. AllNamed (IsKnown books.servers) (shard_at (with_stand books.shards k stand) i).stand) (sym same)
      (subst (λ (one : Shard). AllNamed (IsKnown books.servers) one.stand)
      (sym (shard_at-same books.shards k stand within)) known))
      (λ (apart : j ≢ k). subst (λ (one : Shard). AllNamed (IsKnown books.servers) one.stand)
      (sym (shard_at-other books.shards k j stand apart)) (sound.known j (as_before j inside)))
      (cases_eq j k);
  room = room;
}
  where
    as_before : (j : ℕ) → j < length (with_stand books.shards k stand) → j < length books.shards
    as_before j inside = rw (length-with_stand books.shards k stand) at inside

    row_at : (j : ℕ) → (shard_at (with_stand books.shards k stand) j).row.group ≡ (shard_at books.shards j).row.group
    row_at j = ⊎_elim
        (λ (same : j ≡ k). ap (λ i. (shard_at (with_stand books.shards k stand) i).row.group) same
        ∙ ap (λ (one : Shard). one.row.group) (shard_at-same books.shards k stand within)
        ∙ ap (λ i. (shard_at books.shards i).row.group) (sym same))
        (λ (apart : j ≢ k). ap (λ (one : Shard). one.row.group) (shard_at-other books.shards k j stand apart))
        (cases_eq j k)
