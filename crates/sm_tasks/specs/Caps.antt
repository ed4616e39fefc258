-- The caps of approved restarts. They don't count a failed server, but approvals do.
use Rattle.std.specs.Prelude.{◌≡◌, ℕ, ◌<◌, ◌≤◌, ◌⊎◌, Bool, true, false, length, count_by}
use Rattle.sm_ranges.specs.declared.stand.Stand.{Stand}
use Rattle.sm_place.specs.Books.{BooksView, shard_at, state_of}
use Rattle.sm_ranges.specs.Stand.{AllNamed, names, names_one, is_paused}
use Rattle.sm_place.specs.ServerState.{is_leaving, is_away, is_stopped}
use Rattle.sm_tasks.specs.Groups.{group_count, down_of}
use Rattle.sm_tasks.specs.Domains.{domain_count, domain_down}

-- whether the stand names a server that is away by approval
abbrev pub names_away : BooksView → Stand → Bool
names_away books stand = names_one (λ b. is_away (state_of books b)) stand

-- whether the stand names a stopped server
abbrev pub names_stopped : BooksView → Stand → Bool
names_stopped books stand = names_one (λ b. is_stopped (state_of books b)) stand

-- the caps that are numbers: how many servers may be leaving when a restart is approved
pub record RestartCaps : Type 0 where
  pub ops : ℕ

-- the caps that approved restarts must keep: at most `ops` servers are away, no shard of cap 0 names one of them, of
-- each group at most `down` shards name one, each shard that names a stopped server is paused, and of each domain at
-- most `down` servers are away
pub record MeetsCaps (caps : RestartCaps) (books : BooksView) : Type 0 where
  pub servers : count_by is_away books.states ≤ caps.ops
  pub shards : (k : ℕ) → k < length books.shards
      → (shard_at books.shards k).row.cap ≡ 0 → names_away books (shard_at books.shards k).stand ≡ false
  pub groups : (g : ℕ) → g < length books.groups → group_count (names_away books) books.shards g ≤ down_of books g
  pub stopped : (k : ℕ) → k < length books.shards
      → names_stopped books (shard_at books.shards k).stand ≡ true → is_paused (shard_at books.shards k).stand ≡ true
  pub domains : (d : ℕ) → domain_count is_away books d ≤ domain_down books d

-- each server that the new stand names is not leaving; or the old stand named it, and if the shard is paused, it stays
-- paused
abbrev pub TakesNoneLeaving : BooksView → Stand → Stand → Type 0
TakesNoneLeaving books old stand =
    let Stays : ℕ → Type 0 = λ a. is_leaving (state_of books a) ≡ false in
    let IsKept : ℕ → Type 0 = λ a. (names old a ≡ true) × (is_paused old ≡ true → is_paused stand ≡ true) in
    AllNamed (λ a. Stays a ⊎ IsKept a) stand
