-- The desk of settings that keep the rules: unless memory is refused, it is made, and its shards are vacant.
use Rattle.std.proofs.Common.{◌≡◌, List, [], ◌∷◌, All, map, length, replicate, ap, refl, subst, sym, ◌∙◌}
use Rattle.std.proofs.Common.{Option, Some, None, Result, Ok, Err, IfNone, IsOkUnless}
use Rattle.std.proofs.lemmas.List.Elements.{All-nil, All-cons}
use Rattle.sm_desk.specs.Desk.{DeskView, stands_of}
use Rattle.sm_ranges.specs.declared.stand.Stand.{Stand}
use Rattle.sm_ranges.specs.declared.stand.Stand.TheVariants.{Vacant}
use Rattle.sm_rows.specs.declared.shard_row.ShardRow.{ShardRow}
use Rattle.sm_session.specs.Beginning.{settings_desk}
use Rattle.sm_settings.specs.SettingsLine.{SettingsValues}
use Rattle.sm_place.specs.Books.{BooksView, first_books_fault, vacant_shard}
use Rattle.sm_place.specs.declared.books_fault.BooksFault.{BooksFault}
use Rattle.sm_place.specs.declared.books_fault.BooksFault.TheVariants.{NoMemory}
use Rattle.sm_place.specs.declared.shard.Shard.{Shard}
use Rattle.sm_settings.specs.SettingsRules.{KeepsRules, PassTests}

-- the rows of settings are books
pub no_books_fault : (settings : SettingsValues) → KeepsRules settings
    → first_books_fault settings.servers settings.groups settings.shards settings.domains ≡ None
unfolding PassTests
no_books_fault settings rules = let tests = rules.tests in rw (tests.0, tests.1, tests.2, tests.3) refl

-- if there is no other fault, the fault is lack of memory
pub memory_alone : (fault : BooksFault) (first : Option BooksFault) (result : Result BooksView BooksFault)
    → first ≡ None → IfNone first (IsOkUnless result NoMemory) → result ≡ Err fault → fault ≡ NoMemory
memory_alone fault None (Err other) none unless is = let same : other ≡ fault = cc in sym same ∙ unless
memory_alone fault None (Ok books) none unless is = absurd cc
memory_alone fault (Some first) result none unless is = absurd cc

-- the shards of a new desk are vacant
stands_new : (rows : List ShardRow)
    → map (λ (shard : Shard). shard.stand) (map vacant_shard rows) ≡ replicate (length rows) Vacant
stands_new [] = refl
stands_new (row ∷ rows) = ap (λ (rest : List Stand). Vacant ∷ rest) (stands_new rows)

pub vacant_desk : (settings : SettingsValues) (desk : DeskView) → KeepsRules settings → desk ≡ settings_desk settings
    → stands_of desk ≡ replicate (length settings.bounds) Vacant
vacant_desk settings desk rules is =
    ap stands_of is ∙ stands_new settings.shards ∙ ap (λ n. replicate n Vacant) rules.one_row_a_shard

vacant_rows : (rows : List ShardRow) → All (λ (shard : Shard). shard.stand ≡ Vacant) (map vacant_shard rows)
vacant_rows [] = All-nil (λ (shard : Shard). shard.stand ≡ Vacant)
vacant_rows (row ∷ rows) =
    All-cons (λ (shard : Shard). shard.stand ≡ Vacant) (vacant_shard row) (map vacant_shard rows) refl
    (vacant_rows rows)

pub all_vacant : (settings : SettingsValues) (desk : DeskView) → desk ≡ settings_desk settings
    → All (λ (shard : Shard). shard.stand ≡ Vacant) desk.books.shards
all_vacant settings desk is =
    let P : DeskView → Type 0 = λ d. All (λ (shard : Shard). shard.stand ≡ Vacant) d.books.shards in
    subst P (sym is) (vacant_rows settings.shards)
