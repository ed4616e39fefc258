-- Why there is no control of a new board.
use Rattle.std.specs.Prelude.{ℕ, ◌≡◌, ◌≢◌, ◌<◌, ⊤, Some, length}
use Rattle.sm_place.specs.Books.{first_books_fault}
use Rattle.sm_place.specs.declared.books_fault.BooksFault.TheVariants.{NoMemory as NoBooks}
use Rattle.sm_rule.specs.Boards.{make_fault}
use Rattle.sm_rule.specs.declared.make_fault.MakeFault.TheVariants.{NoMemory as NoBoard}
use Rattle.sm_settings.specs.SettingsLine.{SettingsValues}
use Rattle.sm_foreign.specs.Chiefs.{equal_shards, first_servers, one_group, own_domains}
use Rattle.sm_foreign.specs.declared.open_fault.OpenFault.{OpenFault}
use Rattle.sm_foreign.specs.declared.open_fault.OpenFault.TheVariants.{Board, Bodies, Books, NoMemory, Restarts}
use Rattle.sm_foreign.specs.declared.open_fault.OpenFault.TheVariants.{Servers}

-- why there is none with so many bodies and servers, under this cap of restarts and this ceiling
abbrev pub OpensNothing : ℕ → ℕ → ℕ → ℕ → OpenFault → Type 0
OpensNothing count servers ops ceiling Servers = 4095 < servers
OpensNothing count servers ops ceiling Restarts = 4095 < ops
OpensNothing count servers ops ceiling Bodies = ⊥
OpensNothing count servers ops ceiling (Board NoBoard) = ⊤
OpensNothing count servers ops ceiling (Board fault) = Some fault ≡ make_fault count ceiling
OpensNothing count servers ops ceiling (Books NoBooks) = ⊤
OpensNothing count servers ops ceiling (Books fault) =
    Some fault ≡ first_books_fault (first_servers servers) one_group (equal_shards count) (own_domains servers)
OpensNothing count servers ops ceiling NoMemory = ⊤

-- why there is none with so many bodies by the settings: the settings have another number of shards, or memory was
-- refused
abbrev pub OpensNothingBy : ℕ → SettingsValues → OpenFault → Type 0
OpensNothingBy count settings Bodies = length settings.shards ≢ count
OpensNothingBy count settings (Board NoBoard) = ⊤
OpensNothingBy count settings (Books NoBooks) = ⊤
OpensNothingBy count settings NoMemory = ⊤
OpensNothingBy count settings fault = ⊥
