-- Entries that name only known servers.
use Rattle.std.specs.Prelude.{List, All, IfSome}
use Rattle.sm_ranges.specs.ServerId.{IsServer}
use Rattle.sm_ownership.specs.declared.change.Change.{Change}
use Rattle.sm_ownership.specs.declared.entry.Entry.{Entry}
use Rattle.sm_ownership.specs.declared.entry.Kind.{Kind}
use Rattle.sm_ownership.specs.declared.entry.Kind.TheVariants.{Change as Changed, Admit, Done}
use Rattle.sm_ownership.specs.Rules.{newly_named}

-- if the change newly names a server, its number is a server's
abbrev pub NewlyNamesServer : Change → Type 0
NewlyNamesServer change = IfSome (newly_named change) IsServer

abbrev pub KnownKind : {Q : Type 0} → Kind Q → Type 0
KnownKind (Changed change) = NewlyNamesServer change
KnownKind (Admit server mode) = IsServer server
KnownKind (Done ending) = Unit {0}

-- each change and each admission is of servers 1 to 4,095
abbrev pub AreKnown : {Q : Type 0} → List (Entry Q) → Type 0
AreKnown entries = All (λ entry. KnownKind entry.kind) entries
