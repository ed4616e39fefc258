-- Histories: the ownership table that their entries make, which histories are legal, and the requests that shards keep.
use Rattle.std.specs.Prelude.{ℕ, Bool, true, false, Option, Some, None, ◌≡◌, ◌≢◌, ◌⊎◌, ◌==◌, ◌&&◌, ◌||◌, ◌+◌, ◌<◌}
use Rattle.std.specs.Prelude.{nat_lt, nat_le, not, is_some, unwrap_or, if◌then◌else◌, List, [], ◌∷◌, ◌++◌, All, drop}
use Rattle.std.specs.Prelude.{filter, find, length, reverse, replicate, slice_get, slice_index_or, slice_set, take}
use Rattle.std.specs.List.{filter_map, list_all}
use Rattle.std.specs.Option.{option_map}
use Rattle.sm_ranges.specs.declared.stand.Stand.TheVariants.{Vacant}
use Rattle.sm_ownership.specs.declared.change.Change.{Change}
use Rattle.sm_ownership.specs.declared.entry.Ending.{Ending}
use Rattle.sm_ownership.specs.declared.entry.Ending.TheVariants.{Nothing, Request, Checkpoint}
use Rattle.sm_ownership.specs.declared.entry.Entry.{Entry}
use Rattle.sm_ownership.specs.declared.entry.Kind.{Kind}
use Rattle.sm_ownership.specs.declared.entry.Kind.TheVariants.{Change as Changed, Admit, Done}
use Rattle.sm_ownership.specs.declared.mode.Mode.{Mode}
use Rattle.sm_ownership.specs.declared.record.Record.{Record}
use Rattle.sm_ownership.specs.Rules.{stand_after, accepts}

-- the record of a shard without entries
abbrev pub vacant : Record
vacant = record { stand = Vacant; admitted = false; generation = 0 }

-- the record of a shard in a table
abbrev pub record_at : List Record → ℕ → Record
record_at table shard = slice_index_or table shard vacant

-- the record after a change of its stand, an admission, and the end of one: the generation counts the entries
abbrev pub after_change : Record → Change → Record
after_change state change =
    record {
      stand = unwrap_or (stand_after state.stand change) state.stand;
      admitted = state.admitted;
      generation = state.generation + 1;
    }

-- a record after an admission
abbrev pub after_admit : Record → Record
after_admit state = record { stand = state.stand; admitted = true; generation = state.generation + 1 }

-- a record after the end of an admission
abbrev pub after_done : Record → Record
after_done state = record { stand = state.stand; admitted = false; generation = state.generation + 1 }

-- a record after an entry of this kind
abbrev pub after_kind : {Q : Type 0} → Record → Kind Q → Record
after_kind state (Changed change) = after_change state change
after_kind state (Admit server mode) = after_admit state
after_kind state (Done ending) = after_done state

-- below, `earlier` lists the entries before one, the latest of them first

-- an entry of this kind is an admission, if at all, of this server
abbrev pub admits_only : {Q : Type 0} → ℕ → Kind Q → Bool
admits_only server (Admit admitted mode) = admitted == server
admits_only server _ = true

-- the actor's earlier admissions are all of this server
abbrev pub acts_as : {Q : Type 0} → List (Entry Q) → ℕ → ℕ → Bool
acts_as earlier actor server = list_all (λ entry. not (entry.actor == actor) || admits_only server entry.kind) earlier

-- the latest entry of the shard
abbrev pub latest_of : {Q : Type 0} → List (Entry Q) → ℕ → Option (Entry Q)
latest_of earlier shard = find (λ entry. entry.shard == shard) earlier

-- an entry of this kind admits
abbrev pub is_admit : {Q : Type 0} → Kind Q → Bool
is_admit (Admit server mode) = true
is_admit _ = false

-- the entry is an admission by this actor
abbrev pub is_admission_of : {Q : Type 0} → ℕ → Option (Entry Q) → Bool
is_admission_of actor None = false
is_admission_of actor (Some entry) = entry.actor == actor && is_admit entry.kind

-- the control may change an idle record below the ceiling, if the change's row in the table of changes allows it
abbrev pub change_fits : ℕ → Record → ℕ → Change → Bool
change_fits ceiling state actor change =
    actor == 0 && (not state.admitted && (nat_lt state.generation ceiling && is_some (stand_after state.stand change)))

-- an actor with one server for good is admitted to an idle record that accepts it, if there is room for the end of its
-- admission
abbrev pub admit_fits : {Q : Type 0} → ℕ → List (Entry Q) → Record → ℕ → ℕ → Mode → Bool
admit_fits ceiling earlier state actor server mode =
    not (actor == 0) && (acts_as earlier actor server
    && (not state.admitted && (nat_le (state.generation + 2) ceiling && accepts state server mode)))

-- an admission is ended by the actor that was admitted last
abbrev pub done_fits : {Q : Type 0} → List (Entry Q) → Record → ℕ → ℕ → Bool
done_fits earlier state actor shard = state.admitted && is_admission_of actor (latest_of earlier shard)

-- an entry of this kind may come next
abbrev pub kind_fits : {Q : Type 0} → ℕ → List (Entry Q) → Record → ℕ → ℕ → Kind Q → Bool
kind_fits ceiling earlier state actor shard (Changed change) = change_fits ceiling state actor change
kind_fits ceiling earlier state actor shard (Admit server mode) = admit_fits ceiling earlier state actor server mode
kind_fits ceiling earlier state actor shard (Done ending) = done_fits earlier state actor shard

-- the entry may come next, after these entries with this table
abbrev pub fits : {Q : Type 0} → ℕ → List (Entry Q) → List Record → Entry Q → Bool
fits ceiling earlier table entry =
    nat_lt entry.shard (length table)
    && kind_fits ceiling earlier (record_at table entry.shard) entry.actor entry.shard entry.kind

-- the table after one more entry; if the entry doesn't fit, the table doesn't change
abbrev pub table_with : {Q : Type 0} → ℕ → List (Entry Q) → List Record → Entry Q → List Record
table_with ceiling earlier table entry =
    if fits ceiling earlier table entry
    then slice_set table entry.shard (after_kind (record_at table entry.shard) entry.kind)
    else table

-- the table that entries make, the latest of them first
abbrev pub table_of_latest : {Q : Type 0} → ℕ → ℕ → List (Entry Q) → List Record
table_of_latest count ceiling [] = replicate count vacant
table_of_latest count ceiling (entry ∷ earlier) =
    table_with ceiling earlier (table_of_latest count ceiling earlier) entry

-- the ownership table that a history makes: each shard's record, for this many shards and below this ceiling
abbrev pub table_of : {Q : Type 0} → ℕ → ℕ → List (Entry Q) → List Record
table_of count ceiling history = table_of_latest count ceiling (reverse history)

-- each entry fits those before it, the latest first
abbrev pub IsLegalLatest : {Q : Type 0} → ℕ → ℕ → List (Entry Q) → Type 0
IsLegalLatest count ceiling [] = Unit {0}
IsLegalLatest count ceiling (entry ∷ earlier) =
    (fits ceiling earlier (table_of_latest count ceiling earlier) entry ≡ true) × IsLegalLatest count ceiling earlier

-- a legal history: each entry fits the table of those before it
abbrev pub IsLegal : {Q : Type 0} → ℕ → ℕ → List (Entry Q) → Type 0
IsLegal count ceiling history = IsLegalLatest count ceiling (reverse history)

-- none of the entries is by this actor
abbrev pub NoneBy : {Q : Type 0} → ℕ → List (Entry Q) → Type 0
NoneBy actor entries = All (λ entry. entry.actor ≢ actor) entries

-- the second record is the first one, or a later one of the same shard
abbrev pub IsSameOrLater : Record → Record → Type 0
IsSameOrLater before after = (after ≡ before) ⊎ (before.generation < after.generation)

-- the admissions that stand after an entry: one more, or all except its actor's, or the same
abbrev pub without_ended : {Q : Type 0} → Entry Q → Kind Q → List (Entry Q) → List (Entry Q)
without_ended entry (Changed change) standing = standing
without_ended entry (Admit server mode) standing = entry ∷ standing
without_ended entry (Done ending) standing = filter (λ admission. not (admission.actor == entry.actor)) standing

-- the admissions that stand after entries, the latest first
abbrev pub open_admissions_latest : {Q : Type 0} → List (Entry Q) → ℕ → List (Entry Q)
open_admissions_latest [] shard = []
open_admissions_latest (entry ∷ earlier) shard =
    if entry.shard == shard then without_ended entry entry.kind (open_admissions_latest earlier shard)
    else open_admissions_latest earlier shard

-- the admissions of the shard that stand, because no later end by the same actor has ended them
abbrev pub open_admissions : {Q : Type 0} → List (Entry Q) → ℕ → List (Entry Q)
open_admissions history shard = open_admissions_latest (reverse history) shard

-- how an entry of this kind ends an admission: with nothing if it ends none
abbrev pub ending_of : {Q : Type 0} → Kind Q → Ending Q
ending_of (Done ending) = ending
ending_of _ = Nothing

-- the request of an ending, if it has one
abbrev pub request_of : {Q : Type 0} → Ending Q → Option Q
request_of (Request request) = Some request
request_of _ = None

-- how the checkpoint of a body that keeps this list ends an admission: if the list is empty, the body doesn't change
abbrev pub checkpoint_ending : {Q : Type 0} → List Q → Ending Q
checkpoint_ending [] = Nothing
checkpoint_ending (request ∷ more) = Checkpoint

-- an admission that ended in this way made a checkpoint
abbrev pub is_checkpoint : {Q : Type 0} → Ending Q → Bool
is_checkpoint Checkpoint = true
is_checkpoint _ = false

-- all requests that a history has for a shard, in order
abbrev pub all_of : {Q : Type 0} → List (Entry Q) → ℕ → List Q
all_of history shard =
    filter_map (λ entry. if entry.shard == shard then request_of (ending_of entry.kind) else None) history

-- how many requests came before the base, by entries, the latest first
abbrev pub first_latest : {Q : Type 0} → List (Entry Q) → ℕ → ℕ
first_latest [] shard = 0
first_latest (entry ∷ earlier) shard =
    if entry.shard == shard && is_checkpoint (ending_of entry.kind) then length (all_of (reverse earlier) shard)
    else first_latest earlier shard

-- how many of these came before the shard's last checkpoint
abbrev pub first_of : {Q : Type 0} → List (Entry Q) → ℕ → ℕ
first_of history shard = first_latest (reverse history) shard

-- the requests that a shard keeps: those after its last checkpoint
abbrev pub kept : {Q : Type 0} → List (Entry Q) → ℕ → List Q
kept history shard = drop (first_of history shard) (all_of history shard)

-- the requests that a shard keeps after an ending, if it kept these before
abbrev pub kept_after : {Q : Type 0} → List Q → Ending Q → List Q
kept_after list Nothing = list
kept_after list (Request request) = list ++ request ∷ []
kept_after list Checkpoint = []

-- the reply at a place of all requests of a shard; `reply_of` gives the reply to a request after others
abbrev pub said : {Q R : Type 0} → (List Q → Q → R) → List (Entry Q) → ℕ → ℕ → Option R
said reply_of history shard place =
    option_map (λ request. reply_of (take place (all_of history shard)) request)
    (slice_get (all_of history shard) place)
