-- How the view of a seat changes, and how the seen history grows.
use Rattle.std.specs.Prelude.{ℕ, ◌≡◌, ◌+◌, ◌<◌, List, [], ◌∷◌, ◌++◌, Option, Some, None, drop, length}
use Rattle.sm_ownership.specs.declared.entry.Ending.{Ending}
use Rattle.sm_ownership.specs.declared.entry.Ending.TheVariants.{Nothing, Request, Checkpoint}
use Rattle.sm_ownership.specs.declared.entry.Entry.{Entry}
use Rattle.sm_ownership.specs.declared.entry.Kind.{Kind}
use Rattle.sm_ownership.specs.declared.entry.Kind.TheVariants.{Change as Changed, Admit, Done}
use Rattle.sm_ownership.specs.declared.record.Record.{Record}
use Rattle.sm_ownership.specs.History.{IsLegal, all_of, first_of, record_at, table_of, NoneBy}
use Rattle.sm_rule.specs.declared.limits.Limits.{Limits}
use Rattle.sm_rule.specs.declared.view.HeldShard.{HeldShard}
use Rattle.sm_rule.specs.declared.view.Parent.{Parent}
use Rattle.sm_rule.specs.declared.view.Stage.TheVariants.{Acting, Cut, Joined}
use Rattle.sm_rule.specs.declared.view.View.{View}

-- a shard's record after a history of a board with these limits
abbrev pub record_in : {Q : Type 0} → Limits → List (Entry Q) → ℕ → Record
record_in limits history shard = record_at (table_of limits.count limits.ceiling history) shard

-- an entry of this actor and kind
abbrev pub entry_of : {Q : Type 0} → ℕ → ℕ → Kind Q → Entry Q
entry_of actor shard kind = record { actor = actor; shard = shard; kind = kind }

-- the second history begins with the first
abbrev pub Begins : {Q : Type 0} → List (Entry Q) → List (Entry Q) → Type 0
Begins earlier later = (more : List (Entry _)) × (later ≡ earlier ++ more)

-- a history extends the history that was seen under a number, by entries of others
abbrev pub IsMet : {Q : Type 0} → ℕ → List (Entry Q) → List (Entry Q) → Type 0
IsMet number seen history = (others : List (Entry _)) × (history ≡ seen ++ others) × NoneBy number others

-- the seen history grows by entries of others, and then by these
abbrev pub Grows : {Q : Type 0} → Limits → ℕ → List (Entry Q) → List (Entry Q) → List (Entry Q) → Type 0
Grows limits number before after added =
    (others : List (Entry _)) × (after ≡ (before ++ others) ++ added) × NoneBy number others
    × IsLegal limits.count limits.ceiling after

-- the hold after an own entry, the last one of a history: after an admission it is the shard, and after its end nothing
abbrev pub held_after : {Q : Type 0} → Limits → ℕ → Kind Q → List (Entry Q) → Option (HeldShard Q)
    → Option (HeldShard Q)
held_after limits shard (Changed change) history held = held
held_after limits shard (Admit server mode) history held =
    Some (record {
      shard = shard;
      state = record_in limits history shard;
      first = first_of history shard;
      all = all_of history shard;
    })
held_after limits shard (Done ending) history held = None

-- all requests of the shard that is held, at the admission
abbrev pub all_held : {Q : Type 0} → Option (HeldShard Q) → List Q
all_held None = []
all_held (Some held) = held.all

-- how many of them came before the base of its body
abbrev pub first_held : {Q : Type 0} → Option (HeldShard Q) → ℕ
first_held None = 0
first_held (Some held) = held.first

-- those that its body kept
abbrev pub list_held : {Q : Type 0} → Option (HeldShard Q) → List Q
list_held held = drop (first_held held) (all_held held)

-- the change of the body since the admission: it rests on the same requests, or on one more, or it is the checkpoint of
-- its kept requests, if it kept any
abbrev pub EndsWith : {S Q : Type 0} → (S → ℕ → List Q → Type 0) → Option (HeldShard Q) → S → Ending Q → Type 0
EndsWith keeps held body Nothing = keeps body (first_held held) (all_held held)
EndsWith keeps held body (Request request) = keeps body (first_held held) (all_held held ++ request ∷ [])
EndsWith keeps held body Checkpoint =
    (first_held held < length (all_held held)) × keeps body (length (all_held held)) (all_held held)

-- the view of a new seat
abbrev pub newcomer : {Q : Type 0} → Limits → ℕ → Option ℕ → List (Entry Q) → View Q
newcomer limits number server history =
    record {
      limits = limits;
      number = number;
      server = server;
      held = None;
      seen = history;
      stage = Acting;
      heard = None;
      cuts = 0;
      parent = None;
    }

-- the history that a view has seen is a legal one
abbrev pub HasSeenLegal : {Q : Type 0} → View Q → Type 0
HasSeenLegal view = IsLegal view.limits.count view.limits.ceiling view.seen

-- a seat, as the next seat that is cut from it names it
abbrev pub parent_of : {Q : Type 0} → View Q → Parent
parent_of view = record { number = view.number; cuts = view.cuts + 1 }

-- the view of a seat from which another was cut
abbrev pub cutting : {Q : Type 0} → View Q → View Q
cutting view = record view { cuts = view.cuts + 1 }

-- the view of a seat that is cut from another, until its first load gives it a number
abbrev pub cut_off : {Q : Type 0} → View Q → View Q
cut_off view = record view { stage = Cut; held = None; heard = None; parent = Some (parent_of view) }

-- its view after its first load
abbrev pub half_of : {Q : Type 0} → View Q → Option Parent → ℕ → List (Entry Q) → View Q
half_of view parent number history =
    record {
      limits = view.limits;
      number = number;
      server = view.server;
      held = None;
      seen = history;
      stage = Acting;
      heard = None;
      cuts = view.cuts;
      parent = parent;
    }

-- a view that takes in another, and the rest of the other
abbrev pub informed : {Q : Type 0} → View Q → View Q → View Q
informed view other =
    record view { heard = Some (record { by = other.number; seen = other.seen; parent = other.parent }) }

abbrev pub left_behind : {Q : Type 0} → View Q
left_behind = record {
  limits = record { count = 0; ceiling = 0; bodies = [] };
  number = 0;
  server = None;
  held = None;
  seen = [];
  stage = Joined;
  heard = None;
  cuts = 0;
  parent = None;
}

-- a view that has seen this history
abbrev pub seeing : {Q : Type 0} → View Q → List (Entry Q) → View Q
seeing view history = record view { seen = history }

-- a view that has seen this history, whose last entry is its own, of this kind
abbrev pub adding : {Q : Type 0} → View Q → ℕ → Kind Q → List (Entry Q) → View Q
adding view shard kind history =
    record view { seen = history; held = held_after view.limits shard kind history view.held }

-- the view has seen more, made only by others
abbrev pub Looks : {Q : Type 0} → View Q → View Q → Type 0
Looks before after = Grows before.limits before.number before.seen after.seen [] × (after ≡ seeing before after.seen)

-- the view has seen more, and its own entry last
abbrev pub Adds : {Q : Type 0} → View Q → ℕ → Kind Q → View Q → Type 0
Adds before shard kind after =
    Grows before.limits before.number before.seen after.seen (entry_of before.number shard kind ∷ [])
    × (after ≡ adding before shard kind after.seen)
