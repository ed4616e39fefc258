-- Which servers a stand names after a change, and why a change that is let through keeps room and caps.
use Rattle.std.proofs.Common.{ℕ, ◌≡◌, ◌<◌, ◌==◌, ◌⊎◌, Bool, true, false, cond, eqb, Option, Some, None, Result, Ok, Err}
use Rattle.std.proofs.Common.{length, ltb, refl, ap, sym, ◌∙◌, inl, inr, subst}
use Rattle.std.specs.Prelude.{is_some, unwrap_or, not}
use Rattle.std.specs.Option.{option_map}
use Rattle.std.specs.Result.{result_err}
use Rattle.std.proofs.lemmas.Bool.{eq-eqb, ltb-true, or_right}
use Rattle.std.proofs.lemmas.Option.{IfSome_then}
use Rattle.sm_ranges.specs.declared.stand.Stand.{Stand}
use Rattle.sm_ranges.specs.declared.stand.Stand.TheVariants.{Vacant, Serving, Prepared, Forwarding, Taken, Paused}
use Rattle.sm_ranges.specs.Stand.{AllNamed, names, passes, owner_of, other_of, is_paused}
use Rattle.sm_ownership.specs.declared.change.Change.{Change}
use Rattle.sm_ownership.specs.declared.change.Change.TheVariants.{Assign, PrepareAddShard, PrepareDropShard, AddShard}
use Rattle.sm_ownership.specs.declared.change.Change.TheVariants.{DropShard, Cancel, Pause, Resume, Reassign}
use Rattle.sm_ownership.specs.declared.change_fault.ChangeFault.TheVariants.{SameServer, WrongPhase}
use Rattle.sm_ownership.specs.Rules.{newly_named, phase_fault, stand_after}
use Rattle.sm_place.specs.declared.place_fault.PlaceFault.TheVariants.{Leaving}
use Rattle.sm_place.specs.Books.{BooksView, IsKnown, place_of, shard_at, state_of, with_stand}
use Rattle.sm_place.specs.Room.{fit, HasRoom}
use Rattle.sm_place.specs.ServerState.{is_leaving}
use Rattle.sm_place.specs.Sound.{AreSound}
use Rattle.sm_place.specs.lemmas.Named.{AllNamed-at, names-owner}
use Rattle.sm_tasks.specs.Caps.{TakesNoneLeaving}
use Rattle.sm_desk.specs.declared.command.CommandFault.{CommandFault}
use Rattle.sm_desk.specs.declared.command.CommandFault.TheVariants.{Place, Restart, UnknownServer}
use Rattle.sm_tasks.specs.declared.restart_fault.RestartFault.{RestartFault}
use Rattle.sm_desk.specs.Desk.{is_unknown, restart_fault, resume_fault, resumed, room_fault}
use Rattle.sm_desk.specs.lemmas.Changes.{IsLetThrough}

-- the next or previous server is named
names-other : (stand : Stand) (a : ℕ) → other_of stand ≡ Some a → names stand a ≡ true
names-other stand a e =
    or_right (passes (λ c. eqb c a) (owner_of stand)) (passes (λ c. eqb c a) (other_of stand))
    (ap (passes (λ c. eqb c a)) e ∙ eq-eqb a a refl)

-- the change newly names the server; or the stand named it, and either isn't paused or is resumed
abbrev Held : Stand → Change → ℕ → Type 0
Held stand change b = (newly_named change ≡ Some b)
    ⊎ ((names stand b ≡ true) × ((is_paused stand ≡ false) ⊎ (resumed stand change ≡ Some b)))

-- if the new server isn't the owner, the change is made
unless_same : (P : ℕ → Type 0) (same : Bool) (after before : Stand)
    → cond (is_some (cond same None (Some after))) None (Some (cond same SameServer WrongPhase)) ≡ None
    → AllNamed P after → AllNamed P (unwrap_or (cond same None (Some after)) before)
unless_same P true after before e all = absurd (cc)
unless_same P false after before e all = all

-- each server that the stand names after a change
pub held : (stand : Stand) (change : Change) → phase_fault stand change ≡ None
    → AllNamed (Held stand change) (unwrap_or (stand_after stand change) stand)
held Vacant (Assign a) e = (inl refl, tt)
held Vacant (PrepareAddShard a) e = absurd (cc)
held Vacant PrepareDropShard e = absurd (cc)
held Vacant AddShard e = absurd (cc)
held Vacant DropShard e = absurd (cc)
held Vacant Cancel e = absurd (cc)
held Vacant Pause e = absurd (cc)
held Vacant Resume e = absurd (cc)
held Vacant (Reassign a) e = absurd (cc)
held (Serving o) (Assign a) e = absurd (cc)
held (Serving o) (PrepareAddShard a) e = unless_same (Held (Serving o) (PrepareAddShard a)) (a == o) (Prepared o a)
    (Serving o) e (inr (names-owner (Serving o) o refl, inl refl), inl refl)
held (Serving o) PrepareDropShard e = absurd (cc)
held (Serving o) AddShard e = absurd (cc)
held (Serving o) DropShard e = absurd (cc)
held (Serving o) Cancel e = absurd (cc)
held (Serving o) Pause e = (inr (names-owner (Serving o) o refl, inl refl), tt)
held (Serving o) Resume e = absurd (cc)
held (Serving o) (Reassign a) e = absurd (cc)
held (Prepared o n) (Assign a) e = absurd (cc)
held (Prepared o n) (PrepareAddShard a) e = absurd (cc)
held (Prepared o n) PrepareDropShard e =
    (inr (names-owner (Prepared o n) o refl, inl refl), inr (names-other (Prepared o n) n refl, inl refl))
held (Prepared o n) AddShard e = absurd (cc)
held (Prepared o n) DropShard e = absurd (cc)
held (Prepared o n) Cancel e = (inr (names-owner (Prepared o n) o refl, inl refl), tt)
held (Prepared o n) Pause e = absurd (cc)
held (Prepared o n) Resume e = absurd (cc)
held (Prepared o n) (Reassign a) e = absurd (cc)
held (Forwarding o n) (Assign a) e = absurd (cc)
held (Forwarding o n) (PrepareAddShard a) e = absurd (cc)
held (Forwarding o n) PrepareDropShard e = absurd (cc)
held (Forwarding o n) AddShard e =
    (inr (names-other (Forwarding o n) n refl, inl refl), inr (names-owner (Forwarding o n) o refl, inl refl))
held (Forwarding o n) DropShard e = absurd (cc)
held (Forwarding o n) Cancel e = (inr (names-owner (Forwarding o n) o refl, inl refl), tt)
held (Forwarding o n) Pause e = absurd (cc)
held (Forwarding o n) Resume e = absurd (cc)
held (Forwarding o n) (Reassign a) e = absurd (cc)
held (Taken o n) (Assign a) e = absurd (cc)
held (Taken o n) (PrepareAddShard a) e = absurd (cc)
held (Taken o n) PrepareDropShard e = absurd (cc)
held (Taken o n) AddShard e = absurd (cc)
held (Taken o n) DropShard e = (inr (names-owner (Taken o n) o refl, inl refl), tt)
held (Taken o n) Cancel e = absurd (cc)
held (Taken o n) Pause e = absurd (cc)
held (Taken o n) Resume e = absurd (cc)
held (Taken o n) (Reassign a) e = absurd (cc)
held (Paused o) (Assign a) e = absurd (cc)
held (Paused o) (PrepareAddShard a) e = absurd (cc)
held (Paused o) PrepareDropShard e = absurd (cc)
held (Paused o) AddShard e = absurd (cc)
held (Paused o) DropShard e = absurd (cc)
held (Paused o) Cancel e = absurd (cc)
held (Paused o) Pause e = absurd (cc)
held (Paused o) Resume e = (inr (names-owner (Paused o) o refl, inr refl), tt)
held (Paused o) (Reassign a) e =
    unless_same (Held (Paused o) (Reassign a)) (a == o) (Serving a) (Paused o) e (inl refl, tt)

-- the new stand of a shard
abbrev pub stand_of : BooksView → ℕ → Change → Stand
stand_of books k change = unwrap_or (stand_after (shard_at books.shards k).stand change) (shard_at books.shards k).stand

-- it is the stand to which the change leads
pub stand_of-leads : (books : BooksView) (k : ℕ) (change : Change) (stand : Stand)
    → stand_after (shard_at books.shards k).stand change ≡ Some stand → stand_of books k change ≡ stand
stand_of-leads books k change stand leads = ap (λ one. unwrap_or one (shard_at books.shards k).stand) leads

-- a fact about the servers that were named, and about the one that is newly named, holds for each
after_each : (P : ℕ → Type 0) (Q : ℕ → Type 0) (stand : Stand) → ((b : ℕ) → P b → Q b) → AllNamed P stand
    → AllNamed Q stand
after_each P Q stand h all = (IfSome_then (owner_of stand) all.0 h, IfSome_then (other_of stand) all.1 h)

-- a server that isn't unknown is known
known_some : (books : BooksView) (x : Option ℕ) (b : ℕ) → is_unknown books.servers x ≡ false → x ≡ Some b
    → IsKnown books.servers b
known_some books None b e is = absurd (cc)
known_some books (Some a) b e is =
    let same : a ≡ b = cc in
    subst (IsKnown books.servers) same
    (ltb-true (place_of books.servers a) (length books.servers)
    (unnot (ltb (place_of books.servers a) (length books.servers)) e))
  where
    unnot : (u : Bool) → not u ≡ false → u ≡ true
    unnot true e = refl
    unnot false e = absurd (cc)

-- a result without a fault is Ok
pub ok_without : {E : Type 0} (of : E → CommandFault) (r : Result (Unit {0}) E) → option_map of (result_err r) ≡ None
    → r ≡ Ok tt
ok_without of (Ok u) e = refl
ok_without of (Err fault) e = absurd (cc)

fits_some : (books : BooksView) (k : ℕ) (x : Option ℕ) (b : ℕ) → room_fault books k x ≡ None → x ≡ Some b
    → fit books k b ≡ Ok tt
fits_some books k None b e is = absurd (cc)
fits_some books k (Some a) b e is =
    let same : a ≡ b = cc in
    subst (λ c. fit books k c ≡ Ok tt) same (ok_without Place (fit books k a) e)

stays_some : (books : BooksView) (x : Option ℕ) (b : ℕ) → resume_fault books x ≡ None → x ≡ Some b
    → is_leaving (state_of books b) ≡ false
stays_some books None b e is = absurd (cc)
stays_some books (Some a) b e is =
    let same : a ≡ b = cc in
    subst (λ c. is_leaving (state_of books c) ≡ false) same (no_fault (is_leaving (state_of books a)) e)
  where
    no_fault : (u : Bool) → ◌≡◌ {A = Option CommandFault} (cond u (Some (Place Leaving)) None) None → u ≡ false
    no_fault true e = absurd (cc)
    no_fault false e = refl

-- the servers that the new stand names are known
pub changes_known : (books : BooksView) (k : ℕ) (change : Change) → AreSound books → IsLetThrough books k change
    → AllNamed (IsKnown books.servers) (stand_of books k change)
changes_known books k change sound through =
    let stand = (shard_at books.shards k).stand in
    after_each (Held stand change) (IsKnown books.servers) (stand_of books k change)
    (λ b h. elim h [
      | inl new ↦ known_some books (newly_named change) b through.known new
      | inr old ↦ AllNamed-at (IsKnown books.servers) stand (sound.known k through.within) b old.0
    ])
    (held stand change through.phase)

-- the laws of room and of caps
abbrev pub LeavesRoom : Type 0
LeavesRoom = (books : BooksView) (k a : ℕ) (stand : Stand) → k < length books.shards
    → HasRoom books.servers books.groups books.shards → fit books k a ≡ Ok tt
    → AllNamed (λ b. (b ≡ a) ⊎ (names (shard_at books.shards k).stand b ≡ true)) stand
    → HasRoom books.servers books.groups (with_stand books.shards k stand)

abbrev pub FewerLeaveRoom : Type 0
FewerLeaveRoom = (books : BooksView) (k : ℕ) (stand : Stand) → k < length books.shards
    → HasRoom books.servers books.groups books.shards
    → AllNamed (λ b. names (shard_at books.shards k).stand b ≡ true) stand
    → HasRoom books.servers books.groups (with_stand books.shards k stand)

-- there is room for the new stand
pub changes_room : LeavesRoom → FewerLeaveRoom → (books : BooksView) (k : ℕ) (change : Change) → AreSound books
    → IsLetThrough books k change
    → HasRoom books.servers books.groups (with_stand books.shards k (stand_of books k change))
changes_room leaves fewer books k change sound through = by (newly_named change) refl
  where
    by : (x : Option ℕ) → newly_named change ≡ x
        → HasRoom books.servers books.groups (with_stand books.shards k (stand_of books k change))
    by None e =
        fewer books k (stand_of books k change) through.within sound.room
        (after_each (Held (shard_at books.shards k).stand change) (λ b. names (shard_at books.shards k).stand b ≡ true)
        (stand_of books k change)
        (λ b h. elim h [
          | inl new ↦ let none : ◌≡◌ {A = Option ℕ} None (Some b) = sym e ∙ new in absurd (cc)
          | inr old ↦ old.0
        ])
        (held (shard_at books.shards k).stand change through.phase))
    by (Some a) e =
        leaves books k a (stand_of books k change) through.within sound.room
        (fits_some books k (newly_named change) a through.room e)
        (after_each (Held (shard_at books.shards k).stand change)
        (λ b. (b ≡ a) ⊎ (names (shard_at books.shards k).stand b ≡ true))
        (stand_of books k change)
        (λ b h. elim h [
          | inl new ↦ let same : ◌≡◌ {A = Option ℕ} (Some a) (Some b) = sym e ∙ new in let is : b ≡ a = cc in inl is
          | inr old ↦ inr old.0
        ])
        (held (shard_at books.shards k).stand change through.phase))

-- the new stand takes on no server that is leaving
pub takes_none_leaving : ((books : BooksView) (k a : ℕ) → fit books k a ≡ Ok tt → is_leaving (state_of books a) ≡ false)
    → (books : BooksView) (k : ℕ) (change : Change) → IsLetThrough books k change
    → TakesNoneLeaving books (shard_at books.shards k).stand (stand_of books k change)
takes_none_leaving stays books k change through =
    let stand = (shard_at books.shards k).stand in
    after_each (Held stand change)
    (λ a. (is_leaving (state_of books a) ≡ false)
    ⊎ ((names stand a ≡ true) × (is_paused stand ≡ true → is_paused (stand_of books k change) ≡ true)))
    (stand_of books k change)
    (λ b h. elim h [
      | inl new ↦ inl (stays books k b (fits_some books k (newly_named change) b through.room new))
      | inr old ↦ elim old.1 [
        | inl unpaused ↦ inr (old.0, λ paused. absurd (cc))
        | inr back ↦ inl (stays_some books (resumed stand change) b through.stays back)
      ]
    ])
    (held stand change through.phase)

-- if a step of a restart isn't refused, its server is known, and the step has no fault of its own
pub restart_through : (books : BooksView) (a : ℕ) (step : Result (Unit {0}) RestartFault)
    → restart_fault books a step ≡ None → IsKnown books.servers a × (step ≡ Ok tt)
restart_through books a step e =
    let t = both (ltb (place_of books.servers a) (length books.servers)) (option_map Restart (result_err step)) e in
    (ltb-true (place_of books.servers a) (length books.servers) t.0, ok_without Restart step t.1)
  where
    both : (u : Bool) (x : Option CommandFault) → cond u x (Some UnknownServer) ≡ None → (u ≡ true) × (x ≡ None)
    both true x e = (refl, e)
    both false x e = absurd (cc)
