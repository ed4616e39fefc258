-- Books at the start meet the caps, and which new stands keep the caps.
use Rattle.std.proofs.Common.{ℕ, ◌<◌, ◌≤◌, ◌≡◌, Bool, true, false, cond, eqb, List, length, get_or, All, refl}
use Rattle.std.proofs.Common.{ap, sym, ◌∙◌, arith, inl, inr, ◌⊎◌, ◌&&◌}
use Rattle.std.specs.Prelude.{count_by}
use Rattle.std.proofs.lemmas.Bool.{and_right}
use Rattle.std.proofs.lemmas.Bool.Decides.{eqb_tells}
use Rattle.std.proofs.lemmas.Option.{IfSome_then}
use Rattle.std.proofs.lemmas.List.Elements.{All-get_or, All-map, All-replicate}
use Rattle.std.proofs.lemmas.List.Sums.{sum_by-le, sum_by-set}
use Rattle.sm_ranges.specs.declared.stand.Stand.{Stand}
use Rattle.sm_ranges.specs.declared.stand.Stand.TheVariants.{Prepared, Serving, Vacant}
use Rattle.sm_rows.specs.declared.domain_row.DomainRow.{DomainRow}
use Rattle.sm_rows.specs.declared.group_row.GroupRow.{GroupRow}
use Rattle.sm_rows.specs.declared.server_row.ServerRow.{ServerRow}
use Rattle.sm_place.specs.declared.server_state.ServerState.TheVariants.{Up}
use Rattle.sm_place.specs.declared.shard.Shard.{Shard}
use Rattle.sm_rows.specs.declared.shard_row.ShardRow.{ShardRow}
use Rattle.sm_place.specs.Books.{BooksView, moved, no_shard, new_books, shard_at, state_of, vacant_shard, with_stand}
use Rattle.sm_ranges.specs.Stand.{AllNamed, names, other_of, owner_of, is_paused}
use Rattle.sm_place.specs.ServerState.{is_leaving, is_away, is_stopped}
use Rattle.sm_place.specs.lemmas.Changed.{length-with_stand, shard_at-other, shard_at-same}
use Rattle.sm_place.specs.lemmas.Named.{AllNamed-at, names_one-found, names_one-named, names-owner}
use Rattle.sm_tasks.specs.Caps.{MeetsCaps, RestartCaps, TakesNoneLeaving, names_away, names_stopped}
use Rattle.sm_tasks.specs.Groups.{group_count, is_in_group}
use Rattle.sm_tasks.specs.Domains.{domain_count}
use Rattle.sm_tasks.proofs.Zipped.{domain_count-none}
use Rattle.sm_tasks.proofs.Restarts.{cond_within, false_within, is_away-stopped, is_leaving-away}

-- if nothing passes, nothing is counted
none_counted : {X : Type 0} (p : X → Bool) (xs : List X) → All (λ x. p x ≡ false) xs → count_by p xs ≤ 0
none_counted p xs all =
    let le = sum_by-le (λ x. cond (p x) 1 0) 0 xs (λ k d h. zero_where (p (get_or xs k d)) (all k d h)) in
    omega (arith, le)
  where
    zero_where : (u : Bool) → u ≡ false → cond u 1 0 ≤ 0
    zero_where u e = rw e (omega arith)

-- if the test refuses vacant stands, a vacant shard is not counted
of_vacant : (test : Stand → Bool) (g : ℕ) (shard : Shard) → test Vacant ≡ false → shard.stand ≡ Vacant
    → is_in_group test g shard ≡ false
of_vacant test g shard fails e = and_right (eqb shard.row.group g) (test shard.stand) (ap test e ∙ fails)

pub MeetsCaps-all_up : (allowed : RestartCaps) (books : BooksView) → All (λ state. state ≡ Up) books.states
    → All (λ shard. shard.stand ≡ Vacant) books.shards → MeetsCaps allowed books
MeetsCaps-all_up allowed books up all = record {
  servers = let none : count_by is_away books.states ≤ 0 =
      none_counted is_away books.states (λ k d h. ap is_away (up k d h)) in omega arith;
  shards = λ k h cap. ap (names_away books) (All-get_or (λ shard. shard.stand ≡ Vacant) books.shards k no_shard h all);
  groups = λ g h.
      let none : group_count (names_away books) books.shards g ≤ 0 =
      none_counted (is_in_group (names_away books) g) books.shards
      (λ k d inside. of_vacant (names_away books) g (get_or books.shards k d) refl (all k d inside)) in
      omega arith;
  stopped = λ k h e.
      let no : names_stopped books (shard_at books.shards k).stand ≡ false =
      ap (names_stopped books) (All-get_or (λ shard. shard.stand ≡ Vacant) books.shards k no_shard h all) in
      absurd (cc);
  domains = λ d.
      let none : domain_count is_away books d ≡ 0 =
      domain_count-none is_away books.servers books.states d (λ k e h. ap is_away (up k e h)) in
      omega (arith, none);
}

pub MeetsCaps-new :
    (allowed : RestartCaps) (servers : List ServerRow) (groups : List GroupRow) (shards : List ShardRow)
    (domains : List DomainRow)
    → MeetsCaps allowed (new_books servers groups shards domains)
MeetsCaps-new allowed servers groups shards domains =
    MeetsCaps-all_up allowed (new_books servers groups shards domains)
    (All-replicate (λ state. state ≡ Up) (length servers) Up refl)
    (All-map (λ shard. shard.stand ≡ Vacant) vacant_shard shards (λ k d h. refl))

-- a stand that takes on no server that is leaving names one that is away only if the old stand does
old_away : (books : BooksView) (old stand : Stand) → TakesNoneLeaving books old stand → names_away books stand ≡ true
    → names_away books old ≡ true
old_away books old stand takes e =
    let found = names_one-found (λ b. is_away (state_of books b)) stand e in
    elim (AllNamed-at
    (λ a. (is_leaving (state_of books a) ≡ false)
    ⊎ ((names old a ≡ true) × (is_paused old ≡ true → is_paused stand ≡ true)))
    stand takes found.0 found.1.0) [
      | inl stays ↦ let leaves = is_leaving-away (state_of books found.0) found.1.1 in absurd (cc)
      | inr named ↦ names_one-named (λ b. is_away (state_of books b)) old found.0 named.0 found.1.1
    ]

-- and it names one that is stopped only if the old stand does, and stays paused
still_paused : (books : BooksView) (old stand : Stand) → TakesNoneLeaving books old stand
    → (names_stopped books old ≡ true → is_paused old ≡ true) → names_stopped books stand ≡ true
    → is_paused stand ≡ true
still_paused books old stand takes held e =
    let found = names_one-found (λ b. is_stopped (state_of books b)) stand e in
    elim (AllNamed-at
    (λ a. (is_leaving (state_of books a) ≡ false)
    ⊎ ((names old a ≡ true) × (is_paused old ≡ true → is_paused stand ≡ true)))
    stand takes found.0 found.1.0) [
      | inl stays ↦ let leaves =
          is_leaving-away (state_of books found.0) (is_away-stopped (state_of books found.0) found.1.1) in absurd (cc)
      | inr named ↦ named.1 (held (names_one-named (λ b. is_stopped (state_of books b)) old found.0 named.0 found.1.1))
    ]

of_within : (p : Stand → Bool) (g : ℕ) (shard : Shard) (stand : Stand) → (p stand ≡ true → p shard.stand ≡ true)
    → is_in_group p g (moved shard stand) ≡ true → is_in_group p g shard ≡ true
of_within p g shard stand h e = both (eqb shard.row.group g) (p stand) (p shard.stand) h e
  where
    both : (u v w : Bool) → (v ≡ true → w ≡ true) → (u && v) ≡ true → (u && w) ≡ true
    both true v w h e = h e
    both false v w h e = e

pub MeetsCaps-taken : (allowed : RestartCaps) (books : BooksView) (k : ℕ) (stand : Stand) → k < length books.shards
    → TakesNoneLeaving books (shard_at books.shards k).stand stand
    → MeetsCaps allowed books → MeetsCaps allowed (record books { shards = with_stand books.shards k stand })
MeetsCaps-taken allowed books k stand inside takes caps =
    let s = shard_at books.shards k in
    let away = old_away books s.stand stand takes in
    record {
      servers = caps.servers;
      shards = λ j h cap. elim (eqb_tells j k) [
        | inl p ↦
            let e : shard_at (with_stand books.shards k stand) j ≡ moved s stand =
            ap (shard_at (with_stand books.shards k stand)) p.1 ∙ shard_at-same books.shards k stand inside in
            let old_cap : s.row.cap ≡ 0 = sym (ap (λ (x : Shard). x.row.cap) e) ∙ cap in
            ap (λ (x : Shard). names_away books x.stand) e ∙ false_within _ _ away (caps.shards k inside old_cap)
        | inr p ↦
            let e = shard_at-other books.shards k j stand p.1 in
            let h' : j < length books.shards = rw (← length-with_stand books.shards k stand) h in
            ap (λ (x : Shard). names_away books x.stand) e
            ∙ caps.shards j h' (sym (ap (λ (x : Shard). x.row.cap) e) ∙ cap)
      ];
      groups = λ g h.
          let set = sum_by-set (λ x. cond (is_in_group (names_away books) g x) 1 0) books.shards k
          (moved s stand) no_shard inside in
          let less : cond (is_in_group (names_away books) g (moved s stand)) 1 0
          ≤ cond (is_in_group (names_away books) g s) 1 0 =
          cond_within (is_in_group (names_away books) g (moved s stand)) (is_in_group (names_away books) g s) 1
          (of_within (names_away books) g s stand away) in
          omega (arith, set, less, caps.groups g h);
      stopped = λ j h t. elim (eqb_tells j k) [
        | inl p ↦
            let e : shard_at (with_stand books.shards k stand) j ≡ moved s stand =
            ap (shard_at (with_stand books.shards k stand)) p.1 ∙ shard_at-same books.shards k stand inside in
            ap (λ (x : Shard). is_paused x.stand) e
            ∙ still_paused books s.stand stand takes (caps.stopped k inside)
            (sym (ap (λ (x : Shard). names_stopped books x.stand) e) ∙ t)
        | inr p ↦
            let e = shard_at-other books.shards k j stand p.1 in
            let h' : j < length books.shards = rw (← length-with_stand books.shards k stand) h in
            ap (λ (x : Shard). is_paused x.stand) e
            ∙ caps.stopped j h' (sym (ap (λ (x : Shard). names_stopped books x.stand) e) ∙ t)
      ];
      domains = caps.domains;
    }

-- a server that isn't leaving serves the shard
pub MeetsCaps-serving : (allowed : RestartCaps) (books : BooksView) (k a : ℕ) → k < length books.shards
    → is_leaving (state_of books a) ≡ false
    → MeetsCaps allowed books → MeetsCaps allowed (record books { shards = with_stand books.shards k (Serving a) })
MeetsCaps-serving allowed books k a inside stays caps =
    MeetsCaps-taken allowed books k (Serving a) inside (inl stays, tt) caps

-- a server that isn't leaving is prepared beside the owner
pub MeetsCaps-prepared : (allowed : RestartCaps) (books : BooksView) (k owner a : ℕ) → k < length books.shards
    → (shard_at books.shards k).stand ≡ Serving owner → is_leaving (state_of books a) ≡ false
    → MeetsCaps allowed books
    → MeetsCaps allowed (record books { shards = with_stand books.shards k (Prepared owner a) })
MeetsCaps-prepared allowed books k owner a inside serves stays caps =
    let unpaused : is_paused (shard_at books.shards k).stand ≡ false = ap is_paused serves in
    MeetsCaps-taken allowed books k (Prepared owner a) inside
    (inr (names-owner (shard_at books.shards k).stand owner (ap owner_of serves), λ held. absurd (cc)), inl stays) caps

-- a shard that isn't paused names no more servers
pub MeetsCaps-fewer : (allowed : RestartCaps) (books : BooksView) (k : ℕ) (stand : Stand) → k < length books.shards
    → is_paused (shard_at books.shards k).stand ≡ false
    → AllNamed (λ a. names (shard_at books.shards k).stand a ≡ true) stand
    → MeetsCaps allowed books → MeetsCaps allowed (record books { shards = with_stand books.shards k stand })
MeetsCaps-fewer allowed books k stand inside unpaused named caps =
    let old = (shard_at books.shards k).stand in
    let held : is_paused old ≡ true → is_paused stand ≡ true = λ h. absurd (cc) in
    MeetsCaps-taken allowed books k stand inside (
      IfSome_then (owner_of stand) named.0 (λ a n. inr (n, held)),
      IfSome_then (other_of stand) named.1 (λ a n. inr (n, held)),
    ) caps
