-- No stopped server executes, if the caps are kept.
use Rattle.std.proofs.Common.{◌≡◌, ℕ, ◌<◌, Bool, true, false, List, length, refl, sym, ap, ◌∙◌, subst, arith, ⊎_elim}
use Rattle.std.specs.Prelude.{All, Option, Some, None, ◌||◌}
use Rattle.std.proofs.lemmas.Bool.{true≢false, cases_lt, or_right}
use Rattle.std.proofs.lemmas.List.{get_or_past}
use Rattle.sm_ranges.specs.declared.stand.Stand.{Stand}
use Rattle.sm_ranges.specs.declared.stand.Stand.TheVariants.{Vacant, Serving, Prepared, Forwarding, Taken, Paused}
use Rattle.sm_ranges.specs.Stand.{names_one, is_paused}
use Rattle.sm_ownership.specs.declared.entry.Entry.{Entry}
use Rattle.sm_ownership.specs.declared.entry.Kind.TheVariants.{Admit}
use Rattle.sm_ownership.specs.declared.mode.Mode.{Mode}
use Rattle.sm_ownership.specs.History.{IsLegal, open_admissions}
use Rattle.sm_ownership.specs.Rules.{executor, executor_of}
use Rattle.sm_place.specs.declared.shard.Shard.{Shard}
use Rattle.sm_place.specs.Books.{BooksView, no_shard, shard_at, state_of}
use Rattle.sm_tasks.specs.Caps.{MeetsCaps, RestartCaps}
use Rattle.sm_place.specs.ServerState.{is_stopped}
use Rattle.sm_rule.specs.Changes.{ChairValue}
use Rattle.sm_rule.specs.Views.{record_in}
use Rattle.sm_control.specs.Controls.{AdmitsUnstopped, AreStandsIn, AreStandsSeen, PassesLeadTo}
use Rattle.sm_control.proofs.Standing.{stands_last}

-- a stand with an executor names it, and isn't paused
executor_named : (test : ℕ → Bool) (stand : Stand) (server : ℕ) → executor_of stand ≡ Some server → test server ≡ true
    → (names_one test stand ≡ true) × (is_paused stand ≡ false)
executor_named test Vacant server is passes = absurd (cc)
executor_named test (Serving owner) server is passes = let same : owner ≡ server = cc in
    (ap (λ b. b || false) (ap test same ∙ passes), refl)
executor_named test (Prepared owner next) server is passes = let same : owner ≡ server = cc in
    (ap (λ b. b || test next) (ap test same ∙ passes), refl)
executor_named test (Forwarding owner next) server is passes = let same : next ≡ server = cc in
    (or_right (test owner) (test next) (ap test same ∙ passes), refl)
executor_named test (Taken owner previous) server is passes = let same : owner ≡ server = cc in
    (ap (λ b. b || test previous) (ap test same ∙ passes), refl)
executor_named test (Paused owner) server is passes = absurd (cc)

module _ (allowed : RestartCaps) (books : BooksView) (caps : MeetsCaps allowed books) (shard server : ℕ)
    (is : executor_of (shard_at books.shards shard).stand ≡ Some server) where
  within : shard < length books.shards
  within =
      ⊎_elim
      (λ (less : shard < length books.shards). less)
      (λ past.
      let row : shard_at books.shards shard ≡ no_shard = get_or_past books.shards shard no_shard (omega arith) in
      let none : ◌≡◌ {A = Option ℕ} None (Some server) = sym (ap (λ (one : Shard). executor_of one.stand) row) ∙ is in
      absurd (cc))
      (cases_lt shard (length books.shards))

  -- if the caps are kept, an executor isn't stopped
  pub executor_runs : is_stopped (state_of books server) ≡ false
  executor_runs = by (is_stopped (state_of books server)) refl
    where
      by : (b : Bool) → is_stopped (state_of books server) ≡ b → b ≡ false
      by false stopped = refl
      by true stopped =
          let named = executor_named (λ one. is_stopped (state_of books one))
          (shard_at books.shards shard).stand server is stopped in
          absurd (true≢false (sym (caps.stopped shard within named.0) ∙ named.1))

module _ {Q : Type 0} (allowed : RestartCaps) (books : BooksView) (caps : MeetsCaps allowed books) (p : ChairValue Q)
    (same : AreStandsSeen books p) (history : List (Entry Q)) (led : PassesLeadTo p history) where
  -- the stands are still the shards'
  pub stands_led : AreStandsIn books p.board.limits history
  stands_led =
      subst (λ (entries : List (Entry Q)). AreStandsIn books p.board.limits entries) (sym led.1)
      (stands_last books p same led.0 (subst (λ
      (entries : List (Entry Q)). IsLegal p.board.limits.count p.board.limits.ceiling entries) led.1 led.3) led.2)

  pub executor_led : (shard server : ℕ) → executor (record_in p.board.limits history shard) ≡ Some server
      → is_stopped (state_of books server) ≡ false
  executor_led shard server is =
      executor_runs allowed books caps shard server (ap executor_of (stands_led.1 shard) ∙ is)

  -- the property of present admissions, by the law of executors
  abbrev IsOfExecutor : ℕ → Entry Q → Type 0
  IsOfExecutor shard entry = (server : ℕ) × (mode : Mode) × (entry.kind ≡ Admit server mode)
      × (executor (record_in p.board.limits history shard) ≡ Some server)

  pub admissions_led : (shard : ℕ) → All (IsOfExecutor shard) (open_admissions history shard)
      → All (AdmitsUnstopped books) (open_admissions history shard)
  admissions_led shard all = λ at default less. let one = all at default less in
      (one.0, one.1, one.2, executor_led shard one.0 one.3)
