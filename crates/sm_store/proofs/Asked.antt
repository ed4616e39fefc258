-- Each request that is made was asked, and a read belongs to a moment at which it was asked.
use Rattle.std.proofs.Common.{◌≡◌, ℕ, ◌≤◌, List, [], ◌∷◌, ◌++◌, length, refl, sym, ap, subst, ◌∙◌, arith}
use Rattle.std.proofs.Common.{⊎_elim, inl, inr, length-append}
use Rattle.std.specs.Prelude.{Option, Some, None, IfSome, ◌⊎◌, slice_get}
use Rattle.std.specs.List.{AllByRecursion, list_any}
use Rattle.std.proofs.lemmas.Bool.{cond_both}
use Rattle.sm_store.specs.declared.item.Item.{Item}
use Rattle.sm_store.specs.Store.{Transaction, all_hold, made, made_at, made_by}
use Rattle.sm_store.specs.System.{Ask, Event, Comes, Sends, Reaches, Claims, System}
use Rattle.sm_store.specs.System.{SentTransaction, IsAmong, after_reaching}
use Rattle.sm_store.specs.System.{extended, leaves_trace, system_after}
use Rattle.sm_store.specs.Linear.{DidAsk, AreAskedFor, Operation, Update, Query, HasCome}
use Rattle.sm_store.specs.lemmas.Logs.{all_map, at_place, asked_reached, asked_step}
use Rattle.sm_store.proofs.Orders.{all_append, among_back, tails}

-- the requests that are asked
module _ {Q : Type 0} where
  asked_more : (more asked : List (Ask Q)) (shard client number : ℕ) (request : Q)
      → DidAsk asked shard client number request → DidAsk (more ++ asked) shard client number request
  asked_more more asked shard client number request was = (
    was.0,
    record {
      among = among_back was.0 more asked was.1.among;
      shard_is = was.1.shard_is;
      client_is = was.1.client_is;
      number_is = was.1.number_is;
    },
    was.2,
  )

  abbrev pub ItemAsked : List (Ask Q) → ℕ → Item Q → Type 0
  ItemAsked asked shard item = DidAsk asked shard item.client item.number item.request

  items_more : (more asked : List (Ask Q)) (shard : ℕ) (items : List (Item Q))
      → AllByRecursion (ItemAsked asked shard) items → AllByRecursion (ItemAsked (more ++ asked) shard) items
  items_more more asked shard items all =
      all_map (ItemAsked asked shard) (ItemAsked (more ++ asked) shard)
      (λ item was. asked_more more asked shard item.client item.number item.request was) items all

module _ {Q P : Type 0} where
  -- each request of the sent transaction was asked
  abbrev SentAsked : List (Ask Q) → SentTransaction Q P → Type 0
  SentAsked asked sent = (shard : ℕ) → AllByRecursion (ItemAsked asked shard) (made_by shard sent.txn.writes)

  extended_asked : (asked : List (Ask Q)) (txn : Transaction Q P) (log : List (Transaction Q P)) (shard : ℕ)
      → AllByRecursion (ItemAsked asked shard) (made_by shard txn.writes)
      → AllByRecursion (ItemAsked asked shard) (made shard log)
      → AllByRecursion (ItemAsked asked shard) (made shard (extended txn log))
  extended_asked asked txn log shard new old =
      cond_both (list_any (leaves_trace log) txn.writes) (txn ∷ log) log
      (λ (grown : List (Transaction Q P)). AllByRecursion (ItemAsked asked shard) (made shard grown))
      (λ _. all_append (ItemAsked asked shard) (made shard log) (made_by shard txn.writes) old new) (λ _. old)

  -- a step of the store adds at most one transaction
  abbrev IsStep : List (Transaction Q P) → List (Transaction Q P) → Type 0
  IsStep new old = (new ≡ old) ⊎ ((txn : Transaction Q P) × (new ≡ txn ∷ old))

  extended_step : (txn : Transaction Q P) (log : List (Transaction Q P)) → IsStep (extended txn log) log
  extended_step txn log =
      cond_both (list_any (leaves_trace log) txn.writes) (txn ∷ log) log
      (λ (new : List (Transaction Q P)). IsStep new log) (λ _. inr (txn, refl)) (λ _. inl refl)

module _ {Q P R : Type 0} where
  asked_later : (event : Event Q P R) (earlier : List (Event Q P R)) (shard client number : ℕ) (request : Q)
      → DidAsk (system_after earlier).asked shard client number request
      → DidAsk (system_after (event ∷ earlier)).asked shard client number request
  asked_later event earlier shard client number request was =
      let step = asked_step (system_after earlier) event in
      subst (λ (asked : List (Ask Q)). DidAsk asked shard client number request) (sym step.1)
      (asked_more step.0 (system_after earlier).asked shard client number request was)

  pub come_later : (event : Event Q P R) (earlier : List (Event Q P R)) (op : Operation Q R)
      → HasCome earlier op → HasCome (event ∷ earlier) op
  come_later event earlier (Update shard item reply) was =
      asked_later event earlier shard item.client item.number item.request was
  come_later event earlier (Query shard client number request reply text told) was =
      asked_later event earlier shard client number request was

  pub record AllAsked (system : System Q P R) : Type 0 where
    pub sent : AllByRecursion (SentAsked system.asked) system.sent
    pub made_were : (shard : ℕ) → AllByRecursion (ItemAsked system.asked shard) (made shard system.log)

  reached_asked : (system : System Q P R) (revision : ℕ) (found : Option (SentTransaction Q P)) → AllAsked system
      → IfSome found (SentAsked system.asked) → AllAsked (after_reaching system revision found)
  reached_asked system revision None all one = all
  reached_asked system revision (Some sent) all one =
      cond_both (all_hold system.log sent.txn.compares)
      (record {
        log = extended (made_at revision sent.txn) system.log;
        asked = system.asked;
        sent = system.sent;
        held = record { txn = sent.txn; since = sent.since; moment = system.log } ∷ system.held;
        claims = system.claims;
      })
      system AllAsked
      (λ _. record {
        sent = all.sent;
        made_were = λ shard.
            extended_asked system.asked (made_at revision sent.txn) system.log shard (one shard)
            (all.made_were shard);
      })
      (λ _. all)

  -- each request that is made was asked
  pub all_asked : (events : List (Event Q P R)) → AreAskedFor events → AllAsked (system_after events)
  all_asked [] asked = record { sent = tt; made_were = λ shard. tt }
  all_asked (Comes shard client number request ∷ earlier) asked =
      let was = all_asked earlier asked in
      let old = (system_after earlier).asked in
      let new : Ask Q = record {
        shard = shard;
        client = client;
        number = number;
        request = request;
        since = length (system_after earlier).log;
      } in
      record {
        sent = all_map (SentAsked old) (SentAsked (new ∷ old))
            (λ sent all at. items_more (new ∷ []) old at (made_by at sent.txn.writes) (all at))
            (system_after earlier).sent was.sent;
        made_were = λ at. items_more (new ∷ []) old at (made at (system_after earlier).log) (was.made_were at);
      }
  all_asked (Sends txn ∷ earlier) asked =
      let was = all_asked earlier asked.1 in
      record { sent = (asked.0, was.sent); made_were = was.made_were }
  all_asked (Reaches which revision ∷ earlier) asked =
      let was = all_asked earlier asked in
      let system = system_after earlier in
      reached_asked system revision (slice_get system.sent which) was
      (at_place (SentAsked system.asked) system.sent which was.sent)
  all_asked (Claims claim ∷ earlier) asked =
      let was = all_asked earlier asked in
      record { sent = was.sent; made_were = was.made_were }

  reached_step : (system : System Q P R) (revision : ℕ) (found : Option (SentTransaction Q P))
      → IsStep (after_reaching system revision found).log system.log
  reached_step system revision None = inl refl
  reached_step system revision (Some sent) =
      cond_both (all_hold system.log sent.txn.compares)
      (record {
        log = extended (made_at revision sent.txn) system.log;
        asked = system.asked;
        sent = system.sent;
        held = record { txn = sent.txn; since = sent.since; moment = system.log } ∷ system.held;
        claims = system.claims;
      })
      system (λ (new : System Q P R). IsStep new.log system.log)
      (λ _. extended_step (made_at revision sent.txn) system.log) (λ _. inl refl)

  -- the moment at which the store had the values that were read
  pub record Moment (events : List (Event Q P R)) (past : List (Transaction Q P)) (ask : Ask Q) : Type 0 where
    pub late : List (Event Q P R)
    pub early : List (Event Q P R)
    pub is : events ≡ late ++ early
    pub then_was : (system_after early).log ≡ past
    pub asked : IsAmong ask (system_after early).asked

  moment_later : (event : Event Q P R) (earlier : List (Event Q P R)) (past : List (Transaction Q P)) (ask : Ask Q)
      → Moment earlier past ask → Moment (event ∷ earlier) past ask
  moment_later event earlier past ask was = record {
    late = event ∷ was.late;
    early = was.early;
    is = ap (λ (rest : List (Event Q P R)). event ∷ rest) was.is;
    then_was = was.then_was;
    asked = was.asked;
  }

  pub moment_of : (events : List (Event Q P R)) (later past : List (Transaction Q P)) (ask : Ask Q)
      → IsAmong ask (system_after events).asked → (system_after events).log ≡ later ++ past → ask.since ≤ length past
      → Moment events past ask
  moment_of events [] past ask among is since =
      record { late = []; early = events; is = refl; then_was = is; asked = among }
  moment_of [] (txn ∷ later) past ask among is since = absurd among
  moment_of (Comes shard client number request ∷ earlier) (txn ∷ later) past ask among is since =
      let now : length (system_after earlier).log ≡ length (txn ∷ later ++ past) = ap length is in
      let new : Ask Q = record {
        shard = shard;
        client = client;
        number = number;
        request = request;
        since = length (system_after earlier).log;
      } in
      moment_later (Comes shard client number request) earlier past ask
      (moment_of earlier (txn ∷ later) past ask
      (⊎_elim
      (λ (same : new ≡ ask).
      let s : length (system_after earlier).log ≡ ask.since = ap (λ (a : Ask Q). a.since) same in
      absurd (omega (arith, length-append later past)))
      (λ (rest : IsAmong ask (system_after earlier).asked). rest) among)
      is since)
  moment_of (Sends sent ∷ earlier) (txn ∷ later) past ask among is since =
      moment_later (Sends sent) earlier past ask (moment_of earlier (txn ∷ later) past ask among is since)
  moment_of (Claims claim ∷ earlier) (txn ∷ later) past ask among is since =
      moment_later (Claims claim) earlier past ask (moment_of earlier (txn ∷ later) past ask among is since)
  moment_of (Reaches which revision ∷ earlier) (txn ∷ later) past ask among is since =
      let system = system_after earlier in
      let found = slice_get system.sent which in
      let was : IsAmong ask system.asked =
      subst (λ (asked : List (Ask Q)). IsAmong ask asked) (asked_reached system revision found) among in
      moment_later (Reaches which revision) earlier past ask
      (⊎_elim
      (λ (same : (after_reaching system revision found).log ≡ system.log).
      moment_of earlier (txn ∷ later) past ask was (sym same ∙ is) since)
      (λ (one : (t : Transaction Q P) × ((after_reaching system revision found).log ≡ t ∷ system.log)).
      moment_of earlier later past ask was (tails one.0 txn system.log (later ++ past) (sym one.1 ∙ is)) since)
      (reached_step system revision found))
