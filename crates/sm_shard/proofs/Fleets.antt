-- Every run of a fleet is one of the store's events, and so lawful.
use Rattle.std.proofs.Common.{◌≡◌, ℕ, zero, suc, List, [], ◌∷◌, ◌++◌, length, map, refl, sym, ap, subst}
use Rattle.std.proofs.Common.{◌∙◌}
use Rattle.sm_store.specs.Linear.{AreAskedFor, AsksFor, IsLinear}
use Rattle.std.specs.Prelude.{Option, Some, None, IfSome, slice_set}
use Rattle.std.specs.List.{AllByRecursion}
use Rattle.sm_shard.specs.Bases.{Part, base_of}
use Rattle.sm_store.specs.declared.item.Item.{Item}
use Rattle.sm_store.specs.Clients.{Automaton}
use Rattle.sm_store.specs.Store.{Transaction}
use Rattle.sm_store.specs.Deeds.{AreRight, Charter, MaySend}
use Rattle.sm_store.specs.System.{Ask, Claim, Replies, Overtaken, Reads, Event, Comes, Sends, Reaches, Claims, IsLawful}
use Rattle.sm_store.specs.System.{May, MayClaim}
use Rattle.sm_store.specs.System.{MightHappen, System, happens, system_after}
use Rattle.sm_store.specs.lemmas.Growth.{asked_grows, found_grows}
use Rattle.sm_store.specs.lemmas.Logs.{all_map, asked_step, asks_within, at_place, log_step}
use Rattle.sm_shard.specs.declared.shard_state.ShardState.{ShardState}
use Rattle.sm_shard.specs.Fleet.{Act, AllAskFor, AsksForAct, AsksForEvent, MayAct, MightAct, Otherwise, Running, Starts}
use Rattle.sm_shard.specs.Fleet.{Steps, events_of, fleet_after, sent_since}
use Rattle.sm_shard.specs.ShardServers.{AreAsked, AreAskedOf, AreRequestsAsked, AreRequestsAskedOf, HasRead, IsAsked}
use Rattle.sm_shard.specs.ShardServers.{IsAskedBy, IsTrueOf, StoreLog}
use Rattle.sm_shard.specs.Steps.{ArePast, AsksForStep, IsSafe, since_after, step_claims, step_sends}
use Rattle.sm_shard.proofs.Works.{base_grows}

all_set : {A : Type 0} (F : A → Type 0) (xs : List A) (which : ℕ) (new : A) → AllByRecursion F xs → F new
    → AllByRecursion F (slice_set xs which new)
all_set F [] which new all one = tt
all_set F (x ∷ xs) zero new all one = (one, all.1)
all_set F (x ∷ xs) (suc which) new all one = (all.0, all_set F xs which new all.1 one)

module _ {Q : Type 0} where
  item_grows : (new : Ask Q) (asked : List (Ask Q)) (shard : ℕ) (item : Item Q) → IsAsked asked shard item
      → IsAsked (new ∷ asked) shard item
  item_grows new asked shard item was =
      (was.0, asked_grows new asked shard item.client item.number was.0 was.1, was.2)

  item_by_grows : (new : Ask Q) (asked : List (Ask Q)) (shard since : ℕ) (item : Item Q)
      → IsAskedBy asked shard since item → IsAskedBy (new ∷ asked) shard since item
  item_by_grows new asked shard since item was =
      (was.0, asked_grows new asked shard item.client item.number was.0 was.1, was.2, was.3)

  items_grow : {M R : Type 0} (new : Ask Q) (asked : List (Ask Q)) (since shard : ℕ) (ready : ShardState M Q R)
      → AreAskedOf asked since shard ready → AreAskedOf (new ∷ asked) since shard ready
  items_grow new asked since shard ready are = record {
    asking = all_map (IsAsked asked shard) (IsAsked (new ∷ asked) shard) (item_grows new asked shard)
        ready.asking.items are.asking;
    carried = all_map (IsAskedBy asked shard since) (IsAskedBy (new ∷ asked) shard since)
        (item_by_grows new asked shard since) ready.carried.items are.carried;
  }

  asked_more : {M R : Type 0} (more asked : List (Ask Q)) (since shard : ℕ) (found : Option (ShardState M Q R))
      → IfSome found (λ ready. AreAskedOf asked since shard ready)
      → IfSome found (λ ready. AreAskedOf (more ++ asked) since shard ready)
  asked_more more asked since shard None are = are
  asked_more [] asked since shard (Some ready) are = are
  asked_more (new ∷ more) asked since shard (Some ready) are =
      items_grow new (more ++ asked) since shard ready (asked_more more asked since shard (Some ready) are)

  requests_grow : {M R : Type 0} (new : Ask Q) (asked : List (Ask Q)) (shard : ℕ) (ready : ShardState M Q R)
      → AreRequestsAskedOf asked shard ready → AreRequestsAskedOf (new ∷ asked) shard ready
  requests_grow new asked shard ready are = record {
    sent = all_map (IsAsked asked shard) (IsAsked (new ∷ asked) shard) (item_grows new asked shard)
        ready.sent.items are.sent;
    waiting = all_map (IsAsked asked shard) (IsAsked (new ∷ asked) shard) (item_grows new asked shard)
        ready.waiting.items are.waiting;
  }

  requests_more : {M R : Type 0} (more asked : List (Ask Q)) (shard : ℕ) (found : Option (ShardState M Q R))
      → IfSome found (λ ready. AreRequestsAskedOf asked shard ready)
      → IfSome found (λ ready. AreRequestsAskedOf (more ++ asked) shard ready)
  requests_more more asked shard None are = are
  requests_more [] asked shard (Some ready) are = are
  requests_more (new ∷ more) asked shard (Some ready) are =
      requests_grow new (more ++ asked) shard ready (requests_more more asked shard (Some ready) are)

  -- the requests of a server that runs were asked
  abbrev AreRunningAsked : {M R : Type 0} → List (Ask Q) → Running M Q R → Type 0
  AreRunningAsked asked running = AreRequestsAsked asked running.server

  running_more : {M R : Type 0} (more asked : List (Ask Q)) (running : Running M Q R)
      → AreRunningAsked asked running → AreRunningAsked (more ++ asked) running
  running_more more asked running are =
      requests_more more asked running.server.shard running.server.ready are

module _ {M Q R : Type 0} (service : Automaton M Q R) where
  knows_grows : (more log : StoreLog Q R) (me shard : ℕ) (ready : ShardState M Q R)
      → HasRead service log me shard ready → HasRead service (more ++ log) me shard ready
  knows_grows more log me shard ready knows = record {
    stood = found_grows _ _ more log _ _ knows.stood;
    before = knows.before;
    logged = found_grows _ _ more log _ _ knows.logged;
    is = knows.is;
    base = base_grows service more log shard ready.head ready.work knows.base;
  }

  known_grows : (more log : StoreLog Q R) (me shard : ℕ) (found : Option (ShardState M Q R))
      → IfSome found (λ ready. HasRead service log me shard ready)
      → IfSome found (λ ready. HasRead service (more ++ log) me shard ready)
  known_grows more log me shard None known = known
  known_grows more log me shard (Some ready) known = knows_grows more log me shard ready known

  -- a server of the store's shards, whose knowledge is true
  pub record IsGoodServer (charter : Charter Q (Part R)) (log : StoreLog Q R) (asked : List (Ask Q))
      (running : Running M Q R) : Type 0 where
    pub count : charter.count ≡ running.server.count
    pub known : IsTrueOf service log running.server
    pub in_time : AreAsked asked running.since running.server

  good_grows : (charter : Charter Q (Part R)) (more log : StoreLog Q R) (extra asked : List (Ask Q))
      (running : Running M Q R) → IsGoodServer charter log asked running
      → IsGoodServer charter (more ++ log) (extra ++ asked) running
  good_grows charter more log extra asked running good = record {
    count = good.count;
    known = known_grows more log running.server.me running.server.shard running.server.ready good.known;
    in_time = asked_more extra asked running.since running.server.shard running.server.ready good.in_time;
  }

module _ {Q R : Type 0} where
  -- the system with more transactions sent
  abbrev with_sent : System Q (Part R) R → List (Transaction Q (Part R)) → System Q (Part R) R
  with_sent system txns =
      record {
        log = system.log;
        asked = system.asked;
        sent = map (sent_since (length system.log)) txns ++ system.sent;
        held = system.held;
        claims = system.claims;
      }

  -- the system with more claims
  abbrev with_claims : System Q (Part R) R → List (Claim Q R) → System Q (Part R) R
  with_claims system claims =
      record {
        log = system.log;
        asked = system.asked;
        sent = system.sent;
        held = system.held;
        claims = claims ++ system.claims;
      }

  -- sending and claiming are events
  sent_after : (events : List (Event Q (Part R) R)) (txns : List (Transaction Q (Part R)))
      → system_after (map Sends txns ++ events) ≡ with_sent (system_after events) txns
  sent_after events [] = refl
  sent_after events (txn ∷ txns) =
      ap (λ (system : System Q (Part R) R). happens system (Sends txn)) (sent_after events txns)

  claimed_after : (events : List (Event Q (Part R) R)) (claims : List (Claim Q R))
      → system_after (map Claims claims ++ events) ≡ with_claims (system_after events) claims
  claimed_after events [] = refl
  claimed_after events (claim ∷ claims) =
      ap (λ (system : System Q (Part R) R). happens system (Claims claim)) (claimed_after events claims)

module _ {Q R : Type 0} where
  sends_asked : (events : List (Event Q (Part R) R)) (txns : List (Transaction Q (Part R)))
      → AllByRecursion (AsksFor (system_after events).asked) txns → AreAskedFor events
      → AreAskedFor (map Sends txns ++ events)
  sends_asked events [] all asked = asked
  sends_asked events (txn ∷ txns) all asked = (
    subst (λ (system : System Q (Part R) R). AsksFor system.asked txn) (sym (sent_after events txns)) all.0,
    sends_asked events txns all.1 asked,
  )

  claims_asked : (claims : List (Claim Q R)) (events : List (Event Q (Part R) R)) → AreAskedFor events
      → AreAskedFor (map Claims claims ++ events)
  claims_asked [] events asked = asked
  claims_asked (claim ∷ claims) events asked = claims_asked claims events asked

  -- the system of a fleet is that of its events
  pub system_is : {M : Type 0} (acts : List (Act M Q R)) → (fleet_after acts).system ≡ system_after (events_of acts)
  system_is [] = refl
  system_is (Starts server ∷ acts) = system_is acts
  system_is (Steps which old input result new ∷ acts) =
      let sends = step_sends result new in
      let claims = step_claims old.server input result in
      ap (λ (now : System Q (Part R) R). with_claims (with_sent now sends) claims) (system_is acts)
      ∙ ap (λ (now : System Q (Part R) R). with_claims now claims) (sym (sent_after (events_of acts) sends))
      ∙ sym (claimed_after (map Sends sends ++ events_of acts) claims)
  system_is (Otherwise event ∷ acts) = ap (λ (system : System Q (Part R) R). happens system event) (system_is acts)

module _ {M Q R : Type 0} (service : Automaton M Q R) where
  -- a claim that may be made stays allowed, whatever else is sent and claimed
  may_still : (system : System Q (Part R) R) (txns : List (Transaction Q (Part R))) (claims : List (Claim Q R))
      (claim : Claim Q R) → MayClaim service system claim
      → MayClaim service (with_claims (with_sent system txns) claims) claim
  may_still system txns claims (Replies shard client number request answer) may = may
  may_still system txns claims (Overtaken shard client number) may = may
  may_still system txns claims (Reads shard client number request answer text) may = record {
    ask = may.ask;
    was_asked = may.was_asked;
    request_is = may.request_is;
    held = may.held;
    only_reads = may.only_reads;
    was_held = may.was_held;
    sent_after = may.sent_after;
    items = may.items;
    revision = may.revision;
    items_were = may.items_were;
    compared = may.compared;
    answer_is = may.answer_is;
    text_is = may.text_is;
  }

module _ {M Q R : Type 0} (service : Automaton M Q R) (charter : Charter Q (Part R)) where
  sends_might : (events : List (Event Q (Part R) R)) (txns : List (Transaction Q (Part R)))
      → AllByRecursion (MaySend charter (system_after events).log) txns → MightHappen service charter events
      → MightHappen service charter (map Sends txns ++ events)
  sends_might events [] all might = might
  sends_might events (txn ∷ txns) all might = (
    subst (λ (system : System Q (Part R) R). MaySend charter system.log txn) (sym (sent_after events txns)) all.0,
    sends_might events txns all.1 might,
  )

  claims_might : (system : System Q (Part R) R) (txns : List (Transaction Q (Part R)))
      (events : List (Event Q (Part R) R)) → system_after events ≡ with_sent system txns → (claims : List (Claim Q R))
      → AllByRecursion (MayClaim service system) claims
      → MightHappen service charter events
      → MightHappen service charter (map Claims claims ++ events)
  claims_might system txns events is [] all might = might
  claims_might system txns events is (claim ∷ claims) all might = (
    subst (λ (now : System Q (Part R) R). MayClaim service now claim)
        (sym (claimed_after events claims
        ∙ ap (λ (now : System Q (Part R) R). with_claims now claims) is))
        (may_still service system txns claims claim all.0),
    claims_might system txns events is claims all.1 might,
  )

  -- the fleet's events might happen, and its servers' knowledge is true
  record IsRun (acts : List (Act M Q R)) : Type 0 where
    pub might : MightHappen service charter (events_of acts)
    pub good : AllByRecursion (IsGoodServer service charter (fleet_after acts).system.log
        (fleet_after acts).system.asked) (fleet_after acts).servers

  -- each run of events is lawful
  abbrev Lawful : Type 0
  Lawful = (events : List (Event Q (Part R) R)) → MightHappen service charter events
      → IsLawful service charter (system_after events)

  event_asked : (acts : List (Act M Q R)) (event : Event Q (Part R) R)
      → (fleet_after acts).system ≡ system_after (events_of acts) → AsksForEvent (fleet_after acts) event
      → AreAskedFor (events_of acts) → AreAskedFor (event ∷ events_of acts)
  event_asked acts (Comes shard client number request) is one all = all
  event_asked acts (Sends txn) is one all =
      (subst (λ (system : System Q (Part R) R). AsksFor system.asked txn) is one, all)
  event_asked acts (Reaches which revision) is one all = all
  event_asked acts (Claims claim) is one all = all

  run_step : Lawful → charter.parts ≡ base_of service → (acts : List (Act M Q R)) (act : Act M Q R) → IsRun acts
      → MayAct service charter (fleet_after acts) act → IsRun (act ∷ acts)
  run_step law parts acts (Starts server) run may = record {
    might = run.might;
    good = (
      record {
        count = may.1;
        known = subst (λ (o : Option (ShardState M Q R)). IfSome o (λ ready. HasRead service
            (fleet_after acts).system.log server.me server.shard ready)) (sym may.0) tt;
        in_time = subst (λ (o : Option (ShardState M Q R)). IfSome o (λ ready. AreAskedOf
            (fleet_after acts).system.asked 0 server.shard ready)) (sym may.0) tt;
      },
      run.good,
    );
  }
  run_step law parts acts (Steps which old input result new) run may =
      let fleet = fleet_after acts in
      let events = events_of acts in
      let system = fleet.system in
      let log = system.log in
      let is = system_is acts in
      let step = may.1 in
      let was : IsGoodServer service charter log system.asked old =
      subst (λ (o : Option (Running M Q R)). IfSome o (IsGoodServer service charter log system.asked)) may.0
      (at_place (IsGoodServer service charter log system.asked) fleet.servers which run.good) in
      let past : ArePast system =
      subst (λ (now : System Q (Part R) R). ArePast now) (sym is) (asks_within events) in
      let right : AreRight charter log =
      subst (λ (now : System Q (Part R) R). AreRight charter now.log) (sym is) (law events run.might).right in
      let safe : IsSafe service charter system old.since old.server input result new =
      step.call charter system old.since was.count parts right past was.known was.in_time step.input_is in
      let sends = step_sends result new in
      let claims = step_claims old.server input result in
      let first : List (Event Q (Part R) R) = map Sends sends ++ events in
      let sent : with_sent system sends ≡ system_after first =
      ap (λ (now : System Q (Part R) R). with_sent now sends) is ∙ sym (sent_after events sends) in
      record {
        might = claims_might system sends first (sym sent) claims safe.claims
            (sends_might events sends
            (subst (λ (now : System Q (Part R) R). AllByRecursion (MaySend charter now.log) sends) is safe.may)
            run.might);
        good = all_set (IsGoodServer service charter log system.asked) fleet.servers which
            (record { server = new; since = since_after result old.since (length log) }) run.good
            (record {
              count = was.count ∙ sym step.count;
              known = safe.known;
              in_time = safe.asked;
            });
      }
  run_step law parts acts (Otherwise event) run may =
      let fleet = fleet_after acts in
      let grown = log_step fleet.system event in
      let asks = asked_step fleet.system event in
      let old = IsGoodServer service charter fleet.system.log fleet.system.asked in
      let new = IsGoodServer service charter (grown.0 ++ fleet.system.log) (asks.0 ++ fleet.system.asked) in
      record {
        might = (
          subst (λ (system : System Q (Part R) R). May service charter system event) (system_is acts) may,
          run.might,
        );
        good = subst (λ (log : StoreLog Q R). AllByRecursion (IsGoodServer service charter log
            (happens fleet.system event).asked) fleet.servers) (sym grown.1)
            (subst (λ (asked : List (Ask Q)). AllByRecursion (IsGoodServer service charter
            (grown.0 ++ fleet.system.log) asked) fleet.servers) (sym asks.1)
            (all_map old new (good_grows service charter grown.0 fleet.system.log asks.0 fleet.system.asked)
            fleet.servers run.good));
      }

  runs : Lawful → charter.parts ≡ base_of service → (acts : List (Act M Q R)) → MightAct service charter acts
      → IsRun acts
  runs law parts [] might = record { might = tt; good = tt }
  runs law parts (act ∷ earlier) might =
      run_step law parts earlier act (runs law parts earlier might.1) might.0

  -- the requests of its servers were asked, and so were those that are made
  record IsAskedRun (acts : List (Act M Q R)) : Type 0 where
    pub servers : AllByRecursion (AreRunningAsked (fleet_after acts).system.asked) (fleet_after acts).servers
    pub events : AreAskedFor (events_of acts)

  ask_step : (acts : List (Act M Q R)) (act : Act M Q R) → IsAskedRun acts
      → MayAct service charter (fleet_after acts) act → AsksForAct (fleet_after acts) act → IsAskedRun (act ∷ acts)
  ask_step acts (Starts server) run may asks = record {
    servers = (
      subst (λ (o : Option (ShardState M Q R)). IfSome o (λ ready. AreRequestsAskedOf
          (fleet_after acts).system.asked server.shard ready)) (sym may.0) tt,
      run.servers,
    );
    events = run.events;
  }
  ask_step acts (Steps which old input result new) run may asks =
      let fleet = fleet_after acts in
      let events = events_of acts in
      let asked = fleet.system.asked in
      let sends = step_sends result new in
      let was : AreRunningAsked asked old =
      subst (λ (o : Option (Running M Q R)). IfSome o (AreRunningAsked asked)) may.0
      (at_place (AreRunningAsked asked) fleet.servers which run.servers) in
      let done : AsksForStep asked result new = asks.1 asked was asks.0 in
      record {
        servers = all_set (AreRunningAsked asked) fleet.servers which
            (record { server = new; since = since_after result old.since (length fleet.system.log) }) run.servers
            done.requests;
        events = claims_asked (step_claims old.server input result) (map Sends sends ++ events)
            (sends_asked events sends
            (subst (λ (now : System Q (Part R) R). AllByRecursion (AsksFor now.asked) sends) (system_is acts)
            done.sends)
            run.events);
      }
  ask_step acts (Otherwise event) run may asks =
      let fleet = fleet_after acts in
      let more = asked_step fleet.system event in
      record {
        servers = subst (λ (asked : List (Ask Q)). AllByRecursion (AreRunningAsked asked) fleet.servers)
            (sym more.1)
            (all_map (AreRunningAsked fleet.system.asked) (AreRunningAsked (more.0 ++ fleet.system.asked))
            (running_more more.0 fleet.system.asked) fleet.servers run.servers);
        events = event_asked acts event (system_is acts) asks run.events;
      }

  asked_runs : (acts : List (Act M Q R)) → MightAct service charter acts → AllAskFor acts → IsAskedRun acts
  asked_runs [] might asks = record { servers = tt; events = tt }
  asked_runs (act ∷ earlier) might asks =
      ask_step earlier act (asked_runs earlier might.1 asks.1) might.0 asks.0

  -- a property of all runs of events is a property of a fleet's
  pub lawful : Lawful → (acts : List (Act M Q R)) → charter.parts ≡ base_of service
      → MightAct service charter acts → IsLawful service charter (fleet_after acts).system
  lawful law acts parts might =
      let run = runs law parts acts might in
      subst (IsLawful service charter) (sym (system_is acts)) (law (events_of acts) run.might)

  -- and each server's view of the store is so
  pub fleet_known : Lawful → (acts : List (Act M Q R)) → charter.parts ≡ base_of service
      → MightAct service charter acts
      → AllByRecursion (λ (running : Running M Q R). IsTrueOf service (fleet_after acts).system.log running.server)
      (fleet_after acts).servers
  fleet_known law acts parts might =
      let fleet = fleet_after acts in
      all_map (IsGoodServer service charter fleet.system.log fleet.system.asked)
      (λ (running : Running M Q R). IsTrueOf service fleet.system.log running.server) (λ running good. good.known)
      fleet.servers (runs law parts acts might).good

  -- and linearizable
  pub fleet_linear : Lawful → ((events : List (Event Q (Part R) R)) → MightHappen service charter events
      → AreAskedFor events → IsLinear service events)
      → (acts : List (Act M Q R)) → charter.parts ≡ base_of service → MightAct service charter acts
      → AllAskFor acts → IsLinear service (events_of acts)
  fleet_linear law linear acts parts might asks =
      linear (events_of acts) (runs law parts acts might).might (asked_runs acts might asks).events
