-- Any number of servers and the store together: each step of a server is one of the code.
use Rattle.std.specs.Prelude.{ℕ, Some, None, Result, ◌≡◌, List, [], ◌∷◌, ◌++◌, length, map, slice_get, slice_set}
use Rattle.sm_shard.specs.Bases.{Part}
use Rattle.sm_store.specs.Clients.{Automaton}
use Rattle.sm_store.specs.Store.{Transaction}
use Rattle.sm_store.specs.Deeds.{Charter}
use Rattle.sm_store.specs.Linear.{AsksFor}
use Rattle.sm_store.specs.System.{Event, Sends as IsSent, Claims, May, SentTransaction, System, happens}
use Rattle.sm_shard.specs.declared.replica.ReplayFault.{ReplayFault}
use Rattle.sm_shard.specs.declared.shard_server.ShardServer.{ShardServer}
use Rattle.sm_shard.specs.declared.steps.ShardInput.{ShardInput}
use Rattle.sm_shard.specs.declared.steps.ShardOutput.{ShardOutput}
use Rattle.sm_shard.specs.Steps.{IsInput, IsRequestAsked, IsStepOf, KeepsAsked, since_after, step_claims, step_sends}

-- a server, and the length of the log when it last sent
pub record Running (M Q R : Type 0) : Type 0 where
  pub server : ShardServer M Q R
  pub since : ℕ

-- the system, and all servers that run in it
pub record Fleet (M Q R : Type 0) : Type 0 where
  pub system : System Q (Part R) R
  pub servers : List (Running M Q R)

-- the acts of servers, and of the world around them
pub data Act (M Q R : Type 0) : Type 0 where
  -- a server starts, or starts again and has forgotten everything
  Starts : (server : ShardServer M Q R) → Act M Q R
  -- one of the servers makes a step
  Steps : (which : ℕ) (old : Running M Q R) (input : ShardInput Q R)
      (result : Result (ShardOutput Q R) ReplayFault) (new : ShardServer M Q R) → Act M Q R
  -- anything else: a control sends, a message reaches the store, or a process is elected
  Otherwise : (event : Event Q (Part R) R) → Act M Q R

-- a transaction that is sent at a log of this length
abbrev pub sent_since : {Q P : Type 0} → ℕ → Transaction Q P → SentTransaction Q P
sent_since since txn = record { txn = txn; since = since }

-- the fleet after an act
abbrev pub fleet_acted : {M Q R : Type 0} → Fleet M Q R → Act M Q R → Fleet M Q R
fleet_acted fleet (Starts server) =
    record { system = fleet.system; servers = record { server = server; since = 0 } ∷ fleet.servers }
fleet_acted fleet (Steps which old input result new) =
    record {
      system = record {
        log = fleet.system.log;
        asked = fleet.system.asked;
        sent = map (sent_since (length fleet.system.log)) (step_sends result new) ++ fleet.system.sent;
        held = fleet.system.held;
        claims = step_claims old.server input result ++ fleet.system.claims;
      };
      servers = slice_set fleet.servers which (record {
        server = new;
        since = since_after result old.since (length fleet.system.log);
      });
    }
fleet_acted fleet (Otherwise event) = record { system = happens fleet.system event; servers = fleet.servers }

-- the step is one of the code, on an input that is so in the store
pub record IsFleetStep {M Q R : Type 0} (service : Automaton M Q R) (fleet : Fleet M Q R)
    (old : Running M Q R) (input : ShardInput Q R) (result : Result (ShardOutput Q R) ReplayFault)
    (new : ShardServer M Q R) : Type 0 where
  pub call : IsStepOf service old.server input result new
  pub input_is : IsInput service fleet.system old.since old.server input
  pub me : new.me ≡ old.server.me
  pub shard : new.shard ≡ old.server.shard
  pub count : new.count ≡ old.server.count

-- an act may happen: a server starts with nothing read, or makes a step as its contract says, with inputs that are true
abbrev pub MayAct : {M Q R : Type 0} → Automaton M Q R → Charter Q (Part R) → Fleet M Q R → Act M Q R
    → Type 0
MayAct service charter fleet (Starts server) =
    (server.ready ≡ None) × (charter.count ≡ server.count)
MayAct service charter fleet (Steps which old input result new) =
    (slice_get fleet.servers which ≡ Some old) × IsFleetStep service fleet old input result new
MayAct service charter fleet (Otherwise event) = May service charter fleet.system event

-- the fleet after these acts, the latest first
abbrev pub fleet_after : {M Q R : Type 0} → List (Act M Q R) → Fleet M Q R
fleet_after [] = record { system = record { log = []; asked = []; sent = []; held = []; claims = [] }; servers = [] }
fleet_after (act ∷ earlier) = fleet_acted (fleet_after earlier) act

-- each act was one that might be made
abbrev pub MightAct : {M Q R : Type 0} → Automaton M Q R → Charter Q (Part R) → List (Act M Q R) → Type 0
MightAct service charter [] = Unit {0}
MightAct service charter (act ∷ earlier) =
    MayAct service charter (fleet_after earlier) act × MightAct service charter earlier

-- the events of these acts: a server's step sends first, and then claims
abbrev pub events_of : {M Q R : Type 0} → List (Act M Q R) → List (Event Q (Part R) R)
events_of [] = []
events_of (Starts server ∷ earlier) = events_of earlier
events_of (Steps which old input result new ∷ earlier) =
    map Claims (step_claims old.server input result) ++ (map IsSent (step_sends result new) ++ events_of earlier)
events_of (Otherwise event ∷ earlier) = event ∷ events_of earlier

-- others than servers send only transactions whose requests were asked
abbrev pub AsksForEvent : {M Q R : Type 0} → Fleet M Q R → Event Q (Part R) R → Type 0
AsksForEvent fleet (IsSent txn) = AsksFor fleet.system.asked txn
AsksForEvent fleet _ = Unit {0}

-- this act makes no request that wasn't asked: a server is given only requests that were, and keeps to those, as its
-- contract says
abbrev pub AsksForAct : {M Q R : Type 0} → Fleet M Q R → Act M Q R → Type 0
AsksForAct fleet (Starts server) = Unit {0}
AsksForAct fleet (Steps which old input result new) =
    IsRequestAsked fleet.system.asked old.server.shard input × KeepsAsked old.server input result new
AsksForAct fleet (Otherwise event) = AsksForEvent fleet event

-- nor by any of these acts
abbrev pub AllAskFor : {M Q R : Type 0} → List (Act M Q R) → Type 0
AllAskFor [] = Unit {0}
AllAskFor (act ∷ earlier) = AsksForAct (fleet_after earlier) act × AllAskFor earlier
