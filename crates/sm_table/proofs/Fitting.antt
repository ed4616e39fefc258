-- The parts of a `World` fit together after each step.
use Rattle.std.proofs.Common.{◌≡◌, ℕ, suc, ◌+◌, ◌<◌, ◌≤◌, ◌^◌, true, false, length-append, List, [], ◌∷◌, ◌++◌, length}
use Rattle.std.proofs.Common.{refl, sym, ap, subst, ◌∙◌, arith, ⊎_elim}
use Rattle.std.specs.Prelude.{Option, Some, None, Result, All, map, nat_lt, remove, slice_index_or, slice_set}
use Rattle.std.specs.Prelude.{unwrap_or}
use Rattle.std.proofs.lemmas.Bool.{cases_eq, cond_both, true≢false}
use Rattle.std.proofs.lemmas.List.{get_or-map, get_or-set_same, get_or-set_other, length-map, length-set, map-set}
use Rattle.std.proofs.Math.Seq.{map-set_same}
use Rattle.std.proofs.lemmas.List.Elements.{All-append, All-push, All-take, All-drop}
use Rattle.sm_ownership.specs.declared.change.Change.{Change}
use Rattle.sm_ownership.specs.declared.entry.Ending.TheVariants.{Request, Checkpoint}
use Rattle.sm_ownership.specs.declared.mode.Mode.TheVariants.{Direct}
use Rattle.sm_ownership.specs.declared.record.Record.{Record}
use Rattle.sm_ownership.specs.declared.route.Route.{Route}
use Rattle.sm_table.specs.declared.world.Flight.{Flight}
use Rattle.sm_table.specs.declared.hands.InHand.{InHand}
use Rattle.sm_table.specs.declared.hands.Work.{Work}
use Rattle.sm_table.specs.lemmas.Entries.{hand_within, set-set}
use Rattle.sm_ownership.specs.History.{vacant, record_at, after_admit, after_change, after_done}
use Rattle.sm_ownership.specs.Tables.{TableView, table_admitted, table_changed, table_done, with_record}
use Rattle.sm_ranges.specs.declared.stand.Stand.TheVariants.{Vacant}
use Rattle.sm_place.specs.Books.{moved, no_shard, shard_at}
use Rattle.sm_place.specs.declared.shard.Shard.{Shard}
use Rattle.sm_desk.specs.declared.command.Command.TheVariants.{Change as ChangeOf}
use Rattle.sm_desk.specs.Desk.{DeskView, commanded, is_reached, stands_of}
use Rattle.sm_table.specs.Bodies.{BodiesView, Past, no_past, past_after, past_at}
use Rattle.sm_table.specs.Standing.{IsTogether, view_of}
use Rattle.sm_envelope.specs.Envelope.{EnvelopeView, forwarded, one_hop_more, sent_on}
use Rattle.sm_ownership.specs.Rules.{forward_to, stand_after}
use Rattle.sm_table.specs.declared.world_answer.WorldAnswer.{WorldAnswer}
use Rattle.sm_envelope.specs.declared.envelope.TheConstants.{MOST_HOPS}
use Rattle.sm_table.specs.World.{after_hop, flight_to}

-- a direct envelope that wasn't forwarded
abbrev pub direct : {Q : Type 0} → ℕ → ℕ → Q → EnvelopeView Q (Unit {0})
direct number shard request =
    record { number = number; shard = shard; mode = Direct; hops = 0; request = request; note = tt }

module _ {Q : Type 0} {bounds : List (List ℕ)} {desk : DeskView} {table : TableView} {bodies : BodiesView Q}
    {routes : List (Option Route)} {in_flight : List (Flight Q)} {in_hand : List (Option (InHand Q))}
    (whole : IsTogether (view_of bounds desk table bodies routes in_flight in_hand)) where
  abbrev IsShardThere : Flight Q → Type 0
  IsShardThere flight = flight.envelope.shard < length in_hand

  -- the parts fit together with another record of a shard, another hand, which the record must admit, and other
  -- requests, no more than the record's generation
  with_shard : (shard : ℕ) (state : Record) (desk_now : DeskView) (table_now : TableView) (bodies_now : BodiesView Q)
      (hands : List (Option (InHand Q))) → table_now ≡ with_record table shard state
      → stands_of desk_now ≡ map (λ (one : Record). one.stand) (slice_set table.records shard state)
      → length bodies_now.pasts ≡ length bodies.pasts
      → ((other : ℕ) → (other ≡ shard → ⊥) → past_at bodies_now.pasts other ≡ past_at bodies.pasts other)
      → length (past_at bodies_now.pasts shard).all ≤ (record_at (slice_set table.records shard state) shard).generation
      → length hands ≡ length in_hand
      → ((other : ℕ) → (other ≡ shard → ⊥) → slice_index_or hands other None ≡ slice_index_or in_hand other None)
      → ((hand : InHand Q) → slice_index_or hands shard None ≡ Some hand
      → (record_at (slice_set table.records shard state) shard).admitted ≡ true)
      → IsTogether (view_of bounds desk_now table_now bodies_now routes in_flight hands)
  with_shard shard state desk_now table_now bodies_now hands is stands kept apart_kept here_few long others here =
      record {
        layout = whole.layout ∙ sym long;
        table = ap length records ∙ length-set table.records shard state ∙ whole.table ∙ sym long;
        stands = stands ∙ ap (map (λ (one : Record). one.stand)) (sym records);
        bodies = kept ∙ whole.bodies ∙ sym long;
        routes = whole.routes ∙ sym long;
        flights =
            subst (λ count. All (λ (flight : Flight Q). flight.envelope.shard < count) in_flight)
            (sym long) whole.flights;
        admitted = λ other hand is. admitted other hand is;
        few = λ other. few other;
        low = subst (λ (t : TableView). t.ceiling < 2 ^ 36) (sym is) whole.low;
      }
    where
      records : table_now.records ≡ slice_set table.records shard state
      records = ap (λ (t : TableView). t.records) is

      admitted : (other : ℕ) (hand : InHand Q) → slice_index_or hands other None ≡ Some hand
          → (record_at table_now.records other).admitted ≡ true
      admitted other hand is = ap (λ all. (record_at all other).admitted) records ∙ ⊎_elim
          (λ (at : other ≡ shard). ap (λ i. (record_at (slice_set table.records shard state) i).admitted) at
          ∙ here hand (ap (λ i. slice_index_or hands i None) (sym at) ∙ is))
          (λ (apart : other ≡ shard → ⊥). ap (λ (r : Record). r.admitted) (get_or-set_other table.records shard other
          state vacant apart) ∙ whole.admitted other hand (sym (others other apart) ∙ is))
          (cases_eq other shard)

      few : (other : ℕ) → length (past_at bodies_now.pasts other).all ≤ (record_at table_now.records other).generation
      few other = ⊎_elim
          (λ (at : other ≡ shard).
          subst (λ i. length (past_at bodies_now.pasts i).all ≤ (record_at table_now.records i).generation) (sym at)
          (subst (λ all. length (past_at bodies_now.pasts shard).all ≤ (record_at all shard).generation)
          (sym records) here_few))
          (λ (apart : other ≡ shard → ⊥).
          let past : length (past_at bodies_now.pasts other).all ≡ length (past_at bodies.pasts other).all =
          ap (λ (p : Past Q). length p.all) (apart_kept other apart) in
          let generation : (record_at table_now.records other).generation ≡ (record_at table.records other).generation =
          ap (λ all. (record_at all other).generation) records
          ∙ ap (λ (r : Record). r.generation) (get_or-set_other table.records shard other state vacant apart) in
          let before = whole.few other in
          omega arith)
          (cases_eq other shard)

  -- the stands stay the same if the shard's next record has the stand of the one before
  stands_stay : (shard : ℕ) (state : Record) → state.stand ≡ (record_at table.records shard).stand
      → stands_of desk ≡ map (λ (one : Record). one.stand) (slice_set table.records shard state)
  stands_stay shard state stays =
      whole.stands ∙ sym (map-set_same (λ (one : Record). one.stand) table.records shard state vacant stays)

  -- the desk has a shard for each record
  pub shard_there : (shard : ℕ) → shard < length desk.books.shards → shard < length table.records
  shard_there shard below = omega (
    arith,
    ap length whole.stands,
    length-map desk.books.shards (λ (one : Shard). one.stand),
    length-map table.records (λ (one : Record). one.stand),
  )

  -- the desk has the stand of each record
  pub stand_there : (shard : ℕ) → shard < length desk.books.shards
      → (shard_at desk.books.shards shard).stand ≡ (record_at table.records shard).stand
  stand_there shard below =
      sym (get_or-map (λ (one : Shard). one.stand) desk.books.shards shard no_shard Vacant below)
      ∙ ap (λ all. slice_index_or all shard Vacant) whole.stands
      ∙ get_or-map (λ (one : Record). one.stand) table.records shard vacant Vacant (shard_there shard below)

  -- the parts fit together after a change of a shard's stand, which the desk must make too
  pub IsTogether-changed : (shard : ℕ) (change : Change) (desk_now : DeskView) (table_now : TableView)
      → shard < length desk.books.shards → desk_now ≡ commanded desk (ChangeOf shard change)
      → table_now ≡ table_changed table shard change
      → IsTogether (view_of bounds desk_now table_now bodies routes in_flight in_hand)
  IsTogether-changed shard change desk_now table_now below noted changed =
      let within = shard_there shard below in
      let shards = desk.books.shards in
      let state = after_change (record_at table.records shard) change in
      let stands : stands_of desk_now ≡ map (λ (one : Record). one.stand) (slice_set table.records shard state) =
      ap stands_of noted
      ∙ map-set (λ (one : Shard). one.stand) shards shard (moved (shard_at shards shard)
      (unwrap_or (stand_after (shard_at shards shard).stand change) (shard_at shards shard).stand))
      ∙ ap (λ at. slice_set (map (λ (one : Shard). one.stand) shards) shard (unwrap_or (stand_after at change) at))
      (stand_there shard below)
      ∙ ap (λ all. slice_set all shard state.stand) whole.stands
      ∙ sym (map-set (λ (one : Record). one.stand) table.records shard state) in
      let there : record_at (slice_set table.records shard state) shard ≡ state =
      get_or-set_same table.records shard state vacant within in
      let generation = ap (λ (r : Record). r.generation) there in
      let before = whole.few shard in
      with_shard shard state desk_now table_now bodies in_hand changed stands refl (λ _ _. refl) (omega arith) refl
      (λ _ _. refl)
      (λ hand is. ap (λ (r : Record). r.admitted) there ∙ whole.admitted shard hand is)

  -- the parts fit together after the end of an admission, with at most one more request
  ended : (shard : ℕ) (table_now : TableView) (bodies_now : BodiesView Q) (hands : List (Option (InHand Q)))
      → shard < length in_hand → table_now ≡ table_done table shard → hands ≡ slice_set in_hand shard None
      → length bodies_now.pasts ≡ length bodies.pasts
      → ((other : ℕ) → (other ≡ shard → ⊥) → past_at bodies_now.pasts other ≡ past_at bodies.pasts other)
      → length (past_at bodies_now.pasts shard).all ≤ length (past_at bodies.pasts shard).all + 1
      → IsTogether (view_of bounds desk table_now bodies_now routes in_flight hands)
  ended shard table_now bodies_now hands within done is kept apart_kept one_more =
      let state = after_done (record_at table.records shard) in
      let generation = ap (λ (r : Record). r.generation)
      (get_or-set_same table.records shard state vacant (omega (arith, whole.table))) in
      let before = whole.few shard in
      rw is (with_shard shard state desk table_now bodies_now (slice_set in_hand shard None) done
      (stands_stay shard state refl) kept apart_kept (omega
      arith) (length-set in_hand shard None) (λ other apart. get_or-set_other in_hand shard other None None apart)
      (λ hand held. let none = get_or-set_same in_hand shard None None within in absurd cc))

  -- the parts fit together if the bodies keep the same requests
  pub IsTogether-done :
      (shard : ℕ) (table_now : TableView) (bodies_now : BodiesView Q) (hands : List (Option (InHand Q)))
      → shard < length in_hand → table_now ≡ table_done table shard → hands ≡ slice_set in_hand shard None
      → bodies_now.pasts ≡ bodies.pasts → IsTogether (view_of bounds desk table_now bodies_now routes in_flight hands)
  IsTogether-done shard table_now bodies_now hands within done is kept =
      let same : length (past_at bodies_now.pasts shard).all ≡ length (past_at bodies.pasts shard).all =
      ap (λ all. length (past_at all shard).all) kept in
      ended shard table_now bodies_now hands within done is (ap length kept)
      (λ other _. ap (λ all. past_at all other) kept) (omega arith)

  -- the parts fit together if one body also keeps the request that its server had in hand
  pub IsTogether-replied : (shard server : ℕ) (work : Work Q) (table_now : TableView) (bodies_now : BodiesView Q)
      (hands : List (Option (InHand Q)))
      → slice_index_or in_hand shard None ≡ Some (record { server = server; work = Some work })
      → table_now ≡ table_done table shard → hands ≡ slice_set in_hand shard None
      → bodies_now.pasts ≡ slice_set bodies.pasts shard (past_after (past_at bodies.pasts shard) (Request work.request))
      → IsTogether (view_of bounds desk table_now bodies_now routes in_flight hands)
  IsTogether-replied shard server work table_now bodies_now hands held done is kept =
      let past = past_after (past_at bodies.pasts shard) (Request work.request) in
      let within = hand_within in_hand shard (record { server = server; work = Some work }) held in
      let there : past_at bodies_now.pasts shard ≡ past = ap (λ all. past_at all shard) kept
      ∙ get_or-set_same bodies.pasts shard past no_past (omega (arith, whole.bodies)) in
      let long : length (past_at bodies_now.pasts shard).all ≡ length (past_at bodies.pasts shard).all + 1 = ap
      (λ (p : Past Q). length p.all) there ∙ length-append (past_at bodies.pasts shard).all (work.request ∷ []) in
      ended shard table_now bodies_now hands within done is (ap length kept ∙ length-set bodies.pasts shard past)
      (λ other apart. ap (λ all. past_at all other) kept ∙ get_or-set_other bodies.pasts shard other past no_past apart)
      (omega arith)

  -- the parts fit together after an admission
  pub IsTogether-admitted : (shard : ℕ) (hand : InHand Q) (table_now : TableView) (hands : List (Option (InHand Q)))
      → shard < length table.records → table_now ≡ table_admitted table shard → hands
      ≡ slice_set in_hand shard (Some hand) → IsTogether (view_of bounds desk table_now bodies routes in_flight hands)
  IsTogether-admitted shard hand table_now hands within admitted is =
      let state = after_admit (record_at table.records shard) in
      let there : record_at (slice_set table.records shard state) shard ≡ state =
      get_or-set_same table.records shard state vacant within in
      let generation = ap (λ (r : Record). r.generation) there in
      let before = whole.few shard in
      rw is (with_shard shard state desk table_now bodies (slice_set in_hand shard (Some hand)) admitted
      (stands_stay shard state refl) refl (λ _ _. refl) (omega arith) (length-set in_hand shard (Some hand))
      (λ other apart. get_or-set_other in_hand shard other (Some hand) None apart)
      (λ _ _. ap (λ (r : Record). r.admitted) there))

  -- the parts fit together after a checkpoint of an idle shard
  pub IsTogether-based : (shard : ℕ) (between table_now : TableView) (bodies_now : BodiesView Q)
      → shard < length table.records → (record_at table.records shard).admitted ≡ false
      → between ≡ table_admitted table shard → table_now ≡ table_done between shard
      → bodies_now.pasts ≡ slice_set bodies.pasts shard (past_after (past_at bodies.pasts shard) Checkpoint)
      → IsTogether (view_of bounds desk table_now bodies_now routes in_flight in_hand)
  IsTogether-based shard between table_now bodies_now within idle admitted done kept =
      let entered = after_admit (record_at table.records shard) in
      let state = after_done entered in
      let past = past_after (past_at bodies.pasts shard) Checkpoint in
      let here : record_at (slice_set table.records shard entered) shard ≡ entered =
      get_or-set_same table.records shard entered vacant within in
      let both : table_now ≡ with_record table shard state =
      done ∙ ap (λ t. table_done t shard) admitted
      ∙ ap (λ one. with_record (table_admitted table shard) shard (after_done one)) here
      ∙ ap (λ records. record { records = records; ceiling = table.ceiling })
      (set-set table.records shard entered state) in
      let generation = ap (λ (r : Record). r.generation) (get_or-set_same table.records shard state vacant within) in
      let there : past_at bodies_now.pasts shard ≡ past = ap (λ all. past_at all shard) kept
      ∙ get_or-set_same bodies.pasts shard past no_past (omega (arith, whole.bodies, whole.table)) in
      let long : length (past_at bodies_now.pasts shard).all ≡ length (past_at bodies.pasts shard).all =
      ap (λ (p : Past Q). length p.all) there in
      let before = whole.few shard in
      with_shard shard state desk table_now bodies_now in_hand both (stands_stay shard state refl)
      (ap length kept ∙ length-set bodies.pasts shard past)
      (λ other apart. ap (λ all. past_at all other) kept ∙ get_or-set_other bodies.pasts shard other past no_past apart)
      (omega arith) refl (λ _ _. refl)
      (λ hand held. absurd (true≢false (sym (whole.admitted shard hand held) ∙ idle)))

  -- the parts fit together with other envelopes in flight, for shards that are there
  IsTogether-in_flight : (flights : List (Flight Q)) → All IsShardThere flights
      → IsTogether (view_of bounds desk table bodies routes flights in_hand)
  IsTogether-in_flight flights all = record {
    layout = whole.layout;
    table = whole.table;
    stands = whole.stands;
    bodies = whole.bodies;
    routes = whole.routes;
    flights = all;
    admitted = whole.admitted;
    few = whole.few;
    low = whole.low;
  }

  -- the parts fit together with another route of a shard
  pub IsTogether-published : (shard : ℕ) (route : Option Route) (routes_now : List (Option Route)) → routes_now
      ≡ slice_set routes shard route → IsTogether (view_of bounds desk table bodies routes_now in_flight in_hand)
  IsTogether-published shard route routes_now is = record {
    layout = whole.layout;
    table = whole.table;
    stands = whole.stands;
    bodies = whole.bodies;
    routes = ap length is ∙ length-set routes shard route ∙ whole.routes;
    flights = whole.flights;
    admitted = whole.admitted;
    few = whole.few;
    low = whole.low;
  }

  -- the parts fit together with another desk of the same stands
  pub IsTogether-desk : (desk_now : DeskView) → stands_of desk_now ≡ stands_of desk
      → IsTogether (view_of bounds desk_now table bodies routes in_flight in_hand)
  IsTogether-desk desk_now stands = record {
    layout = whole.layout;
    table = whole.table;
    stands = stands ∙ whole.stands;
    bodies = whole.bodies;
    routes = whole.routes;
    flights = whole.flights;
    admitted = whole.admitted;
    few = whole.few;
    low = whole.low;
  }

  -- the parts fit together with one more envelope, for a shard that is there
  pub IsTogether-sent : (shard to number : ℕ) (request : Q) (envelope : EnvelopeView Q (Unit {0}))
      (flights : List (Flight Q)) → shard < length bounds → envelope ≡ direct number shard request → flights ≡ in_flight
      ++ flight_to to envelope ∷ [] → IsTogether (view_of bounds desk table bodies routes flights in_hand)
  IsTogether-sent shard to number request envelope flights within is flights_are =
      let its_shard : envelope.shard ≡ shard = ap (λ (e : EnvelopeView Q (Unit {0})). e.shard) is in
      let there : envelope.shard < length in_hand = omega (arith, whole.layout) in
      IsTogether-in_flight flights (subst (All IsShardThere) (sym flights_are)
      (All-push IsShardThere in_flight (flight_to to envelope) whole.flights there))

  flights-remove : (place : ℕ) → All IsShardThere (remove in_flight place)
  flights-remove place = All-append IsShardThere _ _ (All-take IsShardThere place in_flight whole.flights)
      (All-drop IsShardThere (suc place) in_flight whole.flights)

  -- an envelope that is forwarded stays with its shard
  flights-hop : (R : Type 0) (desk_then : DeskView) (flights : List (Flight Q)) (envelope : EnvelopeView Q (Unit {0}))
      (from : ℕ) (to : Option ℕ) → All IsShardThere flights → envelope.shard < length in_hand
      → All IsShardThere (after_hop {R = R} desk_then flights (sent_on envelope from to)).1
  flights-hop R desk_then flights envelope from None all there = all
  flights-hop R desk_then flights envelope from (Some to) all there =
      cond_both (nat_lt envelope.hops MOST_HOPS) _ _ (λ (sent : Result (ℕ × EnvelopeView Q (Unit {0}))
      (EnvelopeView Q (Unit {0}))). All IsShardThere (after_hop {R = R} desk_then flights sent).1)
      (λ _. cond_both (is_reached desk_then to) _ _ (λ (hop : WorldAnswer R × List (Flight Q)). All IsShardThere hop.1)
      (λ _. All-push IsShardThere flights (flight_to to (one_hop_more envelope from)) all there)
      (λ _. all))
      (λ _. all)

  -- the parts fit together if an envelope that came off the flights is forwarded, or refused
  pub IsTogether-hop : {R : Type 0} (place : ℕ) (envelope : EnvelopeView Q (Unit {0})) (state : Record) (from : ℕ)
      (left flights : List (Flight Q)) (answer : WorldAnswer R) → left ≡ remove in_flight place
      → envelope.shard < length table.records → (answer, flights) ≡ after_hop desk left (forwarded envelope state from)
      → IsTogether (view_of bounds desk table bodies routes flights in_hand)
  IsTogether-hop {R = R} place envelope state from left flights answer left_is there hop =
      let all : All IsShardThere left = subst (All IsShardThere) (sym left_is) (flights-remove place) in
      let onward =
      flights-hop R desk left envelope from (forward_to state from) all (omega (arith, there, whole.table)) in
      let as_hopped : flights ≡ (after_hop {R = R} desk left (forwarded envelope state from)).1 =
      ap (λ (pair : WorldAnswer R × List (Flight Q)). pair.1) hop in
      IsTogether-in_flight flights (subst (All IsShardThere) (sym as_hopped) onward)

  -- the parts fit together if an envelope isn't in flight any more
  pub IsTogether-remove : (place : ℕ) (left : List (Flight Q)) → left ≡ remove in_flight place
      → IsTogether (view_of bounds desk table bodies routes left in_hand)
  IsTogether-remove place left left_is =
      IsTogether-in_flight left (subst (All IsShardThere) (sym left_is) (flights-remove place))

  -- the shard of an envelope in flight has a record
  pub flight_there : (place : ℕ) (flight : Flight Q) → place < length in_flight
      → flight ≡ slice_index_or in_flight place flight → flight.envelope.shard < length table.records
  flight_there place flight within is =
      let there : IsShardThere flight = subst IsShardThere (sym is) (whole.flights place flight within) in
      omega (arith, whole.table)
