-- A checkpoint of a shard, in the parts and in the world that they stand for.
use Rattle.std.proofs.Common.{◌≡◌, ℕ, ◌<◌, ◌≤◌, true, false, List, [], ◌∷◌, ◌++◌, length, refl, sym, ap, subst, ◌∙◌}
use Rattle.std.proofs.Common.{arith, ⊎_elim}
use Rattle.std.specs.Prelude.{Option, None, OnErr, OnOk, Result, Ok, Err, is_err, is_none, nat_lt, not, slice_set, ◌==◌}
use Rattle.std.proofs.lemmas.Bool.{and_parts, cases_eq, lt-ltb, not-true}
use Rattle.std.proofs.lemmas.Bool.Decides.{nat_tests}
use Rattle.std.proofs.lemmas.List.{get_or-set_same, get_or-set_other, length-drop, length-set}
use Rattle.sm_ownership.specs.declared.entry.Ending.{Ending}
use Rattle.sm_ownership.specs.declared.entry.Ending.TheVariants.{Checkpoint}
use Rattle.sm_ownership.specs.declared.entry.Entry.{Entry}
use Rattle.sm_ownership.specs.declared.entry.Kind.TheVariants.{Admit, Done}
use Rattle.sm_ownership.specs.declared.mode.Mode.TheVariants.{Direct}
use Rattle.sm_ownership.specs.declared.record.Record.{Record}
use Rattle.sm_ownership.specs.History.{IsLegal, after_done, checkpoint_ending, kept, record_at}
use Rattle.sm_ownership.specs.lemmas.Faults.{admit_fault-none}
use Rattle.sm_ownership.specs.lemmas.Growth.{fits-push, legal_prefix, length-table_of, table_of-push}
use Rattle.sm_ownership.specs.lemmas.Requests.{first_of-within}
use Rattle.sm_ownership.specs.Rules.{admit_fault}
use Rattle.sm_ownership.specs.Tables.{TableView, table_admitted, table_done}
use Rattle.sm_ownership.specs.declared.route.Route.{Route}
use Rattle.sm_table.specs.declared.world.Flight.{Flight}
use Rattle.sm_table.specs.declared.hands.InHand.{InHand}
use Rattle.sm_table.specs.declared.step.Step.TheVariants.{Checkpoint as CheckpointAt}
use Rattle.sm_table.specs.declared.world_answer.WorldAnswer.TheVariants.{Made}
use Rattle.sm_table.specs.declared.world_fault.WorldFault.TheVariants.{NoMemory, UnknownShard}
use Rattle.sm_desk.specs.Desk.{is_known, DeskView}
use Rattle.sm_body.specs.Service.{Meaning}
use Rattle.sm_table.specs.World.{WorldState, Plain, Unmade, count_of, is_there, outcome, with_entry, world_record}
use Rattle.sm_table.specs.Standing.{IsSound, WorldView, view_of, StandsFor, Follows, world_table}
use Rattle.sm_table.specs.Bodies.{BodiesView, Past, kept_in, no_past, past_after, past_at, past_of}
use Rattle.sm_table.proofs.Holding.{past_shards}
use Rattle.sm_table.proofs.Pasts.{past_of-push, past_of-push_none, past_of-push_other}
use Rattle.sm_table.proofs.Parts.{parts_of, Keeps, parts-from_StandsFor, Follows-unchanged, Follows-changed}

-- a checkpoint of an empty list changes nothing
based_past : {Q : Type 0} (past : Past Q) (list : List Q) → kept_in past ≡ list → past.first ≤ length past.all
    → past_after past Checkpoint ≡ past_after past (checkpoint_ending list)
based_past past [] is within =
    let none = ap length is in
    let rest = length-drop past.first past.all in
    let same : length past.all ≡ past.first = omega arith in
    ap (λ first. record { all = past.all; first = first }) same
based_past past (request ∷ later) is within = refl

-- the world after the admission, and after its end
module _ {Q : Type 0} (w : WorldState Q) (server shard : ℕ) where
  abbrev admission : Entry Q
  admission = record { actor = server; shard = shard; kind = Admit server Direct }

  abbrev pub ending : Ending Q
  ending = checkpoint_ending (kept w.history shard)

  abbrev end : Entry Q
  end = record { actor = server; shard = shard; kind = Done ending }

  abbrev between : List (Entry Q)
  between = w.history ++ admission ∷ []

  abbrev pub based_world : WorldState Q
  based_world = with_entry (with_entry w server shard (Admit server Direct)) server shard (Done ending)

  module _ (sound : IsSound based_world) where
    legal : IsLegal (count_of w) w.frame.ceiling between
    legal = legal_prefix (count_of w) w.frame.ceiling between (end ∷ []) sound.legal

    records_based : world_table based_world ≡ (table_done
        (table_admitted (record { records = world_table w; ceiling = w.frame.ceiling }) shard) shard).records
    records_based =
        table_of-push (count_of w) w.frame.ceiling between end
        (fits-push (count_of w) w.frame.ceiling between end sound.legal)
        ∙ ap (λ t. slice_set t shard (after_done (record_at t shard))) (table_of-push (count_of w) w.frame.ceiling
        w.history admission (fits-push (count_of w) w.frame.ceiling w.history admission legal))

  -- the requests that the shards have applied
  past_based : past_of (between ++ end ∷ []) shard ≡ past_after (past_of w.history shard) ending
  past_based = past_of-push between end ending refl
      ∙ ap (λ past. past_after past ending) (past_of-push_none w.history admission shard refl)

  past_else : (other : ℕ) → (shard == other) ≡ false → past_of (between ++ end ∷ []) other ≡ past_of w.history other
  past_else other differs =
      past_of-push_other between end other differs ∙ past_of-push_none w.history admission other refl

module _ {Q R : Type 0} (service : Meaning Q R) {bounds : List (List ℕ)} {desk_was : DeskView} {table_was : TableView}
    {bodies_was : BodiesView Q} {routes_was : List (Option Route)} {flights_was : List (Flight Q)}
    {hands_was : List (Option (InHand Q))} (now : WorldView Q)
    (same : view_of bounds desk_was table_was bodies_was routes_was flights_was hands_was ≡ now) (w : WorldState Q)
    (given : StandsFor now w) (shard : ℕ) (within : shard < length table_was.records) (server : ℕ) where
  abbrev v : WorldView Q
  v = view_of bounds desk_was table_was bodies_was routes_was flights_was hands_was

  stands : StandsFor v w
  stands = subst (λ u. StandsFor u w) (sym same) given

  there : shard < count_of w
  there = omega (arith, ap length stands.records, length-table_of (count_of w) w.frame.ceiling w.history)

  -- the requests of all shards after the checkpoint
  abbrev pasts_after : List (Past Q)
  pasts_after = slice_set v.pasts shard (past_after (past_at v.pasts shard) (ending w server shard))

  pasts_based : slice_set v.pasts shard (past_after (past_at v.pasts shard) Checkpoint) ≡ pasts_after
  pasts_based =
      let past = stands.pasts shard there in
      let based : past_after (past_of w.history shard) Checkpoint
      ≡ past_after (past_of w.history shard) (ending w server shard) =
      based_past (past_of w.history shard) (kept w.history shard) refl (first_of-within w.history shard) in
      ap (slice_set v.pasts shard) (ap (λ one. past_after one Checkpoint) past ∙ based
      ∙ ap (λ one. past_after one (ending w server shard)) (sym past))

  Keeps-based : Keeps (based_world w server shard) pasts_after
  Keeps-based = record {
    bodies = length-set v.pasts shard (past_after (past_at v.pasts shard) (ending w server shard)) ∙ stands.bodies;
    each = λ other inside. each other inside;
  }
    where
      each : (other : ℕ) → other < count_of w
          → past_at pasts_after other ≡ past_of (based_world w server shard).history other
      each other inside = ⊎_elim
          (λ (at : other ≡ shard).
          ap (λ i. past_at pasts_after i) at
          ∙ get_or-set_same v.pasts shard (past_after (past_at v.pasts shard) (ending w server shard)) no_past
          (omega (arith, stands.bodies, there))
          ∙ ap (λ past. past_after past (ending w server shard)) (stands.pasts shard there)
          ∙ sym (past_based w server shard)
          ∙ ap (λ i. past_of (based_world w server shard).history i) (sym at))
          (λ (apart : other ≡ shard → ⊥).
          let differs : (shard == other) ≡ false = grind (arith, nat_tests) in
          get_or-set_other v.pasts shard other
          (past_after (past_at v.pasts shard) (ending w server shard)) no_past apart
          ∙ stands.pasts other inside
          ∙ sym (past_else w server shard other differs))
          (cases_eq other shard)

  -- memory was refused
  pub not_based : (bodies : BodiesView Q) → bodies.pasts ≡ v.pasts → bodies.limits ≡ v.limits
      → Follows {R = R} (record v { pasts = bodies.pasts; limits = bodies.limits }) (Err NoMemory)
      (outcome service w Unmade (CheckpointAt shard server))
  not_based bodies pasts limits =
      Follows-unchanged service w Unmade (CheckpointAt shard server)
      (record v { pasts = bodies.pasts; limits = bodies.limits }) v (Err NoMemory) stands refl
      (ap (λ all. record v { pasts = all; limits = bodies.limits }) pasts
      ∙ ap (λ all. record v { limits = all }) limits)

  -- the shard's state is its base
  pub based_by : (admitted table : TableView) (bodies : BodiesView Q) → is_known v.desk.books.servers server ≡ true
      → None ≡ admit_fault v.ceiling (record_at v.records shard) server Direct → admitted
      ≡ table_admitted (record { records = v.records; ceiling = v.ceiling }) shard → table ≡ table_done admitted shard
      → bodies.pasts ≡ slice_set v.pasts shard (past_after (past_at v.pasts shard) Checkpoint)
      → bodies.limits ≡ v.limits → Follows (record v {
        records = table.records;
        ceiling = table.ceiling;
        pasts = bodies.pasts;
        limits = bodies.limits;
      }) (Ok Made) (outcome service w Plain (CheckpointAt shard server))
  based_by admitted table bodies knows is enters ends based limits =
      let inside : nat_lt shard (count_of w) ≡ true = lt-ltb _ _ there in
      let known : is_there w server ≡ true =
      ap (λ (desk : DeskView). is_known desk.books.servers server) (sym stands.desk) ∙ knows in
      let by_record : admit_fault w.frame.ceiling (world_record w shard) server Direct ≡ None =
      ap (λ ceiling. admit_fault ceiling (world_record w shard) server Direct) (sym stands.ceiling)
      ∙ ap (λ records. admit_fault v.ceiling (record_at records shard) server Direct) (sym stands.records)
      ∙ sym is in
      let both : table ≡ table_done (table_admitted (record { records = v.records; ceiling = v.ceiling }) shard) shard =
      ends ∙ ap (λ t. table_done t shard) enters in
      Follows-changed service w Plain (CheckpointAt shard server)
      (record v { records = table.records; ceiling = table.ceiling; pasts = bodies.pasts; limits = bodies.limits })
      (Ok Made) (based_world w server shard) pasts_after stands.sound (rw inside (rw known (rw by_record refl)))
      (λ sound.
      ap (λ (t : TableView). record v {
        records = t.records;
        ceiling = t.ceiling;
        pasts = bodies.pasts;
        limits = bodies.limits;
      }) both
      ∙ ap (λ all. record (after_table v) { pasts = all; limits = bodies.limits }) (based ∙ pasts_based)
      ∙ ap (λ all. record (after_table v) { pasts = pasts_after; limits = all }) limits
      ∙ ap (λ (u : WorldView Q). record (after_table u) { pasts = pasts_after }) (parts-from_StandsFor v w stands)
      ∙ ap (λ records. record (parts_of w pasts_after) { records = records })
      (sym (records_based w server shard sound)))
      (λ _. Keeps-based)
    where
      after_table : WorldView Q → WorldView Q
      after_table u = record u {
        records = (table_done
            (table_admitted (record { records = u.records; ceiling = u.ceiling }) shard) shard).records;
      }

-- a record that admits a server is idle
pub idle_admits : (ceiling : ℕ) (state : Record) (server : ℕ) → None ≡ admit_fault ceiling state server Direct
    → state.admitted ≡ false
idle_admits ceiling state server none =
    not-true state.admitted (and_parts (not state.admitted) _
    (sym (admit_fault-none ceiling state server Direct) ∙ ap is_none (sym none))).0

-- there is no such shard
pub no_base_there : {Q R : Type 0} (service : Meaning Q R) {bounds : List (List ℕ)} {desk_was : DeskView}
    {table_was : TableView} {bodies_was : BodiesView Q} {routes_was : List (Option Route)}
    {flights_was : List (Flight Q)} {hands_was : List (Option (InHand Q))} (now : WorldView Q)
    → view_of bounds desk_was table_was bodies_was routes_was flights_was hands_was ≡ now → (w : WorldState Q)
    → StandsFor now w → (shard server : ℕ) → length table_was.records ≤ shard
    → Follows {R = R} now (Err UnknownShard) (outcome service w Plain (CheckpointAt shard server))
no_base_there service now same w given shard server past =
    Follows-unchanged service w Plain (CheckpointAt shard server) now now (Err UnknownShard) given
    (rw (past_shards now same w given shard past) refl) refl

-- a fact that holds after a call that was refused
pub on_err : {X E P : Type 0} (r : Result X E) → is_err r ≡ true → OnErr r P → P
on_err (Ok x) refused holds = absurd cc
on_err (Err e) refused holds = holds

-- a fact that holds after a call that wasn't refused
pub on_ok : {X E P : Type 0} (r : Result X E) → is_err r ≡ false → OnOk r P → P
on_ok (Ok x) made holds = holds
on_ok (Err e) made holds = absurd cc
