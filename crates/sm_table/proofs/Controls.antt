-- A change of a shard's stand, in the parts and in the world that they stand for.
use Rattle.std.proofs.Common.{◌≡◌, ℕ, List, refl, sym, ap, subst, ◌∙◌}
use Rattle.std.specs.Prelude.{Option, Some, None, Ok, Err}
use Rattle.std.specs.Option.{option_map}
use Rattle.sm_ownership.specs.declared.change.Change.{Change}
use Rattle.sm_ownership.specs.declared.change_fault.ChangeFault.{ChangeFault}
use Rattle.sm_desk.specs.declared.command.Command.TheVariants.{Change as ChangeOf}
use Rattle.sm_desk.specs.declared.command.CommandFault.{CommandFault}
use Rattle.sm_desk.specs.declared.command.CommandFault.TheVariants.{Change as ChangeRefused}
use Rattle.sm_ownership.specs.declared.entry.Entry.{Entry}
use Rattle.sm_ownership.specs.declared.entry.Kind.TheVariants.{Change as Changed}
use Rattle.sm_ownership.specs.declared.route.Route.{Route}
use Rattle.sm_table.specs.declared.step.Step.TheVariants.{Control}
use Rattle.sm_table.specs.declared.world_answer.WorldAnswer.TheVariants.{Made}
use Rattle.sm_table.specs.declared.world_fault.WorldFault.TheVariants.{Command as CommandRefused}
use Rattle.sm_ownership.specs.History.{record_at}
use Rattle.sm_desk.specs.Desk.{DeskView, commanded, desk_fault}
use Rattle.sm_ownership.specs.Tables.{TableView, record_fault, table_changed}
use Rattle.sm_body.specs.Service.{Meaning}
use Rattle.sm_table.specs.World.{WorldState, Plain, count_of, world_record, table_fault, with_entry}
use Rattle.sm_table.specs.World.{outcome}
use Rattle.sm_table.specs.Standing.{IsSound, WorldView, view_of, StandsFor, Follows}
use Rattle.sm_ownership.specs.lemmas.Growth.{fits-push, table_of-push}
use Rattle.sm_table.specs.Bodies.{BodiesView, Past}
use Rattle.sm_table.specs.declared.world.Flight.{Flight}
use Rattle.sm_table.specs.declared.hands.InHand.{InHand}
use Rattle.sm_table.proofs.Pasts.{past_of-push_none}
use Rattle.sm_table.proofs.Parts.{parts_of, parts-from_StandsFor, Follows-unchanged, Follows-changed}

module _ {Q : Type 0} (w : WorldState Q) (shard : ℕ) (change : Change) where
  abbrev changed_world : WorldState Q
  changed_world = record (with_entry w 0 shard (Changed change)) { desk = commanded w.desk (ChangeOf shard change) }

  -- the parts after the change, as the code makes them
  abbrev pub changed_parts : WorldView Q → WorldView Q
  changed_parts v = record v {
    desk = commanded v.desk (ChangeOf shard change);
    records = (table_changed (record { records = v.records; ceiling = v.ceiling }) shard change).records;
  }

  -- the changed parts are the parts of the changed world
  pub changed_parts_of : (pasts : List (Past Q)) → IsSound changed_world
      → changed_parts (parts_of w pasts) ≡ parts_of changed_world pasts
  changed_parts_of pasts after =
      let entry : Entry Q = record { actor = 0; shard = shard; kind = Changed change } in
      let grown = table_of-push (count_of w) w.frame.ceiling w.history entry
      (fits-push (count_of w) w.frame.ceiling w.history entry after.legal) in
      ap (λ records. record (parts_of w pasts) { desk = commanded w.desk (ChangeOf shard change); records = records })
      (sym grown)

module _ {Q R : Type 0} (service : Meaning Q R) {bounds : List (List ℕ)} {desk_was : DeskView} {table_was : TableView}
    {bodies_was : BodiesView Q} {routes_was : List (Option Route)} {flights_was : List (Flight Q)}
    {hands_was : List (Option (InHand Q))} (now : WorldView Q)
    (same : view_of bounds desk_was table_was bodies_was routes_was flights_was hands_was ≡ now) (w : WorldState Q)
    (given : StandsFor now w) (shard : ℕ) (change : Change) where
  abbrev v : WorldView Q
  v = view_of bounds desk_was table_was bodies_was routes_was flights_was hands_was

  stands : StandsFor v w
  stands = subst (λ u. StandsFor u w) (sym same) given

  -- the desk refuses the change
  pub refused_by_desk : (fault : CommandFault) → Some fault ≡ desk_fault v.desk (ChangeOf shard change)
      → Follows now (Err (CommandRefused fault)) (outcome service w Plain (Control (ChangeOf shard change)))
  refused_by_desk fault is =
      let refused : desk_fault w.desk (ChangeOf shard change) ≡ Some fault =
      ap (λ desk. desk_fault desk (ChangeOf shard change)) (sym stands.desk) ∙ sym is in
      Follows-unchanged service w Plain (Control (ChangeOf shard change)) now now (Err (CommandRefused fault)) given
      (rw refused refl) refl

  module _ (none : None ≡ desk_fault v.desk (ChangeOf shard change)) where
    allowed : None ≡ desk_fault w.desk (ChangeOf shard change)
    allowed = none ∙ ap (λ desk. desk_fault desk (ChangeOf shard change)) stands.desk

    of_record : (fault : Option ChangeFault) → fault ≡ record_fault v.ceiling (record_at v.records shard)
        → table_fault w (ChangeOf shard change) ≡ option_map (λ one. ChangeRefused one) fault
    of_record fault is = ap (option_map (λ one. ChangeRefused one)) (sym (is
        ∙ ap (λ records. record_fault v.ceiling (record_at records shard)) stands.records
        ∙ ap (λ ceiling. record_fault ceiling (world_record w shard)) stands.ceiling))

    -- the table refuses it
    pub refused_by_table : (fault : ChangeFault) (table : TableView)
        → Some fault ≡ record_fault v.ceiling (record_at v.records shard) → table ≡ record {
          records = v.records;
          ceiling = v.ceiling;
        } → Follows (record v { records = table.records; ceiling = table.ceiling })
        (Err (CommandRefused (ChangeRefused fault))) (outcome service w Plain (Control (ChangeOf shard change)))
    refused_by_table fault table is unchanged =
        let refused : table_fault w (ChangeOf shard change) ≡ Some (ChangeRefused fault) =
        of_record (Some fault) is in
        let through : desk_fault w.desk (ChangeOf shard change) ≡ None = sym allowed in
        Follows-unchanged service w Plain (Control (ChangeOf shard change)) (record v {
          records = table.records;
          ceiling = table.ceiling;
        }) v (Err (CommandRefused (ChangeRefused fault))) stands (rw (
          through,
          refused,
        ) refl) (ap (λ (t : TableView). record v { records = t.records; ceiling = t.ceiling }) unchanged)

    -- neither the desk nor the table refuses the change
    pub made : (table : TableView) (desk : DeskView)
        → None ≡ record_fault v.ceiling (record_at v.records shard)
        → table ≡ table_changed (record { records = v.records; ceiling = v.ceiling }) shard change
        → desk ≡ commanded v.desk (ChangeOf shard change) → Follows (record v {
          desk = desk;
          records = table.records;
          ceiling = table.ceiling;
        }) (Ok Made) (outcome service w Plain (Control (ChangeOf shard change)))
    made table desk is changed noted =
        let taken : table_fault w (ChangeOf shard change) ≡ None =
        of_record None is in
        let through : desk_fault w.desk (ChangeOf shard change) ≡ None = sym allowed in
        Follows-changed service w Plain (Control (ChangeOf shard change))
        (record v { desk = desk; records = table.records; ceiling = table.ceiling }) (Ok Made)
        (record (with_entry w 0 shard (Changed change)) { desk = commanded w.desk (ChangeOf shard change) }) v.pasts
        stands.sound (rw (through, taken) refl)
        (λ after. ap (λ (t : TableView). record v { desk = desk; records = t.records; ceiling = t.ceiling }) changed
        ∙ ap (λ (d : DeskView). record v {
          desk = d;
          records = (table_changed (record { records = v.records; ceiling = v.ceiling }) shard change).records;
        })
        noted
        ∙ ap (changed_parts w shard change) (parts-from_StandsFor v w stands)
        ∙ changed_parts_of w shard change v.pasts after)
        (λ after. record {
          bodies = stands.bodies;
          each = λ other within. stands.pasts other within ∙ sym (past_of-push_none w.history
              (record { actor = 0; shard = shard; kind = Changed change }) other refl);
        })
