use Rattle.sm_whole.proofs.Runs.{ControlLaws, FleetLaws, all_known, executed, keeps_caps, lawful, system_is}
use Rattle.sm_whole.proofs.Runs.{whole_linear}
use Rattle.sm_whole.proofs.laws.servers_and_controls_are_lawful.Goals as goal

pub returns : goal.returns
returns g c =
    let service = g.M.StoreMachine.service in
    let laws : ControlLaws _ _ = record {
      sound = c.commands_keep_soundness.ensures;
      knows = c.reading_is_known.ensures.knows;
      reading = c.reading_is_known.ensures.goes_by;
      held = c.reading_is_known.ensures.held;
      sending = c.commands_may_be_sent.ensures;
      resettling = c.settings_may_be_sent.ensures;
      outcome = c.outcomes_are_known.ensures.goes_by;
      asks = c.commands_ask_for_nothing.ensures.commands;
      asks_not = c.commands_ask_for_nothing.ensures.settings;
      caps = c.controls_keep_caps.ensures;
    } in
    let fleets : FleetLaws service = record {
      lawful = c.fleets_are_lawful.ensures.lawful service;
      known = c.fleets_are_lawful.ensures.known service;
      linear = c.fleets_are_linear.ensures;
    } in
    record {
      lawful = λ given acts run. lawful service given laws fleets acts run;
      caps = λ given acts run. keeps_caps service given laws fleets acts run;
      executors = λ given acts run. executed service given laws fleets acts run;
      linear = λ given acts run asked. whole_linear service given laws fleets acts run asked;
      events = λ acts. system_is c.fleets_are_lawful.ensures.events acts;
      known = λ given acts run. all_known service given laws fleets acts run;
    }
