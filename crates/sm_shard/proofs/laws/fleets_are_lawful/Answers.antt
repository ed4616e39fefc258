use Rattle.sm_shard.proofs.Fleets.{fleet_known, lawful, system_is}
use Rattle.sm_shard.proofs.laws.fleets_are_lawful.Goals as goal

pub returns : goal.returns
returns g c = record {
  lawful = λ service charter acts parts might.
      lawful service charter (c.runs_are_lawful.ensures.lawful service charter) acts parts might;
  known = λ service charter acts parts might.
      fleet_known service charter (c.runs_are_lawful.ensures.lawful service charter) acts parts might;
  events = λ acts. system_is acts;
}
