use Rattle.std.proofs.Common.{sym, subst, Option}
use Rattle.sm_director.specs.declared.director.Director.{Director}
use Rattle.sm_director.specs.declared.director_fault.DirectorFault.{DirectorFault}
use Rattle.sm_director.specs.Calls.{KeepsDirector, RefusesParts}
use Rattle.sm_director.specs.Directors.{RefusesFor}
use Rattle.sm_director.specs.Refusals.{IsRefusedBy, RefusesPartsFor}
use Rattle.sm_director.proofs.durkenzo_director_command.Goals as goal

pub returns-in-Err-clause-refused : goal.returns-in-Err-clause-refused
returns-in-Err-clause-refused c =
    λ low high. let why = c.code_of.ensures.refused low high in
    subst (λ (state : Option Director). KeepsDirector (RefusesParts (record {
      shard = c.args.shard;
      server = c.args.server;
      kind = c.args.kind;
    }) c.code_of.result) state) (sym c.state_mut.ensures.value) (
      c.in-Some.command,
      why.0,
      c.in-Some.ensures,
      why.2,
      subst (λ (fault : DirectorFault). RefusesFor c.in-Some.command c.state_mut.result.now fault) why.1
          c.in-Err.ensures.refused,
    )

pub returns-in-Err-clause-unsent : goal.returns-in-Err-clause-unsent
returns-in-Err-clause-unsent c =
    λ _ _. subst (λ (state : Option Director). IsRefusedBy (RefusesPartsFor (record {
      shard = c.args.shard;
      server = c.args.server;
      kind = c.args.kind;
    })) c.code_of.result state) (sym c.state_mut.ensures.value) (
      c.in-Err.fault,
      c.code_of.ensures.code,
      (c.in-Some.command, c.in-Some.ensures, c.in-Err.ensures.refused),
    )
