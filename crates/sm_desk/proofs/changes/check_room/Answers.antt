use Rattle.std.proofs.Common.{ap, sym, ◌∙◌}
use Rattle.std.specs.Option.{option_map}
use Rattle.std.specs.Result.{result_err}
use Rattle.sm_desk.specs.declared.command.CommandFault.TheVariants.{Place}
use Rattle.sm_desk.proofs.Rooms.{room_fault-is}
use Rattle.sm_desk.proofs.changes.check_room.Goals as goal

pub returns-in-Ok : goal.returns-in-Ok
returns-in-Ok c =
    sym (ap (λ one. option_map Place (result_err one)) c.in-Ok.is)
    ∙ room_fault-is c.args.books.now c.args.k c.args.server c.in-Some.a c.fits.result c.in-Some.is c.fits.ensures

pub returns-in-Err : goal.returns-in-Err
returns-in-Err c =
    sym (ap (λ one. option_map Place (result_err one)) c.in-Err.is)
    ∙ room_fault-is c.args.books.now c.args.k c.args.server c.in-Some.a c.fits.result c.in-Some.is c.fits.ensures
