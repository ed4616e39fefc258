-- A command that the control refuses is refused by the director that keeps it.
use Rattle.std.proofs.Common.{◌≡◌, sym, subst, inl, inr}
use Rattle.std.specs.Prelude.{Result, Ok, Err, IfErr, OnOk}
use Rattle.sm_desk.specs.declared.command.Command.{Command as AnyCommand}
use Rattle.sm_lead.specs.declared.store_control.StoreControl.{StoreControl}
use Rattle.sm_director.specs.declared.director.Director.{Director}
use Rattle.sm_director.specs.declared.director_fault.DirectorFault.{DirectorFault}
use Rattle.sm_director.specs.declared.director_fault.DirectorFault.TheVariants.{Memory, Bytes, Load, Command, Unread}
use Rattle.sm_director.specs.declared.director_fault.DirectorFault.TheVariants.{UnderWay, NotFollowed, NotAcked}
use Rattle.sm_director.specs.declared.director_fault.DirectorFault.TheVariants.{EarlierProcess, NotSent, Resettle}
use Rattle.sm_director.specs.declared.director_fault.DirectorFault.TheVariants.{TooShort}
use Rattle.sm_director.specs.declared.director_stage.DirectorStage.TheVariants.{Stands}
use Rattle.sm_director.specs.Directors.{RefusesWith, RefusesFor}
use Rattle.sm_director.specs.Refusals.{LacksSpace}
use Rattle.sm_director.specs.Resettlings.{RefusesResettling}

pub refuses : (control : StoreControl) (command : AnyCommand) (director : Director) (fault : DirectorFault)
    → director.stage ≡ Stands control → RefusesWith control command fault → RefusesFor command director fault
refuses control command director (Command why) stands by = (control, stands, by)
refuses control command director EarlierProcess stands by = (control, stands, tt)
refuses control command director Memory stands by = absurd by
refuses control command director Bytes stands by = absurd by
refuses control command director (Load why) stands by = absurd by
refuses control command director Unread stands by = absurd by
refuses control command director UnderWay stands by = absurd by
refuses control command director NotFollowed stands by = absurd by
refuses control command director NotAcked stands by = absurd by
refuses control command director NotSent stands by = absurd by
refuses control command director (Resettle why) stands by = absurd by
refuses control command director TooShort stands by = absurd by

-- a property after a successful call implies its consequences
pub on_ok : {A E X Y : Type 0} (result : Result A E) → (X → Y) → OnOk result X → OnOk result Y
on_ok (Ok x) implies holds = implies holds
on_ok (Err e) implies holds = tt

-- a property of a fault implies its consequences
pub if_err : {A E : Type 0} {P Q : E → Type 0} (result : Result A E) → ((e : E) → P e → Q e) → IfErr result P
    → IfErr result Q
if_err (Ok x) implies holds = tt
if_err (Err e) implies holds = implies e holds

pub lacks_space : (director other : Director) (fault : DirectorFault) → LacksSpace fault
    → RefusesResettling director other fault
lacks_space director other fault (inl is) =
    subst (λ (it : DirectorFault). RefusesResettling director other it) (sym is) tt
lacks_space director other fault (inr is) =
    subst (λ (it : DirectorFault). RefusesResettling director other it) (sym is) tt
