use Rattle.sm_publish.proofs.Seeing.{sees, extends_self}
use Rattle.sm_publish.proofs.router.read.Goals as goal

pub enter_as-requires : goal.enter_as-requires
enter_as-requires c map = sees _ _ map map (extends_self map.published)
