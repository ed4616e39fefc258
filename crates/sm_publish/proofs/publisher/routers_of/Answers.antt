use Rattle.sm_publish.proofs.Seeing.{admits}
use Rattle.sm_publish.proofs.publisher.routers_of.Goals as goal

pub reader-requires : goal.reader-requires
reader-requires c = admits
