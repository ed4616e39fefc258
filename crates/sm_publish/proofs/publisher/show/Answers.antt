use Rattle.std.proofs.Common.{drop}
use Rattle.sm_publish.specs.Seen.{Extends}
use Rattle.sm_publish.proofs.Seeing.{sees, extends_fold}
use Rattle.sm_publish.proofs.publisher.show.Goals as goal

pub publish_as-writer-requires : goal.publish_as-writer-requires
publish_as-writer-requires g c next is =
    let map = c.args.writer.desk.shown.value in
    let more = drop c.args.writer.behind c.args.writer.log.items in
    let grown : Extends next.published map.published = rw is (extends_fold map more) in
    sees _ _ map next grown
