use Rattle.std.proofs.Common.{◌∙◌}
use Rattle.sm_publish.proofs.Storing.{opens}
use Rattle.sm_publish.proofs.word_publisher.WordPublisher.new.Goals as goal

pub of_words-requires : goal.of_words-requires
of_words-requires c =
    opens c.args.count c.as_slice.result.now (c.as_slice.ensures.value ∙ c.in_ok-words.ensures)
