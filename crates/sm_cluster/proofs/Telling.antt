-- The history that a cluster tells, and its teller.
use Rattle.std.proofs.Common.{◌≡◌, List, ap, subst, ◌∙◌}
use Rattle.sm_ownership.specs.declared.entry.Entry.{Entry}
use Rattle.sm_rule.specs.Boards.{BoardValue}
use Rattle.sm_rule.specs.Passes.{PassLooks, PassValue}
use Rattle.sm_rule.specs.Views.{Begins, IsMet}
use Rattle.sm_rule.specs.lemmas.Passing.{begins_begins, looks_begins, met_begins}
use Rattle.sm_cluster.specs.Clusters.{ClusterValue, TellsMore, cluster_telling}
use Rattle.sm_cluster.specs.Passes.{IsTeller}

-- whoever meets a note has seen the history with which the note was cut
pub begins_met : {Q : Type 0} (earlier : List (Entry Q)) (note : PassValue Q) (later : List (Entry Q))
    → Begins earlier note.seen → IsMet note.number note.seen later → Begins earlier later
begins_met earlier note later begins met =
    begins_begins earlier note.seen later begins (met_begins note.number note.seen later met)

-- a teller that has looked, and has then seen this, is one
pub teller_looks : {Q : Type 0} (board : BoardValue) (history later : List (Entry Q)) (before after : PassValue Q)
    → IsTeller board history before → PassLooks before after → Begins later after.seen → IsTeller board later after
teller_looks {Q} board history later before after is looks begins = (
  ap (λ (pass : PassValue Q). pass.board) looks.1 ∙ is.0,
  ap (λ (pass : PassValue Q). pass.held) looks.1 ∙ is.1,
  begins,
)

-- a teller that has looked is a teller of its earlier history
pub teller_stays : {Q : Type 0} (board : BoardValue) (history : List (Entry Q)) (before after : PassValue Q)
    → IsTeller board history before → PassLooks before after → IsTeller board history after
teller_stays board history before after is looks =
    teller_looks board history history before after is looks
    (begins_begins history before.seen after.seen is.2 (looks_begins before after looks))

-- a cluster whose teller has seen more
pub tells_more : {Q : Type 0} (inside before : ClusterValue Q) (told : List (Entry Q)) → inside ≡ before
    → Begins inside.told told → TellsMore before (cluster_telling inside told)
tells_more {Q} inside before told is begins = (
  subst (λ (cluster : ClusterValue Q). Begins cluster.told told) is begins,
  ap (λ (cluster : ClusterValue Q). cluster_telling cluster told) is,
)
