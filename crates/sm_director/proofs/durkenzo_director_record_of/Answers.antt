use Rattle.std.proofs.Common.{◌≡◌, sym, subst, ap, ◌∙◌, Option, ℕ}
use Rattle.sm_director.specs.declared.director.Director.{Director}
use Rattle.sm_lead.specs.declared.record_read.RecordRead.{RecordRead}
use Rattle.sm_lead.specs.Commands.{read_at}
use Rattle.sm_word.specs.Word.{word_of}
use Rattle.sm_director.specs.Calls.{KeepsDirector}
use Rattle.sm_director.specs.Directors.{HasControl}
use Rattle.sm_director.proofs.durkenzo_director_record_of.Goals as goal

pub returns-else-not-has_word-clause-told : goal.returns-else-not-has_word-clause-told
returns-else-not-has_word-clause-told c =
    let found = c.in-Ok.ensures.told in
    let read = found.2 ∙ ap (λ (shard : ℕ). read_at found.0.records.items shard) c.in-Some.ensures.value in
    λ _. subst (λ (state : Option Director). KeepsDirector (HasControl (λ control.
    (c.pack.result ≡ word_of (read_at control.records.items c.args.shard).state)
    × (c.in-Ok.read.stood ≡ (read_at control.records.items c.args.shard).stood))) state)
    (sym c.state_mut.ensures.value) (
      found.0,
      found.1,
      (
        c.pack.ensures ∙ ap (λ (it : RecordRead). word_of it.state) read,
        ap (λ (it : RecordRead). it.stood) read,
      ),
    )
