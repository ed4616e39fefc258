use Rattle.std.proofs.Common.{◌≡◌, ◌<◌, ◌+◌, ◌++◌, [], ◌∷◌, ap, arith, ⊎_elim}
use Rattle.sm_ownership.specs.declared.entry.Kind.TheVariants.{Admit}
use Rattle.sm_ownership.specs.declared.record.Record.{Record}
use Rattle.sm_ownership.specs.History.{after_admit, record_at, table_of}
use Rattle.sm_ownership.specs.lemmas.Growth.{fits-push, legal_prefix, record_at-push}
use Rattle.sm_ownership.specs.lemmas.Lasting.{same_or_later}
use Rattle.sm_rule.specs.Views.{entry_of}
use Rattle.sm_foreign.proofs.laws.tokens_rise.Goals as goal

pub returns : goal.returns
returns g c = λ after limits history others actor shard server mode legal.
    let entry = entry_of actor shard (Admit server mode) in
    let point = history ++ others in
    let before = record_at (table_of limits.count limits.ceiling history) shard in
    let between = record_at (table_of limits.count limits.ceiling point) shard in
    let last = record_at (table_of limits.count limits.ceiling (point ++ entry ∷ [])) shard in
    let made : last ≡ after_admit between =
    record_at-push limits.count limits.ceiling point entry (fits-push limits.count limits.ceiling point entry legal) in
    let counted : last.generation ≡ between.generation + 1 = ap (λ (r : Record). r.generation) made in
    ⊎_elim
    (λ (same : between ≡ before).
    let known : between.generation ≡ before.generation = ap (λ (r : Record). r.generation) same in omega arith)
    (λ (less : before.generation < between.generation). omega arith)
    (same_or_later limits.count limits.ceiling history others shard
    (legal_prefix limits.count limits.ceiling point (entry ∷ []) legal))
