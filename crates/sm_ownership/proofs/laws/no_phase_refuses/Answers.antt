use Rattle.sm_ownership.specs.History.{record_at, table_of}
use Rattle.sm_ownership.proofs.Reaching.{served, two_servers}
use Rattle.sm_ownership.proofs.laws.no_phase_refuses.Goals as goal

pub returns : goal.returns
returns g c = λ count ceiling history shard server legal reached. served (record_at
    (table_of count ceiling history) shard).stand server (two_servers count ceiling history shard legal) reached
