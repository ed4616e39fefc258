use Rattle.sm_shard_bytes.proofs.calls.sending.Goals as goal

pub returns-in-Ok-clause-written : goal.returns-in-Ok-clause-written
returns-in-Ok-clause-written g c = λ done. (c.in-Ok.sent, c.in-Ok.ensures.spelled, c.write_sent.ensures.written done)
