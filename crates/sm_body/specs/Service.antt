-- The meaning of a service, and the contents of its body.
use Rattle.std.specs.Prelude.{ℕ, List, fold}

-- the meaning of a service: the reply to a request after a list of others, and the bytes that choose its shard
pub record Meaning (Q R : Type 0) : Type 0 where
  pub reply_of : List Q → Q → R
  pub key_of : Q → List ℕ

-- the meaning of a state machine: from the initial state on, each request leads to the next state and gets its reply
-- from the state before it
abbrev pub meaning_of : {State Q R : Type 0} → State → (State → Q → State) → (State → Q → R) → (Q → List ℕ)
    → Meaning Q R
meaning_of initial next answer key_of =
    record { reply_of = λ list request. answer (fold next initial list) request; key_of = key_of }

-- the contents of a body: its base, which is a state, how many requests came before it, the requests since then, and
-- the most that it keeps
pub record Log (State Q : Type 0) : Type 0 where
  pub base : State
  pub before : ℕ
  pub requests : List Q
  pub limit : ℕ
