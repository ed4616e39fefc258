-- How an envelope comes from server to server.
use Rattle.std.proofs.Common.{◌≡◌, ◌+◌, ℕ, zero, suc, List, Some, sym, ap, ◌∙◌, subst, arith}
use Rattle.sm_envelope.specs.Envelope.{ShellView}
use Rattle.sm_ownership.specs.declared.entry.Entry.{Entry}
use Rattle.sm_ownership.specs.declared.mode.Mode.{Mode}
use Rattle.sm_ownership.specs.declared.mode.Mode.TheVariants.{Forwarded}
use Rattle.sm_ownership.specs.Rules.{forward_to}
use Rattle.sm_rule.specs.Passes.{PassValue, record_of}
use Rattle.sm_rule.specs.Views.{Begins}
use Rattle.sm_rule.specs.lemmas.Passing.{begins_begins}
use Rattle.sm_server.specs.Serving.{IsForwarded, IsHandedBack, Sent}
use Rattle.sm_calls.specs.Ways.{CameTo}
use Rattle.sm_calls.specs.lemmas.Passes.{begins_same}

-- a request that came with a history also came with a longer one
pub came_more : {Q : Type 0} (caller : PassValue Q) (named shard hops : ℕ) (mode : Mode) (server : ℕ)
    (seen more : List (Entry Q)) → CameTo caller named shard hops mode server seen → Begins seen more
    → CameTo caller named shard hops mode server more
came_more caller named shard zero mode server seen more came begins =
    (came.0, came.1, begins_begins caller.seen seen more came.2 begins)
came_more caller named shard (suc hops) mode server seen more
    (from, before, note, came, below, board, forwards, is, told) begins =
    (from, before, note, came, below, board, forwards, is, begins_begins note.seen seen more told begins)

-- a request that came from a caller also came from one that had seen less
pub came_earlier :
    {Q : Type 0} (first caller : PassValue Q) (first_named named first_shard shard hops : ℕ) (mode : Mode)
    (server : ℕ) (seen : List (Entry Q)) → caller.board ≡ first.board → Begins first.seen caller.seen
    → named ≡ first_named → shard ≡ first_shard → CameTo caller named shard hops mode server seen
    → CameTo first first_named first_shard hops mode server seen
came_earlier first caller first_named named first_shard shard zero mode server seen board begins name_is shard_is came =
    (came.0 ∙ name_is, came.1, begins_begins first.seen caller.seen seen begins came.2)
came_earlier first caller first_named named first_shard shard (suc hops) mode server seen board begins name_is shard_is
    (from, before, note, came, below, own, forwards, is, told) = (
      from,
      before,
      note,
      came_earlier first caller first_named named first_shard shard hops before from note.seen board begins name_is
          shard_is
          came,
      below,
      own ∙ board,
      subst (λ (k : ℕ). forward_to (record_of note k) from ≡ Some server) shard_is forwards,
      is,
      told,
    )

abbrev hops_of_shell : ShellView → ℕ
hops_of_shell shell = shell.hops

abbrev mode_of_shell : ShellView → Mode
mode_of_shell shell = shell.mode

same_server : (one other : ℕ) → Some one ≡ Some other → one ≡ other
same_server one other same = cc

-- a request that a server forwards comes to the next one with one more hop
pub came_on : {Q : Type 0} (caller before : PassValue Q) (named shard server to : ℕ) (envelope back : Sent Q)
    → envelope.note.board ≡ caller.board → envelope.shard ≡ shard → before.server ≡ Some server
    → CameTo caller named shard envelope.hops envelope.mode server envelope.note.seen → IsHandedBack envelope back
    → IsForwarded before envelope to back → CameTo caller named shard back.hops back.mode to back.note.seen
came_on {Q} caller before named shard server to envelope back board shard_is own came handed forwarded =
    let at : forwarded.server ≡ server = same_server forwarded.server server (sym forwarded.is_own ∙ own) in
    let one_more : envelope.hops + 1 ≡ suc envelope.hops = omega arith in
    let hop : CameTo caller named shard (suc envelope.hops) back.mode to back.note.seen = (
      server,
      envelope.mode,
      back.note,
      came_more caller named shard envelope.hops envelope.mode server envelope.note.seen back.note.seen came
          handed.told,
      forwarded.hops,
      handed.board ∙ board,
      subst (λ (pair : ℕ × ℕ). forward_to (record_of back.note pair.0) pair.1 ≡ Some to) (λ i. (shard_is i, at i))
          forwarded.forwards,
      ap mode_of_shell forwarded.shell ∙ ap Forwarded at,
      begins_same back.note.seen,
    ) in
    subst (λ (hops : ℕ). CameTo caller named shard hops back.mode to back.note.seen)
    (sym (ap hops_of_shell forwarded.shell ∙ one_more)) hop
