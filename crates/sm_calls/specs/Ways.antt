-- How a call's envelope comes to a server.
use Rattle.std.specs.Prelude.{ℕ, zero, suc, ◌≡◌, ◌<◌, List, Some}
use Rattle.sm_envelope.specs.declared.envelope.TheConstants.{MOST_HOPS}
use Rattle.sm_ownership.specs.declared.entry.Entry.{Entry}
use Rattle.sm_ownership.specs.declared.mode.Mode.{Mode}
use Rattle.sm_ownership.specs.declared.mode.Mode.TheVariants.{Direct, Forwarded}
use Rattle.sm_ownership.specs.Rules.{forward_to}
use Rattle.sm_rule.specs.Passes.{PassValue, record_of}
use Rattle.sm_rule.specs.Views.{Begins}

-- after so many hops a request for the shard is at this server, in this mode and with this history: without a hop, at
-- the server that its caller named; with one more, at the server to which the server before it forwards, by the shard's
-- record in a history that extends the one before. The first history extends all that the caller had seen
abbrev pub CameTo : {Q : Type 0} → PassValue Q → ℕ → ℕ → ℕ → Mode → ℕ → List (Entry Q) → Type 0
CameTo caller named shard zero mode server seen = (server ≡ named) × (mode ≡ Direct) × Begins caller.seen seen
CameTo {Q} caller named shard (suc hops) mode server seen =
    (from : ℕ) × (came : Mode) × (note : PassValue Q) × CameTo caller named shard hops came from note.seen
    × (hops < MOST_HOPS) × (note.board ≡ caller.board) × (forward_to (record_of note shard) from ≡ Some server)
    × (mode ≡ Forwarded from) × Begins note.seen seen
