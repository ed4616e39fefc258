use Rattle.std.specs.Prelude.{Some}
use Rattle.sm_calls.proofs.reply.reply_channel.Given as goal

abbrev pub ghosts-channel_as : goal.ghosts-channel_as
ghosts-channel_as g a =
    record { asked = Some (record { bounds = a._layout.now; server = a._server; sent = a._envelope.now }) }
