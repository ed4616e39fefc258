-- The bytes of a reply.
use Rattle.std.specs.Prelude.{ℕ, List, ◌∷◌}
use Rattle.std.specs.Int.{w64, to_be_bytes}
use Rattle.sm_texts.specs.declared.text_reply.TextReply.{TextReply}

-- a reply: its kind, and its number
abbrev pub reply_bytes : TextReply → List ℕ
reply_bytes reply = reply.kind ∷ to_be_bytes w64 reply.number
