-- The sample service as the machine of a shared store: the requests that bytes spell, and the replies to them.
use Rattle.std.specs.Prelude.{ℕ, Bool, false, ◌==◌, ◌||◌, nat_lt, if◌then◌else◌, List, [], ◌∷◌, length, take, drop}
use Rattle.std.specs.Prelude.{Option, Some, None}
use Rattle.std.specs.Int.{w64, from_be_bytes, cast_signed, cast_unsigned}
use Rattle.sm_map.specs.KeyMap.{KeyPair, held_at, text_of}
use Rattle.sm_service.specs.declared.reply.Reply.{Reply}
use Rattle.sm_service.specs.declared.reply.Reply.TheVariants.{Nothing, Done, Text, Count, Pairs}
use Rattle.sm_service.specs.declared.reply.Reply.TheVariants.{WrongKind, Overflow, TooLong}
use Rattle.sm_service.specs.declared.request.Request.{Request}
use Rattle.sm_service.specs.declared.request.Request.TheVariants.{Get, Put, Append, Inc, Del}
use Rattle.sm_service.specs.Service.{reply as service_reply, after as service_after}
use Rattle.sm_texts.specs.declared.text_reply.TextReply.{TextReply}

-- a request by its amount in 8 bytes, the highest first; a negative amount is in two's complement
abbrev pub amount_in : List ℕ → List ℕ → Option Request
amount_in key rest =
    if nat_lt (length rest) 8 then None else Some (Inc key (cast_signed w64 (from_be_bytes w64 (take 8 rest))))

-- the request of this kind, for this key, by the bytes after it
abbrev pub request_of_kind : ℕ → List ℕ → List ℕ → Option Request
request_of_kind kind key rest =
    if kind == 1 then Some (Get key)
    else if kind == 2 then Some (Put key rest)
    else if kind == 3 then Some (Append key rest)
    else if kind == 4 then amount_in key rest
    else if kind == 5 then Some (Del key)
    else None

-- the bytes of a request: its kind, the length of its key, the key, and the rest
abbrev pub parts_in : List ℕ → Option (ℕ × List ℕ × List ℕ)
parts_in (kind ∷ count ∷ rest) =
    if count == 0 || (nat_lt 255 count || nat_lt (length rest) count) then None
    else Some (kind, take count rest, drop count rest)
parts_in _ = None

-- the request of such parts
abbrev pub request_by_parts : Option (ℕ × List ℕ × List ℕ) → Option Request
request_by_parts None = None
request_by_parts (Some (kind, key, rest)) = request_of_kind kind key rest

-- the request that the bytes spell, if they spell one
abbrev pub request_in : List ℕ → Option Request
request_in bytes = request_by_parts (parts_in bytes)

-- a reply as a kind and a number: the length of a text, the bits of a count, or the number of pairs
abbrev pub reply_parts : Reply → TextReply
reply_parts Nothing = record { kind = 0; number = 0 }
reply_parts Done = record { kind = 1; number = 0 }
reply_parts (Text text) = record { kind = 2; number = length text }
reply_parts (Count count) = record { kind = 3; number = cast_unsigned w64 count }
reply_parts (Pairs pairs) = record { kind = 4; number = length pairs }
reply_parts WrongKind = record { kind = 5; number = 0 }
reply_parts Overflow = record { kind = 6; number = 0 }
reply_parts TooLong = record { kind = 7; number = 0 }

-- the reply to a request, or to bytes that aren't a request
abbrev pub texts_reply : List KeyPair → Option Request → TextReply
texts_reply pairs None = record { kind = 8; number = 0 }
texts_reply pairs (Some request) = reply_parts (service_reply pairs request)

-- the pairs after a request, or after bytes that aren't a request
abbrev pub texts_after : List KeyPair → Option Request → List KeyPair
texts_after pairs None = pairs
texts_after pairs (Some request) = service_after pairs request

-- the text that the request asks for, if its key has a text
abbrev pub text_for : List KeyPair → Option (ℕ × List ℕ × List ℕ) → List ℕ
text_for pairs None = []
text_for pairs (Some (kind, key, rest)) = text_of (held_at pairs key)

-- the request only reads
abbrev pub is_read : List ℕ → Bool
is_read (kind ∷ rest) = kind == 1
is_read [] = false
