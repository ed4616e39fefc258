-- The meaning of the sample service: the reply to each request on a key map, its changes there, and whose key it is;
-- and the same for a list of requests.
use Rattle.std.specs.Prelude.{ℕ, ◌-◌, ◌^◌, ℤ, pos, neg_ℤ, ◌+ℤ◌, int_le, Bool, ◌&&◌, List, [], ◌++◌, Option, Some, None}
use Rattle.std.specs.Prelude.{fold, length, min, take, nat_le, if◌then◌else◌}
use Rattle.sm_body.specs.Service.{Log}
use Rattle.sm_map.specs.KeyMap.{KeyPair, KeyValue, Text, Count, held_at, text_at, holding, without, within}
use Rattle.sm_service.specs.declared.counter_text.TheConstants.{MAX_SCANNED, MAX_TEXT}
use Rattle.sm_service.specs.declared.reply.Reply.{Reply}
use Rattle.sm_service.specs.declared.reply.Reply.TheVariants.{Nothing, Done, Pairs, WrongKind, Overflow, TooLong}
use Rattle.sm_service.specs.declared.reply.Reply.TheVariants.{Text as ReplyText, Count as ReplyCount}
use Rattle.sm_service.specs.declared.request.Request.{Request}
use Rattle.sm_service.specs.declared.request.Request.TheVariants.{Get, Put, Inc, Append, Del, Scan}

-- the reply to a Get, by the key's value
abbrev pub get_reply : Option KeyValue → Reply
get_reply None = Nothing
get_reply (Some (Text text)) = ReplyText text
get_reply (Some (Count count)) = ReplyCount count

-- the reply to a request for a new text, by the key's value
abbrev pub text_reply : Option KeyValue → List ℕ → Reply
text_reply None text = if nat_le (length text) MAX_TEXT then Done else TooLong
text_reply (Some (Text before)) text = if nat_le (length text) MAX_TEXT then Done else TooLong
text_reply (Some (Count count)) text = WrongKind

-- the map after a request for a new text, by its reply
abbrev pub text_after : List KeyPair → List ℕ → List ℕ → Reply → List KeyPair
text_after m key text Done = holding m key (Text text)
text_after m key text _ = m

-- the number is from -2 ^ 63 to 2 ^ 63 - 1
abbrev pub is_i64 : ℤ → Bool
is_i64 n = int_le (neg_ℤ (pos (2 ^ 63))) n && int_le n (pos (2 ^ 63 - 1))

-- the sum, if it is a count
abbrev pub sum_of : ℤ → ℤ → Option ℤ
sum_of count amount = if is_i64 (count +ℤ amount) then Some (count +ℤ amount) else None

-- the reply to an Inc of a count, by the sum
abbrev pub count_reply : Option ℤ → Reply
count_reply (Some sum) = ReplyCount sum
count_reply None = Overflow

-- the reply to an Inc, by the key's value
abbrev pub inc_reply : Option KeyValue → ℤ → Reply
inc_reply None amount = ReplyCount amount
inc_reply (Some (Text text)) amount = WrongKind
inc_reply (Some (Count count)) amount = count_reply (sum_of count amount)

-- the map after an Inc, by its reply
abbrev pub inc_after : List KeyPair → List ℕ → Reply → List KeyPair
inc_after m key (ReplyCount sum) = holding m key (Count sum)
inc_after m key _ = m

-- the text that an Append makes from the key's text; if the key has none, from the empty text
abbrev pub longer_text : List KeyPair → List ℕ → List ℕ → List ℕ
longer_text m key tail = text_at m key ++ tail

-- the reply to a Del, by the key's value
abbrev pub del_reply : Option KeyValue → Reply
del_reply None = Nothing
del_reply (Some held) = Done

-- the first pairs with keys from low up to, but without, high: as many as are asked for, and as a scan gives
abbrev pub scanned : List KeyPair → List ℕ → List ℕ → ℕ → List KeyPair
scanned m low high most = take (min most MAX_SCANNED) (within m low high)

-- the reply to a request on the map m
abbrev pub reply : List KeyPair → Request → Reply
reply m (Get key) = get_reply (held_at m key)
reply m (Put key text) = text_reply (held_at m key) text
reply m (Inc key amount) = inc_reply (held_at m key) amount
reply m (Append key tail) = text_reply (held_at m key) (longer_text m key tail)
reply m (Del key) = del_reply (held_at m key)
reply m (Scan low high most) = Pairs (scanned m low high most)

-- the map after a request on the map m
abbrev pub after : List KeyPair → Request → List KeyPair
after m (Get key) = m
after m (Put key text) = text_after m key text (reply m (Put key text))
after m (Inc key amount) = inc_after m key (reply m (Inc key amount))
after m (Append key tail) = text_after m key (longer_text m key tail) (reply m (Append key tail))
after m (Del key) = without m key
after m (Scan low high most) = m

-- the key whose shard executes the request
abbrev pub key_of_request : Request → List ℕ
key_of_request (Get key) = key
key_of_request (Put key text) = key
key_of_request (Inc key amount) = key
key_of_request (Append key tail) = key
key_of_request (Del key) = key
key_of_request (Scan low high most) = low

-- the key map that the requests make, from the empty one
abbrev pub pairs_after : List Request → List KeyPair
pairs_after requests = fold after [] requests

-- the reply to a request after the requests of a list
abbrev pub reply_after : List Request → Request → Reply
reply_after requests request = reply (pairs_after requests) request

-- the contents of a body of the sample service
abbrev pub TextLog : Type 0
TextLog = Log (List KeyPair) Request
