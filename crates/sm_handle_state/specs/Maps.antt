-- Maps of the sample service, and their replies, that handles keep.
use Rattle.std.specs.Prelude.{ℕ, ◌≡◌, ◌≤◌, ◌<◌, ◌⊎◌, ⊤, List, [], length, slice_get, take, Option, Some, None}
use Rattle.sm_map.specs.KeyMap.{KeyPair, KeyValue, Text as HeldText, Count as HeldCount, held_at}
use Rattle.sm_service.specs.Service.{reply as reply_of, after as map_after}
use Rattle.sm_service.specs.declared.reply.Reply.{Reply as ReplyValue}
use Rattle.sm_service.specs.declared.reply.Reply.TheVariants.{Nothing, Done, Text, Count, Pairs}
use Rattle.sm_service.specs.declared.reply.Reply.TheVariants.{WrongKind, Overflow, TooLong}
use Rattle.sm_service.specs.declared.request.Request.{Request}
use Rattle.sm_handle_state.specs.declared.act_fault.ActFault.{ActFault}
use Rattle.sm_handle_state.specs.declared.act_fault.ActFault.TheVariants.{NoMemory, NoMore, TooShort, WrongHandle}
use Rattle.sm_handle_state.specs.declared.handle_state.HandleState.{HandleState}
use Rattle.sm_handle_state.specs.declared.handle_state.HandleState.TheVariants.{Answer, Map, Reply}
use Rattle.sm_handle_state.specs.declared.reply_parts.ReplyParts.{ReplyParts}

-- the handle keeps an empty map
abbrev pub IsEmptyMap : Option HandleState → Type 0
IsEmptyMap (Some (Map map)) = map.value ≡ []
IsEmptyMap state = ⊥

-- the map made this reply to the request, and has the state after the request
abbrev pub MakesReply : Option HandleState → Option HandleState → Request → Option HandleState → Type 0
MakesReply (Some (Map before)) (Some (Map after)) request (Some (Reply made)) =
    (made ≡ reply_of before.value request) × (after.value ≡ map_after before.value request)
MakesReply before after request made = ⊥

-- the parts are those of a key's value
abbrev pub AreValueParts : ReplyParts → KeyValue → Type 0
AreValueParts parts (HeldText text) = (parts.kind ≡ 2) × (parts.length ≡ length text)
AreValueParts parts (HeldCount count) = (parts.kind ≡ 3) × (parts.count ≡ count)

-- the parts are those of a key's value, or say that it has none; a text is in front of these bytes, if there are as
-- many
abbrev pub IsHeldIn : Option KeyValue → List ℕ → ReplyParts → Type 0
IsHeldIn None written parts = parts.kind ≡ 0
IsHeldIn (Some (HeldCount count)) written parts = AreValueParts parts (HeldCount count)
IsHeldIn (Some (HeldText text)) written parts =
    AreValueParts parts (HeldText text) × (length text ≤ length written → take (length text) written ≡ text)

-- the same of this key of the map that the handle keeps
abbrev pub WritesHeld : Option HandleState → List ℕ → List ℕ → ReplyParts → Type 0
WritesHeld (Some (Map map)) key written parts = IsHeldIn (held_at map.value key) written parts
WritesHeld state key written parts = ⊥

-- the handle keeps no map
abbrev pub KeepsNoMap : Option HandleState → Type 0
KeepsNoMap (Some (Map map)) = ⊥
KeepsNoMap state = ⊤

-- why the map that the handle keeps makes no reply: it keeps none, or memory was refused
abbrev pub MakesNoReply : Option HandleState → ActFault → Type 0
MakesNoReply before fault = ((fault ≡ WrongHandle) × KeepsNoMap before) ⊎ (fault ≡ NoMemory)

-- the handle keeps a map with so many keys
abbrev pub HoldsKeys : Option HandleState → ℕ → Type 0
HoldsKeys (Some (Map map)) count = count ≡ length map.value
HoldsKeys state count = ⊥

-- the parts are those of this reply
abbrev pub AreReplyParts : ReplyParts → ReplyValue → Type 0
AreReplyParts parts Nothing = parts.kind ≡ 0
AreReplyParts parts Done = parts.kind ≡ 1
AreReplyParts parts (Text text) = (parts.kind ≡ 2) × (parts.length ≡ length text)
AreReplyParts parts (Count count) = (parts.kind ≡ 3) × (parts.count ≡ count)
AreReplyParts parts (Pairs pairs) = (parts.kind ≡ 4) × (parts.length ≡ length pairs)
AreReplyParts parts WrongKind = parts.kind ≡ 5
AreReplyParts parts Overflow = parts.kind ≡ 6
AreReplyParts parts TooLong = parts.kind ≡ 7

-- the reply that the handle keeps
abbrev pub reply_kept : Option HandleState → Option ReplyValue
reply_kept (Some (Reply reply)) = Some reply
reply_kept (Some (Answer answer)) = Some answer.reply
reply_kept state = None

-- the handle keeps a reply with these parts
abbrev pub Replied : Option HandleState → ReplyParts → Type 0
Replied state parts = (reply : ReplyValue) × (reply_kept state ≡ Some reply) × AreReplyParts parts reply

-- the first so many of these bytes are the text that the handle keeps as its reply
abbrev pub WritesText : Option HandleState → List ℕ → ℕ → Type 0
WritesText state written count = reply_kept state ≡ Some (Text (take count written))

-- why no text is written: no text was replied, or one with more bytes than this room
abbrev pub HasNoText : Option ReplyValue → List ℕ → ActFault → Type 0
HasNoText (Some (Text text)) room fault = (fault ≡ TooShort) × (length room < length text)
HasNoText reply room fault = fault ≡ WrongHandle

-- the handle keeps pairs as its reply, and this is the one at this place
abbrev pub IsPairAt : Option HandleState → ℕ → KeyPair → Type 0
IsPairAt state at pair =
    (pairs : List KeyPair) × (reply_kept state ≡ Some (Pairs pairs)) × (slice_get pairs at ≡ Some pair)

-- why there is no pair: the reply isn't pairs, or has none at this place
abbrev pub HasNoPair : Option ReplyValue → ℕ → ActFault → Type 0
HasNoPair (Some (Pairs pairs)) at fault = (fault ≡ NoMore) × (slice_get pairs at ≡ None)
HasNoPair reply at fault = fault ≡ WrongHandle

-- a pair is there, and these are the parts of its value
abbrev pub PairHeld : Option HandleState → ℕ → ReplyParts → Type 0
PairHeld state at parts = (pair : KeyPair) × IsPairAt state at pair × AreValueParts parts pair.value

-- the same, and the first so many of these bytes are its key
abbrev pub WritesKey : Option HandleState → ℕ → List ℕ → ℕ → Type 0
WritesKey state at written count = (pair : KeyPair) × IsPairAt state at pair × (take count written ≡ pair.key)

-- the same, and they are the text in its value
abbrev pub WritesHeldText : Option HandleState → ℕ → List ℕ → ℕ → Type 0
WritesHeldText state at written count =
    (pair : KeyPair) × IsPairAt state at pair × (pair.value ≡ HeldText (take count written))

-- why no key is written: there is no pair at this place, or its key has more bytes than this room
abbrev pub HasNoKeyAt : Option HandleState → ℕ → List ℕ → ActFault → Type 0
HasNoKeyAt state at room fault =
    HasNoPair (reply_kept state) at fault
    ⊎ ((pair : KeyPair) × IsPairAt state at pair × (length room < length pair.key) × (fault ≡ TooShort))

-- why no text is written: the value is none, or has more bytes than this room
abbrev pub HasNoTextIn : KeyValue → List ℕ → ActFault → Type 0
HasNoTextIn (HeldText text) room fault = (fault ≡ TooShort) × (length room < length text)
HasNoTextIn held room fault = fault ≡ WrongHandle

-- the same of the key of the pair at this place, or there is no pair
abbrev pub HasNoTextAt : Option HandleState → ℕ → List ℕ → ActFault → Type 0
HasNoTextAt state at room fault =
    HasNoPair (reply_kept state) at fault
    ⊎ ((pair : KeyPair) × IsPairAt state at pair × HasNoTextIn pair.value room fault)
