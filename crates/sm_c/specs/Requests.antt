-- Requests of the sample service by their parts.
use Rattle.std.specs.Prelude.{ℕ, ℤ, pos, int_le, ◌≡◌, ◌<◌, ◌⊎◌, ◌^◌, ◌-◌, Bool, false, ◌&&◌, List, Option, length, min}
use Rattle.sm_ranges.specs.declared.limits.TheConstants.{MAX_KEY, MAX_SERVER, MAX_SHARD}
use Rattle.sm_ranges.specs.declared.key.KeyFault.{KeyFault}
use Rattle.sm_ranges.specs.declared.key.KeyFault.TheVariants.{Empty, TooLong, NoMemory}
use Rattle.sm_server.specs.declared.refusal.Refusal.{Refusal}
use Rattle.sm_service.specs.declared.request.Request.{Request}
use Rattle.sm_service.specs.declared.request.Request.TheVariants.{Get, Put, Append, Inc, Del, Scan}
use Rattle.sm_handle.specs.HandleState.{HandleState}
use Rattle.sm_handle.specs.ActFault.{ActFault}
use Rattle.sm_handle.specs.ServedAs.TheVariants.{Refused}
use Rattle.sm_handle.specs.Maps.{HoldsKeys, KeepsNoMap, MakesNoReply, MakesReply}
use Rattle.sm_handle.specs.Serving.{Carries, CarriesNothing, IsSentAs, RefusesCheckpoint, Serves, ServesNowhere}
use Rattle.sm_handle.specs.SentAs.{SentAs}
use Rattle.sm_c.specs.Codes.{IsCodeOf, act_fault_code, refusal_code, request_fault_code}
use Rattle.sm_c.specs.Words.{CameFrom}
use Rattle.sm_c.specs.declared.sent_parts.SentParts.{SentParts}
use Rattle.sm_c.specs.Reading.{TellsRecord, act_read, refusal_read}
use Rattle.sm_c.specs.declared.record_parts.RecordParts.{RecordParts}
use Rattle.sm_c.specs.declared.requests.RequestFault.{RequestFault}
use Rattle.sm_c.specs.declared.requests.RequestFault.TheVariants.{Argument, Key as BadKey}

-- the request has this kind and these parts
abbrev pub HasParts : ℕ → List ℕ → List ℕ → ℤ → Request → Type 0
HasParts kind key other amount (Get named) = (kind ≡ 1) × (named ≡ key)
HasParts kind key other amount (Put named text) = (kind ≡ 2) × (named ≡ key) × (text ≡ other)
HasParts kind key other amount (Append named tail) = (kind ≡ 3) × (named ≡ key) × (tail ≡ other)
HasParts kind key other amount (Inc named added) = (kind ≡ 4) × (named ≡ key) × (added ≡ amount)
HasParts kind key other amount (Del named) = (kind ≡ 5) × (named ≡ key)
HasParts kind key other amount (Scan low high most) =
    (kind ≡ 6) × (low ≡ key) × (high ≡ other) × (pos most ≡ amount)

-- why the bytes aren't a key: there are none, or too many
abbrev pub IsNoKey : List ℕ → KeyFault → Type 0
IsNoKey bytes Empty = length bytes ≡ 0
IsNoKey bytes TooLong = MAX_KEY < length bytes
IsNoKey bytes NoMemory = ⊥

-- the amount is a number of pairs
abbrev pub is_u32 : ℤ → Bool
is_u32 amount = int_le (pos 0) amount && int_le amount (pos (2 ^ 32 - 1))

-- no request has this kind; or it is a scan, and asks for fewer than 0 pairs or for 2^32 or more
abbrev pub IsNoRequest : ℕ → ℤ → Type 0
IsNoRequest kind amount = (kind ≡ 0) ⊎ (6 < kind) ⊎ ((kind ≡ 6) × (is_u32 amount ≡ false))

-- why a request of this kind has no key: it names one by these bytes or, if it is a scan, by those
abbrev pub HasNoKey : ℕ → List ℕ → List ℕ → KeyFault → Type 0
HasNoKey kind key other fault = IsNoKey key fault ⊎ ((kind ≡ 6) × IsNoKey other fault)

-- why parts are no request
abbrev pub AreNoRequest : RequestFault → ℕ → List ℕ → List ℕ → ℤ → Type 0
AreNoRequest Argument kind key other amount = IsNoRequest kind amount
AreNoRequest (BadKey fault) kind key other amount = HasNoKey kind key other fault

-- why the map wasn't asked for a key: the bytes aren't one, or the handle keeps no map; and the code says which
abbrev pub GetsNothing : Option HandleState → List ℕ → ℕ → Type 0
GetsNothing map key code =
    ((fault : KeyFault) × IsNoKey key fault × (code ≡ request_fault_code (BadKey fault)))
    ⊎ ((code ≡ 1) × KeepsNoMap map)

-- the map has so many keys, or more than a word counts
abbrev pub CountsKeys : Option HandleState → ℕ → Type 0
CountsKeys map count = (all : ℕ) × HoldsKeys map all × (count ≡ min all (2 ^ 64 - 1))

-- the map made the reply to a request of this kind with these parts, and has the state after that
abbrev pub AsksMap :
    Option HandleState → Option HandleState → ℕ → List ℕ → List ℕ → ℤ → Option HandleState → Type 0
AsksMap before after kind key other amount reply =
    (request : Request) × HasParts kind key other amount request × MakesReply before after request reply

-- the map wasn't asked: the parts are no request, the handle keeps no map, or memory was refused; and the code says why
abbrev pub AsksNothing : Option HandleState → ℕ → List ℕ → List ℕ → ℤ → ℕ → Type 0
AsksNothing before kind key other amount code =
    ((fault : RequestFault) × AreNoRequest fault kind key other amount × (code ≡ request_fault_code fault))
    ⊎ IsCodeOf (MakesNoReply before) code

-- no shard or no server has the number
abbrev pub AreNoSentParts : SentParts → Type 0
AreNoSentParts parts = (MAX_SHARD < parts.shard) ⊎ (MAX_SERVER < parts.from)

-- the parts are those of an envelope that was sent like this
abbrev pub AreSentParts : SentParts → SentAs → Type 0
AreSentParts parts sent =
    (parts.number ≡ sent.number) × (parts.shard ≡ sent.shard) × CameFrom parts.from sent.mode
    × (parts.hops ≡ sent.hops)

-- the envelope has these parts and carries a request of this kind with these parts from the pass
abbrev pub SendsRequest :
    Option HandleState → Option HandleState → SentParts → ℕ → List ℕ → List ℕ → ℤ → Type 0
SendsRequest pass envelope parts kind key other amount =
    (sent : SentAs) × (request : Request) × AreSentParts parts sent × HasParts kind key other amount request
    × Carries pass envelope sent request

-- why there is no such envelope: the parts are none, or those of no request, or none comes in this mode, or the handle
-- keeps no pass of the sample service, or memory was refused; and the code says which
abbrev pub SendsNothing : Option HandleState → SentParts → ℕ → List ℕ → List ℕ → ℤ → ℕ → Type 0
SendsNothing pass parts kind key other amount code =
    ((code ≡ 2) × AreNoSentParts parts)
    ⊎ ((fault : RequestFault) × AreNoRequest fault kind key other amount × (code ≡ request_fault_code fault))
    ⊎ ((sent : SentAs) × AreSentParts parts sent × IsCodeOf (CarriesNothing pass sent) code)
    ⊎ (code ≡ 3)

-- the handle keeps an envelope with these parts
abbrev pub TellsSent : Option HandleState → SentParts → Type 0
TellsSent envelope parts = (sent : SentAs) × IsSentAs envelope sent × AreSentParts parts sent

-- no server, layout or envelope is kept, and nothing was done; or the server refused the envelope, and the parts are
-- those of the record that was read; and the code says why
abbrev pub ComesBack :
    Option HandleState → Option HandleState → Option HandleState → Option HandleState → Option HandleState
    → RecordParts → RecordParts → ℕ → Type 0
ComesBack before after layout envelope kept unread read code =
    ((after ≡ before) × (kept ≡ envelope) × (read ≡ unread) × (code ≡ 1) × ServesNowhere before layout envelope)
    ⊎ ((refusal : Refusal) × Serves before after layout envelope kept (Refused refusal)
    × TellsRecord (refusal_read refusal) unread read × (code ≡ refusal_code refusal))

-- no shard has the number, and nothing was done; or the pass made no checkpoint of the shard, and the parts are those
-- of the record that was read; and the code says why
abbrev pub LeavesShard : Option HandleState → Option HandleState → ℕ → RecordParts → RecordParts → ℕ → Type 0
LeavesShard before after shard unread read code =
    ((after ≡ before) × (read ≡ unread) × (code ≡ 10) × (MAX_SHARD < shard))
    ⊎ ((fault : ActFault) × RefusesCheckpoint before after shard fault × TellsRecord (act_read fault) unread read
    × (code ≡ act_fault_code fault))
