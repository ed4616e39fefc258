-- The call that a line of a script asks for.
use Rattle.std.specs.Prelude.{◌≡◌, ℕ, Bool, true, false, ◌==◌, IsOk, IsOkAnd, IsSomeAnd, IsTrue, if◌then◌else◌}
use Rattle.std.specs.Prelude.{List, [], ◌∷◌, length, nat_lt, codes, Option, None, Some, Result, Ok, Err}
use Rattle.std.specs.List.{join_with_byte}
use Rattle.std.specs.Option.{ok_or, option_map, option_map_or}
use Rattle.std.specs.Result.{result_map_both}
use Rattle.sm_script.specs.Answers.{line_fault_name}
use Rattle.sm_script.specs.Words.{words_of}
use Rattle.sm_script.specs.Numbers.{number, increment_of}
use Rattle.sm_script.specs.Forms.{FormRow, form_named, is_request, request_form_named}
use Rattle.sm_script.specs.Grammar.{arguments_fault}
use Rattle.sm_desk.specs.declared.command.Command.TheVariants as command
use Rattle.sm_ownership.specs.declared.change.Change.{Change}
use Rattle.sm_ownership.specs.declared.change.Change.TheVariants as change
use Rattle.sm_script.specs.declared.call.Call.{Call}
use Rattle.sm_script.specs.declared.call.Call.TheVariants as call
use Rattle.sm_script.specs.declared.fault.LineFault.{LineFault}
use Rattle.sm_script.specs.declared.fault.LineFault.TheVariants.{LineTooLong, UnknownWord, BadLine, BadNumber, NotHere}
use Rattle.sm_script.specs.declared.fault.ParseFault.{ParseFault}
use Rattle.sm_script.specs.declared.fault.ParseFault.TheVariants.{Line, NoMemory}
use Rattle.sm_script.specs.declared.line.TheConstants.{MAX_LINE}
use Rattle.sm_script.specs.declared.shape.Shape.{Shape}
use Rattle.sm_script.specs.declared.shape.Shape.TheVariants.{Shard, Server, Key, Text, Increment, Limit, Clients, Each}
use Rattle.sm_script.specs.declared.word.Word.{Word}
use Rattle.sm_script.specs.declared.word.Word.TheVariants.{Get, Put, Append, Inc, Del, Scan, At, Client, Look, Assign}
use Rattle.sm_script.specs.declared.word.Word.TheVariants.{PrepareAdd, PrepareDrop, Add, Drop, Cancel, Pause, Resume}
use Rattle.sm_script.specs.declared.word.Word.TheVariants.{Reassign, Hold, Free, Checkpoint, Publish, Route, Ask}
use Rattle.sm_script.specs.declared.word.Word.TheVariants.{Approve, Stopped, Back, Fail, Place, Drain, Load}
use Rattle.sm_service.specs.declared.request.Request.{Request}
use Rattle.sm_service.specs.declared.request.Request.TheVariants.{Get as GetRequest, Put as PutRequest}
use Rattle.sm_service.specs.declared.request.Request.TheVariants.{Append as AppendRequest}
use Rattle.sm_service.specs.declared.request.Request.TheVariants.{Inc as IncRequest, Del as DelRequest}
use Rattle.sm_service.specs.declared.request.Request.TheVariants.{Scan as ScanRequest}

-- the request of a word and the words after it, of these shapes, if nothing is wrong with them
abbrev pub request_with : List Shape → Word → List (List ℕ) → Result Request LineFault
request_with (Key ∷ []) Get (key ∷ []) = Ok (GetRequest key)
request_with (Key ∷ []) Del (key ∷ []) = Ok (DelRequest key)
request_with (Key ∷ Text ∷ []) Put (key ∷ text) = Ok (PutRequest key (join_with_byte 32 text))
request_with (Key ∷ Text ∷ []) Append (key ∷ tail) = Ok (AppendRequest key (join_with_byte 32 tail))
request_with (Key ∷ Increment ∷ []) Inc (key ∷ amount ∷ []) =
    ok_or (option_map (IncRequest key) (increment_of amount)) BadNumber
request_with (Key ∷ Key ∷ Limit ∷ []) Scan (low ∷ high ∷ most ∷ []) = Ok (ScanRequest low high (number most))
request_with _ _ _ = Err NotHere

-- a change of the shard
abbrev pub change_call : ℕ → Change → Call
change_call shard change = call.Control (command.Change shard change)

-- the call of a word and a shard; here and below, other words don't run with such words after them
abbrev pub shard_call : Word → ℕ → Result Call LineFault
shard_call PrepareDrop shard = Ok (change_call shard change.PrepareDropShard)
shard_call Add shard = Ok (change_call shard change.AddShard)
shard_call Drop shard = Ok (change_call shard change.DropShard)
shard_call Cancel shard = Ok (change_call shard change.Cancel)
shard_call Pause shard = Ok (change_call shard change.Pause)
shard_call Resume shard = Ok (change_call shard change.Resume)
shard_call Free shard = Ok (call.Free shard)
shard_call Publish shard = Ok (call.Publish shard)
shard_call Look shard = Ok (call.Look shard)
shard_call _ shard = Err NotHere

-- the call of a word and a server
abbrev pub server_call : Word → ℕ → Result Call LineFault
server_call Ask server = Ok (call.Control (command.Ask server))
server_call Approve server = Ok (call.Control (command.Approve server))
server_call Stopped server = Ok (call.Control (command.Stopped server))
server_call Back server = Ok (call.Control (command.Back server))
server_call Fail server = Ok (call.Control (command.Fail server))
server_call Drain server = Ok (call.Drain server)
server_call _ server = Err NotHere

-- the call of a word, a shard and a server
abbrev pub shard_and_server_call : Word → ℕ → ℕ → Result Call LineFault
shard_and_server_call Assign shard server = Ok (change_call shard (change.Assign server))
shard_and_server_call PrepareAdd shard server = Ok (change_call shard (change.PrepareAddShard server))
shard_and_server_call Reassign shard server = Ok (change_call shard (change.Reassign server))
shard_and_server_call Hold shard server = Ok (call.Hold shard server)
shard_and_server_call Checkpoint shard server = Ok (call.Checkpoint shard server)
shard_and_server_call _ shard server = Err NotHere

-- the call of a word that isn't a request, and of the words after it, of these shapes, if nothing is wrong with them
abbrev pub call_with : List Shape → Word → List (List ℕ) → Result Call LineFault
call_with [] Place [] = Ok call.Place
call_with (Shard ∷ []) word (shard ∷ []) = shard_call word (number shard)
call_with (Server ∷ []) word (server ∷ []) = server_call word (number server)
call_with (Shard ∷ Server ∷ []) word (shard ∷ server ∷ []) = shard_and_server_call word (number shard) (number server)
call_with (Key ∷ []) Route (key ∷ []) = Ok (call.Route key)
call_with (Key ∷ Clients ∷ Each ∷ []) Load (key ∷ clients ∷ each ∷ []) =
    Ok (call.Load key (number clients) (number each))
call_with _ _ _ = Err NotHere

-- the request of a row and the words after its own, made into a call
abbrev pub request_call : (Request → Call) → FormRow → List (List ℕ) → Result Call LineFault
request_call made row words = option_map_or Err (arguments_fault row.shapes words)
    (result_map_both made (λ fault. fault) (request_with row.shapes row.word words))

-- the call of a row and the words after its own
abbrev pub plain_call : FormRow → List (List ℕ) → Result Call LineFault
plain_call row words =
    if is_request row.topic then request_call call.Request row words
    else option_map_or Err (arguments_fault row.shapes words) (call_with row.shapes row.word words)

-- the request of a row and the words after its own, to the server
abbrev pub at_server : List ℕ → FormRow → List (List ℕ) → Result Call LineFault
at_server server row words = option_map_or Err (arguments_fault (Server ∷ row.shapes) (server ∷ words))
    (result_map_both (call.RequestAt (number server)) (λ fault. fault) (request_with row.shapes row.word words))

-- the call of the words after `at`: a server, and a request. If there is no such request, that is the first fault
abbrev pub at_call : List (List ℕ) → Result Call LineFault
at_call (server ∷ request ∷ words) =
    option_map_or (λ row. at_server server row words) (request_form_named request) (Err UnknownWord)
at_call _ = Err BadLine

-- the call of the words after `client`: a request
abbrev pub client_call : List (List ℕ) → Result Call LineFault
client_call (request ∷ words) =
    option_map_or (λ row. request_call call.RequestByRoute row words) (request_form_named request) (Err UnknownWord)
client_call [] = Err BadLine

-- the call of a line, by its kind, by its row, and by the words after its own
abbrev pub call_as : Word → FormRow → List (List ℕ) → Result Call LineFault
call_as At row words = at_call words
call_as Client row words = client_call words
call_as _ row words = plain_call row words

-- the call of the words of a line: the first word decides how the others are read
abbrev pub call_of_words : List (List ℕ) → Result Call LineFault
call_of_words [] = Err UnknownWord
call_of_words (first ∷ words) = option_map_or (λ row. call_as row.word row words) (form_named first) (Err UnknownWord)

-- an empty line and a comment ask for nothing, and have no answer
abbrev pub has_no_answer : List ℕ → Bool
has_no_answer [] = true
has_no_answer (byte ∷ bytes) = byte == 35

-- the call that the line asks for, if it asks for one
unfoldable pub call_of_line : List ℕ → Result (Option Call) LineFault
call_of_line line =
    if has_no_answer line then Ok None
    else (if nat_lt MAX_LINE (length line) then Err LineTooLong
    else result_map_both Some (λ fault. fault) (call_of_words (words_of line)))

-- the call takes memory
abbrev pub has_request : Call → Bool
has_request (call.Request request) = true
has_request (call.RequestAt server request) = true
has_request (call.RequestByRoute request) = true
has_request (call.Route key) = true
has_request (call.Load key clients each) = true
has_request _ = false

-- why there is no request: the fault, or want of memory for it
abbrev pub IsRequestFault : ParseFault → Result Request LineFault → Type 0
IsRequestFault (Line fault) request = request ≡ Err fault
IsRequestFault NoMemory request = IsOk request

-- why there is no call: the fault, or want of memory for its request
abbrev pub IsFaultIn : ParseFault → Result Call LineFault → Type 0
IsFaultIn (Line fault) asked = asked ≡ Err fault
IsFaultIn NoMemory asked = IsOkAnd asked (λ made. IsTrue (has_request made))

-- why a whole line makes no call: the fault, or want of memory for its request
abbrev pub IsFaultOf : ParseFault → Result (Option Call) LineFault → Type 0
IsFaultOf (Line fault) meaning = meaning ≡ Err fault
IsFaultOf NoMemory meaning = IsOkAnd meaning (λ asked. IsSomeAnd asked (λ made. IsTrue (has_request made)))

-- the meaning of a line beyond the limit: it asks for nothing, or has a fault
abbrev pub meaning_if_long : Option LineFault → Result (Option Call) LineFault
meaning_if_long None = Ok None
meaning_if_long (Some fault) = Err fault

-- the text of an answer that says why there is no call
abbrev pub parse_fault_text : ParseFault → List ℕ
parse_fault_text (Line fault) = line_fault_name fault
parse_fault_text NoMemory = codes "out of memory"
