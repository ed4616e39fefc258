-- From the fault of a line's words to the fault of the line.
use Rattle.std.proofs.Common.{◌≡◌, ◌≤◌, false, ℕ, List, length, rules, Option, Some, None, Result, Ok, Err, IsTrue}
use Rattle.std.proofs.Common.{nat_lt, arith}
use Rattle.sm_script.specs.declared.call.Call.{Call}
use Rattle.sm_script.specs.declared.fault.LineFault.{LineFault}
use Rattle.sm_script.specs.declared.fault.ParseFault.{ParseFault}
use Rattle.sm_script.specs.declared.fault.ParseFault.TheVariants.{Line, NoMemory}
use Rattle.sm_script.specs.declared.line.TheConstants.{MAX_LINE}
use Rattle.std.specs.Option.{option_map_or}
use Rattle.std.specs.Result.{result_map_both}
use Rattle.sm_script.specs.Lines.{IsFaultIn, IsFaultOf, IsRequestFault, has_no_answer, has_request}
use Rattle.sm_script.specs.Lines.{call_of_words, call_of_line}
use Rattle.sm_script.specs.Words.{words_of}
use Rattle.sm_service.specs.declared.request.Request.{Request}

-- the reason for which the words give no call is the reason for which the line gives none
some_fault : (fault : ParseFault) (asked : Result Call LineFault) → IsFaultIn fault asked
    → IsFaultOf fault (result_map_both Some (λ fault. fault) asked)
some_fault (Line fault) (Ok asked) is = cc
some_fault (Line fault) (Err other) is = cc
some_fault NoMemory (Ok asked) has = has
some_fault NoMemory (Err fault) has = absurd has

pub fault_of_line : (line : List ℕ) (words : List (List ℕ)) (fault : ParseFault) → has_no_answer line ≡ false
    → length line ≤ MAX_LINE
    → words ≡ words_of line → IsFaultIn fault (call_of_words words) → IsFaultOf fault (call_of_line line)
unfolding call_of_line
fault_of_line line words fault answered short view is =
    let within : nat_lt MAX_LINE (length line) ≡ false = grind (arith) in
    rw (answered, within, ← view) (some_fault fault (call_of_words words) is)

-- the reason for which there is no request is the reason for which there is no call that makes it
pub fault_of_request : (made : Request → Call) (none : Option LineFault) (asked : Result Request LineFault)
    (fault : ParseFault) → ((request : Request) → IsTrue (has_request (made request))) → none ≡ None
    → IsRequestFault fault asked
    → IsFaultIn fault (option_map_or Err none (result_map_both made (λ fault. fault) asked))
fault_of_request made (Some other) asked fault has is why = absurd (cc)
fault_of_request made None (Ok request) (Line fault) has is why = absurd (cc)
fault_of_request made None (Err other) (Line fault) has is why = cc
fault_of_request made None (Ok request) NoMemory has is why = has request
fault_of_request made None (Err fault) NoMemory has is why = search rules
