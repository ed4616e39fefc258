-- The history and the acts of a helper.
use Rattle.std.proofs.Common.{◌≡◌, ◌≢◌, ◌<◌, ◌≤◌, ℕ, ◌+◌, List, [], ◌∷◌, ◌++◌, length, refl, sym, ap, ◌∙◌, subst}
use Rattle.std.proofs.Common.{length-append, arith}
use Rattle.std.specs.Prelude.{IfErr, IfOk, OnErr, OnOk, Option, Some, None, Result, Ok, Err, drop, slice_get, take}
use Rattle.std.specs.Prelude.{unwrap_or}
use Rattle.std.specs.Option.{option_map}
use Rattle.std.proofs.lemmas.Bool.{eq-eqb}
use Rattle.std.proofs.lemmas.List.{append-nil, length-drop, take_at}
use Rattle.std.proofs.lemmas.List.Elements.{All-append}
use Rattle.sm_body.specs.Service.{Meaning}
use Rattle.sm_body.specs.declared.service.ApplyFault.{ApplyFault}
use Rattle.sm_body.specs.declared.service.ApplyFault.TheVariants as apply
use Rattle.sm_envelope.specs.Envelope.{ShellView, shell_of, whole}
use Rattle.sm_ownership.specs.declared.entry.Ending.{Ending}
use Rattle.sm_ownership.specs.declared.entry.Ending.TheVariants.{Nothing, Request}
use Rattle.sm_ownership.specs.declared.entry.Entry.{Entry}
use Rattle.sm_ownership.specs.declared.entry.Kind.{Kind}
use Rattle.sm_ownership.specs.declared.entry.Kind.TheVariants.{Admit, Done}
use Rattle.sm_ownership.specs.declared.mode.Mode.{Mode}
use Rattle.sm_ownership.specs.History.{NoneBy, all_of, kept, said}
use Rattle.sm_rule.specs.Admissions.{PassAdmitted}
use Rattle.sm_rule.specs.Boards.{BoardValue, limit_at}
use Rattle.sm_rule.specs.Passes.{PassAdds, PassLooks, PassValue, own}
use Rattle.sm_rule.specs.Views.{Begins, IsMet, all_held, entry_of}
use Rattle.sm_rule.specs.lemmas.Passing.{adds_begins, begins_begins, looks_begins, met_begins, own_grows, own_none}
use Rattle.sm_server.specs.Answers.{AnswerValue, IsAnswer, run_of}
use Rattle.sm_server.specs.Running.{HasBegun, HasRefused, HasRun, IsHelper, WantsRoom, refusal_of}
use Rattle.sm_server.specs.Serving.{Sent, limit_of}
use Rattle.sm_server.specs.declared.refusal.Refusal.{Refusal}

-- entries by others, after entries by others
pub none_grows : {Q : Type 0} (before after : PassValue Q) → PassLooks before after → NoneBy before.number before.seen
    → NoneBy after.number after.seen
none_grows {Q} before after looks none =
    let number : after.number ≡ before.number = ap (λ (pass : PassValue Q). pass.number) looks.1 in
    let longer : after.seen ≡ before.seen ++ looks.0.0 = looks.0.1 ∙ append-nil (before.seen ++ looks.0.0) in
    subst (λ n. NoneBy n after.seen) (sym number)
    (subst (NoneBy before.number) (sym longer)
    (All-append (λ entry. entry.actor ≢ before.number) before.seen looks.0.0 none looks.0.2))

-- a new pass that met the note is a helper
pub new_helper : {Q : Type 0} (pass note new helper : PassValue Q) → new.board ≡ pass.board → new.server ≡ pass.server
    → new.held ≡ None → NoneBy new.number new.seen → Begins pass.seen new.seen → PassLooks new helper
    → IsMet note.number note.seen helper.seen → IsHelper pass note helper
new_helper {Q} pass note new helper board server held none seen looks met = record {
  board = ap (λ (one : PassValue Q). one.board) looks.1 ∙ board;
  server = ap (λ (one : PassValue Q). one.server) looks.1 ∙ server;
  held = ap (λ (one : PassValue Q). one.held) looks.1 ∙ held;
  none = none_grows new helper looks none;
  seen = begins_begins pass.seen new.seen helper.seen seen (looks_begins new helper looks);
  told = met_begins note.number note.seen helper.seen met;
}

own_one : {Q : Type 0} (number shard : ℕ) (kind : Kind Q)
    → own number (entry_of number shard kind ∷ []) ≡ entry_of number shard kind ∷ []
own_one number shard kind = rw (eq-eqb number number refl) refl

-- the own entries of a pass after one more
module _ {Q : Type 0} (before after : PassValue Q) (shard : ℕ) (kind : Kind Q)
    (adds : PassAdds before shard kind after) where
  number_stays : after.number ≡ before.number
  number_stays = ap (λ (pass : PassValue Q). pass.number) adds.1

  adds_own : own after.number after.seen ≡ own before.number before.seen ++ entry_of after.number shard kind ∷ []
  adds_own =
      subst (λ n. own n after.seen ≡ own before.number before.seen ++ entry_of n shard kind ∷ []) (sym number_stays)
      (own_grows before.board.limits before.number before.seen after.seen
      (entry_of before.number shard kind ∷ []) adds.0
      ∙ ap (λ entries. own before.number before.seen ++ entries) (own_one before.number shard kind))

  adds_last : (earlier : List (Entry Q)) × (after.seen ≡ earlier ++ entry_of after.number shard kind ∷ [])
  adds_last =
      subst (λ n. (earlier : List (Entry Q)) × (after.seen ≡ earlier ++ entry_of n shard kind ∷ [])) (sym number_stays)
      (before.seen ++ adds.0.0, adds.0.1)

-- the helper was admitted
pub begun : {Q : Type 0} (pass note helper after : PassValue Q) (shell : ShellView) (shard server : ℕ) (mode : Mode)
    → IsHelper pass note helper → pass.server ≡ Some server → shard ≡ shell.shard → mode ≡ shell.mode
    → PassAdmitted helper shard mode after → HasBegun after shell.shard server shell.mode
begun {Q} pass note helper after shell shard server mode is server_is shard_is mode_is admitted =
    let own : PassAdmitted helper shell.shard shell.mode after =
    subst (λ (pair : ℕ × Mode). PassAdmitted helper pair.0 pair.1 after) (λ i. (shard_is i, mode_is i)) admitted in
    let own_server : helper.server ≡ Some server = is.server ∙ server_is in
    let adds : PassAdds helper shell.shard (Admit server shell.mode) after =
    subst (λ (some : Option ℕ). PassAdds helper shell.shard (Admit (unwrap_or some own.0) shell.mode) after)
    (sym own.1 ∙ own_server) own.2 in
    record {
      own_server = ap (λ (one : PassValue Q). one.server) adds.1 ∙ own_server;
      did = adds_own helper after shell.shard (Admit server shell.mode) adds
          ∙ ap (λ entries. entries ++ entry_of after.number shell.shard (Admit server shell.mode) ∷ [])
          (own_none helper.number helper.seen is.none);
    }

-- the helper ended its admission
pub run_ended : {Q : Type 0} (helper after : PassValue Q) (shard server : ℕ) (mode : Mode) (ending : Ending Q)
    → HasBegun helper shard server mode → PassAdds helper shard (Done ending) after
    → own after.number after.seen ≡ run_of after.number shard server mode ending
run_ended {Q} helper after shard server mode ending begun adds =
    adds_own helper after shard (Done ending) adds
    ∙ ap (λ entries. entries ++ entry_of after.number shard (Done ending) ∷ [])
    (subst (λ n. own helper.number helper.seen ≡ entry_of n shard (Admit server mode) ∷ [])
    (sym (number_stays helper after shard (Done ending) adds)) begun.did)

slice_get-middle : {Q : Type 0} (before : List Q) (request : Q)
    → slice_get (before ++ request ∷ []) (length before) ≡ Some request
slice_get-middle [] request = refl
slice_get-middle (one ∷ before) request = slice_get-middle before request

-- the reply at the last place
said_last : {Q R : Type 0} (reply_of : List Q → Q → R) (all before : List Q) (request : Q)
    → all ≡ before ++ request ∷ [] → option_map (λ (q : Q). reply_of (take (length before) all) q)
    (slice_get all (length before)) ≡ Some (reply_of before request)
said_last reply_of all before request is =
    rw is (rw (slice_get-middle before request, take_at before (request ∷ []) (length before) refl) refl)

-- the helper's note is that of an answer
pub is_answer : {Q R : Type 0} (service : Meaning Q R) (helper : PassValue Q) (shard : ℕ) (mode : Mode) (request : Q)
    (answer : AnswerValue Q R) (before : List Q) → HasBegun helper shard answer.server mode
    → PassAdds helper shard (Done (Request request)) answer.note
    → all_of answer.note.seen shard ≡ before ++ request ∷ [] → answer.place ≡ length before
    → answer.reply ≡ service.reply_of before request → IsAnswer service shard mode request answer
is_answer {Q} {R} service helper shard mode request answer before begun adds all place reply = record {
  server = ap (λ (one : PassValue Q). one.server) adds.1 ∙ begun.own_server;
  ran = run_ended helper answer.note shard answer.server mode (Request request) begun adds;
  last = adds_last helper answer.note shard (Done (Request request)) adds;
  place = ap (λ n. n + 1) place ∙ sym (ap length all ∙ length-append before (request ∷ []));
  reply =
      ap (λ n. said service.reply_of answer.note.seen shard n) place
      ∙ (said_last service.reply_of (all_of answer.note.seen shard) before request all ∙ ap Some (sym reply));
}

-- a helper executed the request
executed : {Q R : Type 0} (service : Meaning Q R) (helper after : PassValue Q) (shell : ShellView) (request : Q)
    (answer : AnswerValue Q R) (shard : ℕ) (before : List Q) → answer.note ≡ after → shard ≡ shell.shard
    → answer.number ≡ shell.number → HasBegun helper shell.shard answer.server shell.mode → PassAdds helper shard
    (Done (Request request)) after → all_of after.seen shard ≡ before ++ request ∷ [] → answer.place ≡ length before
    → answer.reply ≡ service.reply_of before request → HasRun service helper shell request answer
executed {Q}
    {R} service helper after shell request answer shard before note shard_is number begun adds all place reply =
    let own_adds : PassAdds helper shell.shard (Done (Request request)) answer.note =
    subst (λ (pair : ℕ × PassValue Q). PassAdds helper pair.0 (Done (Request request)) pair.1)
    (λ i. (shard_is i, sym note i)) adds in
    let own_all : all_of answer.note.seen shell.shard ≡ before ++ request ∷ [] =
    subst (λ (pair : ℕ × PassValue Q). all_of pair.1.seen pair.0 ≡ before ++ request ∷ [])
    (λ i. (shard_is i, sym note i)) all in
    record {
      number = number;
      server = begun.own_server;
      board = ap (λ (one : PassValue Q). one.board) own_adds.1;
      number_is = number_stays helper answer.note shell.shard (Done (Request request)) own_adds;
      seen = adds_begins helper answer.note shell.shard (Done (Request request)) own_adds;
      executed =
          is_answer service helper shell.shard shell.mode request answer before begun own_adds own_all place reply;
    }

-- the body applied the request
pub answered : {Q R E : Type 0} (service : Meaning Q R) (helper after note : PassValue Q) (shell : ShellView)
    (request : Q) (server shard number place : ℕ) (result : Result R E) (reply : R) → result ≡ Ok reply → note ≡ after
    → shard ≡ shell.shard → number ≡ shell.number → HasBegun helper shell.shard server shell.mode
    → OnOk result (PassAdds helper shard (Done (Request request)) after)
    → OnOk result (all_of after.seen shard ≡ all_held helper.held ++ request ∷ [])
    → IfOk result (λ one. one ≡ service.reply_of (all_held helper.held) request) → place ≡ length (all_held helper.held)
    → HasRun service helper shell request
    (record { number = number; server = server; reply = reply; place = place; note = note })
answered service helper after note shell request server shard number place
    (Ok one) reply is told shard_is number_is begun adds all reply_is place_is =
    let same : one ≡ reply = cc in
    executed service helper after shell request
    (record { number = number; server = server; reply = reply; place = place; note = note }) shard
    (all_held helper.held) told shard_is number_is begun adds all place_is (sym same ∙ reply_is)
answered service helper after note shell request server shard number place
    (Err fault) reply is told shard_is number_is begun adds all reply_is place_is = cc

-- the requests before the base of a body, and those since, are all
count_all : {Q : Type 0} (first count : ℕ) (all list : List Q) → first ≤ length all → list ≡ drop first all
    → count ≡ first + length list → count ≡ length all
count_all first count all list within is counted =
    let long = ap length is ∙ length-drop first all in
    omega (arith, long)

-- the place of a request at a borrowed body, of which so many came before its base
pub place_of : {S Q : Type 0} (before : S → ℕ) (requests : S → List Q) (given lent : S) (first place : ℕ) (all : List Q)
    → lent ≡ given → first ≤ length all → before given ≡ first → requests given ≡ drop first all
    → place ≡ before lent + length (requests lent) → place ≡ length all
place_of before requests given lent first place all is_lent within based list counted =
    count_all first place all (requests lent) within (ap requests is_lent ∙ list)
    (counted ∙ ap (λ n. n + length (requests lent)) (ap before is_lent ∙ based))

-- the limit of a body that was lent and settled
pub limit_settled : {S Q : Type 0} (limit : S → ℕ) (helper : PassValue Q) (board : BoardValue) (given lent settled : S)
    (shard : ℕ) → limit settled ≡ limit lent → lent ≡ given → limit given ≡ limit_at board.limits shard
    → helper.board ≡ board → limit settled ≡ limit_of helper shard
limit_settled limit helper board given lent settled shard stays is_lent given_is of_board =
    stays ∙ (ap limit is_lent ∙ (given_is ∙ ap (λ (one : BoardValue). limit_at one.limits shard) (sym of_board)))

-- a helper ended its admission with nothing
unexecuted : {Q : Type 0} (helper after : PassValue Q) (shell : ShellView) (request : Q) (server : ℕ)
    (refusal : Refusal) (back : Sent Q) (shard : ℕ) → shell_of back ≡ shell → back.request ≡ request → back.note ≡ after
    → shard ≡ shell.shard → HasBegun helper shell.shard server shell.mode → PassAdds helper shard (Done Nothing) after
    → WantsRoom refusal (limit_of helper shard) (length (kept after.seen shard))
    → HasRefused helper shell request refusal back
unexecuted
    {Q} helper after shell request server refusal back shard same_shell same_request note shard_is begun adds room =
    let own_adds : PassAdds helper shell.shard (Done Nothing) back.note =
    subst (λ (pair : ℕ × PassValue Q). PassAdds helper pair.0 (Done Nothing) pair.1)
    (λ i. (shard_is i, sym note i)) adds in
    record {
      same_shell = same_shell;
      same_request = same_request;
      board = ap (λ (one : PassValue Q). one.board) own_adds.1;
      seen = adds_begins helper back.note shell.shard (Done Nothing) own_adds;
      server = server;
      is_own = begun.own_server;
      ran = run_ended helper back.note shell.shard server shell.mode Nothing begun own_adds;
      room = subst (λ (pair : ℕ × PassValue Q). WantsRoom refusal (limit_of helper pair.0)
          (length (kept pair.1.seen pair.0))) (λ i. (shard_is i, sym note i)) room;
    }

-- the reason for which the body didn't apply the request tells the room that there was
room_by : (fault : ApplyFault) (limit count : ℕ) → (fault ≡ apply.KeptFull → limit ≤ count)
    → (fault ≡ apply.NoMemory → count < limit) → WantsRoom (refusal_of fault) limit count
room_by apply.KeptFull limit count full no_memory = full refl
room_by apply.NoMemory limit count full no_memory = no_memory refl

room_left : {Q : Type 0} (helper after : PassValue Q) (shard limit : ℕ) (list : List Q) (fault : ApplyFault)
    (refusal : Refusal) → refusal ≡ refusal_of fault → limit ≡ limit_of helper shard → kept after.seen shard ≡ list
    → (fault ≡ apply.KeptFull → limit ≤ length list) → (fault ≡ apply.NoMemory → length list < limit)
    → WantsRoom refusal (limit_of helper shard) (length (kept after.seen shard))
room_left helper after shard limit list fault refusal named limit_is unchanged full no_memory =
    subst (λ (found : Refusal × ℕ × ℕ). WantsRoom found.0 found.1 found.2)
    (λ i. (sym named i, limit_is i, length (sym unchanged i))) (room_by fault limit (length list) full no_memory)

-- the body didn't apply the request, which comes back
pub refused :
    {Q R : Type 0} (helper after note : PassValue Q) (shell : ShellView) (request back : Q) (server shard limit : ℕ)
    (list : List Q) (fault : ApplyFault) (refusal : Refusal) (envelope : Sent Q) (result : Result R (Q × ApplyFault))
    → result ≡ Err (back, fault) → note ≡ after → shard ≡ shell.shard → HasBegun helper shell.shard server shell.mode
    → OnErr result (PassAdds helper shard (Done Nothing) after) → OnErr result (kept after.seen shard ≡ list)
    → IfErr result (λ pair. pair.0 ≡ request) → IfErr result (λ pair. pair.1 ≡ apply.KeptFull → limit ≤ length list)
    → IfErr result (λ pair. pair.1 ≡ apply.NoMemory → length list < limit) → limit ≡ limit_of helper shard
    → refusal ≡ refusal_of fault → envelope ≡ whole shell back note → HasRefused helper shell request refusal envelope
refused {Q} helper after note shell request back server shard limit list fault refusal envelope
    (Err pair) is told shard_is begun adds unchanged handed full no_memory limit_is named whole_is =
    let same : pair ≡ (back, fault) = cc in
    let own_handed : back ≡ request = subst (λ (one : Q × ApplyFault). one.0 ≡ request) same handed in
    let own_full : fault ≡ apply.KeptFull → limit ≤ length list =
    subst (λ (one : Q × ApplyFault). one.1 ≡ apply.KeptFull → limit ≤ length list) same full in
    let own_no_memory : fault ≡ apply.NoMemory → length list < limit =
    subst (λ (one : Q × ApplyFault). one.1 ≡ apply.NoMemory → length list < limit) same no_memory in
    unexecuted helper after shell request server refusal envelope shard
    (ap (λ (one : Sent Q). shell_of one) whole_is)
    (ap (λ (one : Sent Q). one.request) whole_is ∙ own_handed)
    (ap (λ (one : Sent Q). one.note) whole_is ∙ told)
    shard_is begun adds
    (room_left helper after shard limit list fault refusal named limit_is unchanged own_full own_no_memory)
refused helper after note shell request back server shard limit list fault refusal envelope
    (Ok reply) is told shard_is begun adds unchanged handed full no_memory limit_is named whole_is = cc
