-- The combined result of a server's steps.
use Rattle.std.proofs.Common.{◌≡◌, ◌<◌, ◌≤◌, ℕ, ◌+◌, Bool, true, List, length, refl, sym, ap, ◌∙◌, subst, inr}
use Rattle.std.proofs.Common.{arith}
use Rattle.std.specs.Prelude.{Option, Some, None, nat_lt}
use Rattle.std.proofs.lemmas.Bool.{cond_both}
use Rattle.std.proofs.lemmas.Bool.Decides.{nat_tests}
use Rattle.sm_body.specs.Service.{Meaning}
use Rattle.sm_envelope.specs.Envelope.{ShellView, shell_of, whole}
use Rattle.sm_envelope.specs.declared.envelope.TheConstants.{MOST_HOPS}
use Rattle.sm_ownership.specs.declared.admit_fault.AdmitFault.{AdmitFault}
use Rattle.sm_ownership.specs.declared.entry.Entry.{Entry}
use Rattle.sm_ownership.specs.declared.mode.Mode.{Mode}
use Rattle.sm_ownership.specs.declared.mode.Mode.TheVariants.{Forwarded}
use Rattle.sm_ownership.specs.declared.record.Record.{Record}
use Rattle.sm_ownership.specs.History.{NoneBy, kept}
use Rattle.sm_ownership.specs.Rules.{forward_to}
use Rattle.sm_rule.specs.declared.admit_refusal.AdmitRefusal.{AdmitRefusal}
use Rattle.sm_rule.specs.declared.admit_refusal.AdmitRefusal.TheVariants as admission
use Rattle.sm_rule.specs.Admissions.{PassAdmitted, Races, RefusedBy, fault_for}
use Rattle.sm_rule.specs.Boards.{BoardValue, limit_at}
use Rattle.sm_rule.specs.Passes.{PassLooks, PassValue, record_of}
use Rattle.sm_rule.specs.Views.{Begins}
use Rattle.sm_rule.specs.lemmas.Passing.{adds_begins, begins_begins, looks_begins, own_none}
use Rattle.sm_server.specs.declared.outcome.Outcome.{Outcome}
use Rattle.sm_server.specs.declared.outcome.Outcome.TheVariants.{Answered, Forward, Refused}
use Rattle.sm_server.specs.declared.refusal.Refusal.{Refusal}
use Rattle.sm_server.specs.declared.refusal.Refusal.TheVariants.{WrongShard, TooManyHops, Admit as NotAdmitted}
use Rattle.sm_server.specs.declared.refusal.Refusal.TheVariants.{KeptFull, NoMemory}
use Rattle.sm_server.specs.Answers.{AnswerValue}
use Rattle.sm_server.specs.Running.{HasRefused, IsHelper, Ran, WantsRoom, turned_away, turned_by}
use Rattle.sm_server.specs.Serving.{IsHandedBack, IsUnserved, NotForwarding, RefusedFor, Sent, Served}
use Rattle.sm_server.specs.Serving.{is_of_shard, limit_of, requests_in}
use Rattle.sm_server.specs.lemmas.Beginnings.{none_begins}
use Rattle.sm_server.proofs.Helpers.{none_grows}

abbrev pub with_note : {Q : Type 0} → Sent Q → PassValue Q → Sent Q
with_note envelope note = whole (shell_of envelope) envelope.request note

-- the admission of a server was refused, by the history that the note then has
module _ {Q R : Type 0} (service : Meaning Q R) (before : PassValue Q) (envelope back : Sent Q) (server : ℕ)
    (own_server : before.server ≡ Some server) (shell : shell_of back ≡ shell_of envelope)
    (handed : IsHandedBack envelope back) (seen : Begins before.seen back.note.seen) where
  hops_same : back.hops ≡ envelope.hops
  hops_same = ap (λ (one : ShellView). one.hops) shell

  not_admitted : (refusal : AdmitRefusal) → RefusedBy before back.note envelope.shard envelope.mode refusal
      → NotForwarding before.server refusal
      → Served {R = R} service true before envelope (Refused (NotAdmitted refusal) back)
  not_admitted refusal refused stays =
      (refl, handed, shell, record { seen = seen; refused = refused; stays = stays })

  turned_to : (fault : AdmitFault) (state : Record) (to : Option ℕ)
      → RefusedBy before back.note envelope.shard envelope.mode (admission.Refused fault state)
      → forward_to state server ≡ to
      → Served {R = R} service true before envelope (turned_by to fault state server back)
  turned_to fault state None refused forwards =
      not_admitted (admission.Refused fault state) refused
      (subst (λ (some : Option ℕ). NotForwarding some (admission.Refused fault state)) (sym own_server) forwards)
  turned_to fault state (Some to) refused forwards =
      let at_point : forward_to (record_of back.note envelope.shard) server ≡ Some to =
      ap (λ (one : Record). forward_to one server) (sym refused.0) ∙ forwards in
      cond_both (nat_lt back.hops MOST_HOPS) _ _
      (λ (outcome : Outcome (AnswerValue Q R) (Sent Q)). Served {R = R} service true before envelope outcome)
      (λ left. (
        refl,
        record { request = handed.request; board = handed.board; told = handed.told; idle = handed.idle },
        record {
          seen = seen;
          server = server;
          is_own = own_server;
          forwards = at_point;
          hops = subst (λ n. n < MOST_HOPS) hops_same (grind (arith, nat_tests));
          shell = ap (λ (one : ShellView). let hopped : ShellView = record {
            number = one.number;
            shard = one.shard;
            mode = Forwarded server;
            hops = one.hops + 1;
          } in hopped) shell;
        },
      ))
      (λ none. (
        refl,
        handed,
        shell,
        record {
          seen = seen;
          server = server;
          is_own = own_server;
          to = to;
          forwards = at_point;
          hops = subst (λ n. MOST_HOPS ≤ n) hops_same (grind (arith, nat_tests));
        },
      ))

  pub turned : (refusal : AdmitRefusal) → RefusedBy before back.note envelope.shard envelope.mode refusal
      → Served {R = R} service true before envelope (turned_away refusal server back)
  turned (admission.Raced read found) refused =
      not_admitted (admission.Raced read found) refused
      (subst (λ (some : Option ℕ). NotForwarding some (admission.Raced read found)) (sym own_server) tt)
  turned (admission.Refused fault state) refused = turned_to fault state (forward_to state server) refused refl

module _ {Q R : Type 0} (service : Meaning Q R) (before helper : PassValue Q) (envelope : Sent Q)
    (board : envelope.note.board ≡ before.board) (is : IsHelper before envelope.note helper) where
  refused_before : (point : PassValue Q) (mode : Mode) (refusal : AdmitRefusal)
      → RefusedBy helper point envelope.shard mode refusal → RefusedBy before point envelope.shard mode refusal
  refused_before point mode (admission.Refused fault state) refused = (
    refused.0,
    subst (λ (pair : BoardValue × Option ℕ). fault_for pair.0.limits.ceiling state pair.1 mode
        ≡ Some fault) (λ i. (is.board i, is.server i)) refused.1,
  )
  refused_before point mode (admission.Raced read found) refused =
      let free = subst (λ (pair : BoardValue × Option ℕ). fault_for pair.0.limits.ceiling read pair.1 mode ≡ None)
      (λ i. (is.board i, is.server i)) refused.0 in
      let race : Races before.board.limits helper.seen point.seen envelope.shard read found = subst (λ
      (one : BoardValue). Races one.limits helper.seen point.seen envelope.shard read found) is.board refused.1 in
      (free, (race.0, begins_begins before.seen helper.seen race.0 is.seen race.1, race.2, race.3, race.4, race.5))

  -- the helper was refused, and becomes the envelope's note
  helper_away : (point : PassValue Q) (server : ℕ) (refusal : AdmitRefusal) → before.server ≡ Some server
      → PassLooks helper point → RefusedBy helper point envelope.shard envelope.mode refusal
      → Served {R = R} service true before envelope (turned_away refusal server (with_note envelope point))
  helper_away point server refusal own_server looks refused =
      let point_board : point.board ≡ before.board = ap (λ (pass : PassValue Q). pass.board) looks.1 ∙ is.board in
      let more : Begins helper.seen point.seen = looks_begins helper point looks in
      turned service before envelope (with_note envelope point) server own_server refl
      (record {
        request = refl;
        board = point_board ∙ sym board;
        told = begins_begins envelope.note.seen helper.seen point.seen is.told more;
        idle = inr (ap requests_in (own_none point.number point.seen (none_grows helper point looks is.none)));
      })
      (begins_begins before.seen helper.seen point.seen is.seen more)
      refusal (refused_before point envelope.mode refusal refused)

  -- the helper was admitted
  module _ (begun : PassValue Q) (admitted : PassAdmitted helper envelope.shard envelope.mode begun) where
    begun_board : begun.board ≡ before.board
    begun_board = ap (λ (pass : PassValue Q). pass.board) admitted.2.1 ∙ is.board

    begun_server : begun.server ≡ before.server
    begun_server = ap (λ (pass : PassValue Q). pass.server) admitted.2.1 ∙ is.server

    begun_begins : Begins helper.seen begun.seen
    begun_begins = adds_begins helper begun envelope.shard _ admitted.2

    begun_number : begun.number ≡ helper.number
    begun_number = ap (λ (pass : PassValue Q). pass.number) admitted.2.1

    told_none : NoneBy helper.number envelope.note.seen
    told_none = none_begins helper.number envelope.note.seen helper.seen is.told is.none

    seen_since : (later : List (Entry Q)) → Begins begun.seen later → Begins before.seen later
    seen_since later more = begins_begins before.seen helper.seen later is.seen
        (begins_begins helper.seen begun.seen later begun_begins more)

    told_since : (later : List (Entry Q)) → Begins begun.seen later → Begins envelope.note.seen later
    told_since later more = begins_begins envelope.note.seen helper.seen later is.told
        (begins_begins helper.seen begun.seen later begun_begins more)

    unserved : (refusal : Refusal) (back : Sent Q) → HasRefused begun (shell_of envelope) envelope.request refusal back
        → IsUnserved before envelope back
    unserved refusal back ran = record {
      seen = seen_since back.note.seen ran.seen;
      server = ran.server;
      is_own = sym begun_server ∙ ran.is_own;
      ran = ran.ran;
    }

    refused_for : (refusal : Refusal) (back : Sent Q) → IsUnserved before envelope back
        → WantsRoom refusal (limit_of before envelope.shard) (length (kept back.note.seen envelope.shard))
        → RefusedFor before envelope back refusal
    refused_for KeptFull back is room = (is, room)
    refused_for NoMemory back is room = (is, room)
    refused_for WrongShard back is room = absurd room
    refused_for TooManyHops back is room = absurd room
    refused_for (NotAdmitted refusal) back is room = absurd room

    here_for : (refusal : Refusal) (limit count : ℕ) → WantsRoom refusal limit count → true ≡ is_of_shard refusal
    here_for KeptFull limit count room = refl
    here_for NoMemory limit count room = refl
    here_for WrongShard limit count room = absurd room
    here_for TooManyHops limit count room = absurd room
    here_for (NotAdmitted refusal) limit count room = absurd room

    helper_ran : (outcome : Outcome (AnswerValue Q R) (Sent Q)) → Ran service begun
        (shell_of envelope) envelope.request outcome → Served service true before envelope outcome
    helper_ran (Answered answer) ran = (
      refl,
      record {
        number = ran.number;
        server = sym begun_server ∙ ran.server;
        board = ran.board ∙ begun_board;
        seen = seen_since answer.note.seen ran.seen;
        told = told_since answer.note.seen ran.seen;
        unseen = subst (λ n. NoneBy n before.seen) (sym (ran.number_is ∙ begun_number))
            (none_begins helper.number before.seen helper.seen is.seen is.none);
        untold = subst (λ n. NoneBy n envelope.note.seen) (sym (ran.number_is ∙ begun_number)) told_none;
        executed = ran.executed;
      },
    )
    helper_ran (Forward to back) ran = absurd ran
    helper_ran (Refused refusal back) ran = (
      here_for refusal _ _ ran.room,
      record {
        request = ran.same_request;
        board = ran.board ∙ (begun_board ∙ sym board);
        told = told_since back.note.seen ran.seen;
        idle = inr (ap requests_in ran.ran);
      },
      ran.same_shell,
      refused_for refusal back (unserved refusal back ran) (subst (λ (one : BoardValue). WantsRoom refusal
          (limit_at one.limits envelope.shard) (length (kept back.note.seen envelope.shard))) begun_board ran.room),
    )

-- the result for an envelope that is here
pub is_told : {Q R : Type 0} (service : Meaning Q R) (tested here : Bool) (before : PassValue Q)
    (envelope : Sent Q) (outcome : Outcome (AnswerValue Q R) (Sent Q)) → tested ≡ here → tested ≡ true
    → Served service true before envelope outcome → Served service here before envelope outcome
is_told service tested here before envelope outcome is_here is told =
    subst (λ (b : Bool). Served service b before envelope outcome) (sym is ∙ is_here) told

-- an envelope that was taken apart, and a helper of a pass, which met its note
module _ {Q R : Type 0} (service : Meaning Q R) (pass helper note : PassValue Q) (envelope : Sent Q)
    (shell : ShellView) (request : Q) (shard server : ℕ) (mode : Mode) (board : BoardValue)
    (server_is : pass.server ≡ Some server) (of_pass : pass.board ≡ board) (of_note : envelope.note.board ≡ board)
    (shell_is : shell ≡ shell_of envelope) (request_is : request ≡ envelope.request) (note_is : note ≡ envelope.note)
    (is : IsHelper pass note helper) (shard_is : shard ≡ shell.shard) (mode_is : mode ≡ shell.mode) where
  same_board : envelope.note.board ≡ pass.board
  same_board = of_note ∙ sym of_pass

  is_own : IsHelper pass envelope.note helper
  is_own = subst (λ (told : PassValue Q). IsHelper pass told helper) note_is is

  shard_of : shard ≡ envelope.shard
  shard_of = shard_is ∙ ap (λ (one : ShellView). one.shard) shell_is

  mode_of : mode ≡ envelope.mode
  mode_of = mode_is ∙ ap (λ (one : ShellView). one.mode) shell_is

  pub went_in : (begun : PassValue Q) (outcome : Outcome (AnswerValue Q R) (Sent Q))
      → PassAdmitted helper shard mode begun → Ran service begun shell request outcome
      → Served service true pass envelope outcome
  went_in begun outcome admitted ran =
      helper_ran service pass helper envelope same_board is_own begun
      (subst (λ (pair : ℕ × Mode). PassAdmitted helper pair.0 pair.1 begun) (λ i. (shard_of i, mode_of i)) admitted)
      outcome
      (subst (λ (pair : ShellView × Q). Ran service begun pair.0 pair.1 outcome) (λ i. (shell_is i, request_is i)) ran)

  pub went_back : (point told : PassValue Q) (refusal : AdmitRefusal) (back : Sent Q)
      (outcome : Outcome (AnswerValue Q R) (Sent Q)) → PassLooks helper point
      → RefusedBy helper point shard mode refusal → told ≡ point → back ≡ whole shell request told
      → outcome ≡ turned_away refusal server back → Served service true pass envelope outcome
  went_back point told refusal back outcome looks refused told_is back_is outcome_is =
      let back_whole : back ≡ with_note envelope point =
      back_is ∙ (λ i. whole (shell_is i) (request_is i) (told_is i)) in
      subst (λ (one : Outcome (AnswerValue Q R) (Sent Q)). Served service true pass envelope one)
      (sym (outcome_is ∙ ap (turned_away refusal server) back_whole))
      (helper_away service pass helper envelope same_board is_own point server refusal server_is looks
      (subst (λ (pair : ℕ × Mode). RefusedBy helper point pair.0 pair.1 refusal)
      (λ i. (shard_of i, mode_of i)) refused))
