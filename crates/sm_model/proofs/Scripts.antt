-- A session of the model writes the script of the bytes that it reads.
use Rattle.std.proofs.Common.{◌≡◌, true, false, ◌++◌, ◌∷◌, [], ℕ, List, drop, ap, sym, ◌∙◌, subst, inl, inr, Option}
use Rattle.std.proofs.Common.{Some, None, Result, Ok, Err, IsErr, IsOk, OnOk, refl, append-nil}
use Rattle.std.proofs.lemmas.Bool.{false≢true}
use Rattle.sm_lines.specs.declared.run_fault.RunFault.{RunFault}
use Rattle.sm_lines.specs.declared.begin_fault.BeginFault.TheVariants as begin
use Rattle.sm_settings.specs.declared.settings_fault.SettingsFault.{SettingsFault}
use Rattle.sm_lines.specs.declared.status.Status.{Status}
use Rattle.sm_lines.specs.declared.status.Status.TheVariants.{Ran, BadSettings}
use Rattle.std.specs.Option.{option_map}
use Rattle.std.specs.Prelude.{unwrap_or}
use Rattle.sm_lines.specs.Answers.{AnswersLine, AnswersAll}
use Rattle.sm_lines.specs.Lines.{lines_of}
use Rattle.sm_lines.specs.Reading.{to_come, Reading, TookLines}
use Rattle.sm_lines.specs.Transcripts.{Transcript}
use Rattle.sm_lines.specs.Writing.{Wrote}
use Rattle.sm_lines.specs.lemmas.Taking.{lines_ahead}
use Rattle.sm_script.specs.declared.line.TheConstants.{MAX_LINE}
use Rattle.sm_script.specs.Lines.{call_of_line}
use Rattle.sm_script.specs.declared.call.Call.{Call}
use Rattle.sm_script.specs.declared.fault.LineFault.{LineFault}
use Rattle.sm_script.specs.declared.line_answer.LineAnswer.{LineAnswer}
use Rattle.sm_service.specs.declared.request.Request.{Request}
use Rattle.sm_settings.specs.SettingsLine.{SettingsValues, settings_of}
use Rattle.sm_settings.specs.lemmas.LongLines.{settings_of_long}
use Rattle.sm_table.specs.Standing.{WorldView}
use Rattle.sm_table.specs.World.{WorldState, empty_world}
use Rattle.sm_model.specs.Calls.{settings_frame}
use Rattle.sm_session.specs.LongLines.{RespondsLong}
use Rattle.sm_session.specs.lemmas.Lengths.{responds_any}
use Rattle.sm_session.specs.Responses.{Responds, RespondsTo, answer_line}
use Rattle.sm_model.specs.Sessions.{GivesAnswer, IsAt, IsNew}
use Rattle.sm_model.specs.Runs.{AcceptsSettings, WritesScript, WroteScript, RefusesSettings}
use Rattle.sm_lines.specs.Openings.{BeginsLine, HasNone, IfKnown, IsRefused, RefusedScript, RefusesLine, RefusesRead}
use Rattle.sm_lines.specs.Openings.{settings_in}
use Rattle.sm_lines.specs.Runs.{RanScript, Unbegun, WritesFor}
use Rattle.sm_model.specs.Script.{line_response, responded, responses, script, script_with}

-- the answer of a session of the model to a line, within the limit or beyond it
abbrev pub Gives : WorldView Request → List ℕ → List ℕ → WorldView Request → Type 0
Gives = AnswersLine (Responds GivesAnswer) (λ _ start text. RespondsLong start text) MAX_LINE

pub record IsResponse (w : WorldState Request) (line text : List ℕ) (after : WorldView Request) : Type 0 where
  pub text_is : text ≡ (line_response w line).0
  pub stands : IsAt after (line_response w line).1

-- a line that was read in this way has the response of the definitions
read_response : (before : WorldView Request) (w : WorldState Request) (read : Result (Option Call) LineFault)
    (text : List ℕ) (after : WorldView Request)
    → IsAt before w → RespondsTo GivesAnswer before read text after
    → (text ≡ (responded w read).0) × IsAt after (responded w read).1
read_response before w (Err fault) text after at gives =
    (gives.0, subst (λ (view : WorldView Request). IsAt view w) (sym gives.1) at)
read_response before w (Ok None) text after at gives =
    (gives.0, subst (λ (view : WorldView Request). IsAt view w) (sym gives.1) at)
read_response before w (Ok (Some call)) text after at (answer, is, gives) =
    let given = gives w at in
    (is ∙ sym (ap (λ (one : Option LineAnswer). unwrap_or (option_map answer_line one) []) given.0), given.1)

-- each line has the response of the definitions
gives_response : (before : WorldView Request) (w : WorldState Request) (line text : List ℕ) (after : WorldView Request)
    → IsAt before w → Gives before line text after → IsResponse w line text after
gives_response before w line text after at gives =
    let answered = read_response before w (call_of_line line) text after at
    (responds_any GivesAnswer before line text after gives) in
    record { text_is = answered.0; stands = answered.1 }

-- all lines have the responses of the definitions
gives_responses : (lines : List (List ℕ)) (before : WorldView Request) (w : WorldState Request) (text : List ℕ)
    (after : WorldView Request)
    → IsAt before w → AnswersAll Gives before lines text after → text ≡ responses w lines
gives_responses [] before w text after at all = all.0
gives_responses (line ∷ lines) before w text after at (first, rest, between, is, gives, all) =
    then_rest w line lines text first rest between is (gives_response before w line first between at gives)
    (λ stands. gives_responses lines between (line_response w line).1 rest after stands all)
  where
    then_rest : (w : WorldState Request) (line : List ℕ) (lines : List (List ℕ)) (text first rest : List ℕ)
        (between : WorldView Request)
        → text ≡ first ++ rest → IsResponse w line first between
        → (IsAt between (line_response w line).1 → rest ≡ responses (line_response w line).1 lines)
        → text ≡ responses w (line ∷ lines)
    then_rest w line lines text first rest between is one more =
        is ∙ ap (λ (t : List ℕ). t ++ rest) one.text_is
        ∙ ap (λ (t : List ℕ). (line_response w line).0 ++ t) (more one.stands)

script_is : (bytes first : List ℕ) (lines : List (List ℕ)) (settings : SettingsValues)
    → lines_of bytes ≡ first ∷ lines → settings_of first ≡ Ok settings
    → responses (empty_world (settings_frame settings)) lines ≡ script bytes
script_is bytes first lines settings are accepted =
    sym (ap (λ (all : List (List ℕ)). script_with (settings_in all) (drop 1 all)) are
    ∙ ap (λ read. script_with read lines) accepted)

-- if the run read all of the known bytes, these are their lines
all_lines : (was now : Reading) (lines : List (List ℕ)) (bytes : List ℕ) → to_come was ≡ Some bytes
    → TookLines was now lines → now.ended ≡ true → lines_of bytes ≡ lines
all_lines was now lines bytes known took ended =
    let ahead = lines_ahead was now lines bytes known took in
    ahead.1 ∙ ap (λ (rest : List (List ℕ)). lines ++ rest) (ahead.2 ended) ∙ append-nil lines

-- the model refuses a line only because of its fault
own_fault : (read : Result SettingsValues SettingsFault) (fault : SettingsFault)
    → RefusesRead HasNone read (begin.Settings fault) → read ≡ Err fault
own_fault (Err found) fault is = let same : fault ≡ found = cc in ap Err (sym same)
own_fault (Ok settings) fault is = absurd is

-- if the model refuses, it refuses the settings in front of known bytes
refused_in : (was now : Reading) (fault : SettingsFault) (bytes : List ℕ) → to_come was ≡ Some bytes
    → IsRefused (RefusesLine HasNone) fault was now → settings_in (lines_of bytes) ≡ Err fault
refused_in was now fault bytes known (inl (took, ended, is)) =
    ap settings_in (all_lines was now [] bytes known took ended) ∙ ap Err (sym is)
refused_in was now fault bytes known (inr (first, took, inl (long, is))) =
    ap settings_in (lines_ahead was now (first ∷ []) bytes known took).1 ∙ settings_of_long first long ∙ ap Err (sym is)
refused_in was now fault bytes known (inr (first, took, inr why)) =
    ap settings_in (lines_ahead was now (first ∷ []) bytes known took).1 ∙ own_fault (settings_of first) fault why

-- how the model runs the lines of a script
abbrev pub WritesLines : List (List ℕ) → List ℕ → Type 0
WritesLines = WritesFor (BeginsLine IsNew) Gives

-- a whole run of the model writes the script
pub ran_script : (was now : Transcript) → RanScript WritesLines was now → WroteScript was now
ran_script was now ran = by_known (to_come was.reading) refl
  where
    by_known : (input : Option (List ℕ)) → to_come was.reading ≡ input
        → IfKnown input (λ bytes. Wrote was.writing now.writing (script bytes))
    by_known None known = tt
    by_known (Some bytes) known =
        let s = ran.whole in
        let are = all_lines was.reading now.reading (ran.first ∷ ran.lines) bytes known ran.took ran.all in
        let b = s.2 in
        let is = gives_responses ran.lines s.0 (empty_world (settings_frame b.0)) ran.text s.1 b.2 s.3 in
        let P : List ℕ → Type 0 = λ t. Wrote was.writing now.writing t in
        subst P (is ∙ script_is bytes ran.first ran.lines b.0 are b.1) ran.wrote

-- the settings of a run that went through were accepted
pub accepted_settings : (was now : Transcript) → RanScript WritesLines was now → AcceptsSettings was
accepted_settings was now ran = by_known (to_come was.reading) refl
  where
    by_known : (input : Option (List ℕ)) → to_come was.reading ≡ input
        → IfKnown input (λ bytes. IsOk (settings_in (lines_of bytes)))
    by_known None known = tt
    by_known (Some bytes) known =
        let are = all_lines was.reading now.reading (ran.first ∷ ran.lines) bytes known ran.took ran.all in
        let P : Result SettingsValues SettingsFault → Type 0 = IsOk in
        subst P (sym (ap settings_in are ∙ ran.whole.2.1)) refl

-- a run whose settings are refused writes the script too
pub refused_script : (was now : Transcript) → RefusedScript (RefusesLine HasNone) Wrote was now → WroteScript was now
refused_script was now run = by_known (to_come was.reading) refl
  where
    by_known : (input : Option (List ℕ)) → to_come was.reading ≡ input
        → IfKnown input (λ bytes. Wrote was.writing now.writing (script bytes))
    by_known None known = tt
    by_known (Some bytes) known =
        let refused = refused_in was.reading now.reading run.fault bytes known run.refused in
        let P : List ℕ → Type 0 = λ t. Wrote was.writing now.writing t in
        subst P (sym (ap (λ read. script_with read (drop 1 (lines_of bytes))) refused)) run.written

pub refused_settings : (was now : Transcript) → RefusedScript (RefusesLine HasNone) Wrote was now → RefusesSettings was
refused_settings was now run = by_known (to_come was.reading) refl
  where
    by_known : (input : Option (List ℕ)) → to_come was.reading ≡ input
        → IfKnown input (λ bytes. IsErr (settings_in (lines_of bytes)))
    by_known None known = tt
    by_known (Some bytes) known =
        let P : Result SettingsValues SettingsFault → Type 0 = IsErr in
        subst P (sym (refused_in was.reading now.reading run.fault bytes known run.refused)) refl

-- the model starts no thread
begins_any : (read : Result SettingsValues SettingsFault) → RefusesRead HasNone read begin.NoThread → ⊥
begins_any (Err found) is = let never : begin.NoThread ≡ begin.Settings found = is in
    let no : false ≡ true = cc in false≢true no
begins_any (Ok settings) is = is

pub begins_alone : (was now : Transcript) → Unbegun (RefusesLine HasNone) was now → ⊥
begins_alone was now unbegun = begins_any (settings_of unbegun.0) unbegun.2

-- every run that ends writes the script
pub wrote_script : (was now : Transcript) (result : Result Status RunFault)
    → (result ≡ Ok Ran → RanScript WritesLines was now)
    → (result ≡ Ok BadSettings → RefusedScript (RefusesLine HasNone) Wrote was now) → OnOk result (WroteScript was now)
wrote_script was now (Ok Ran) ran bad = ran_script was now (ran refl)
wrote_script was now (Ok BadSettings) ran bad = refused_script was now (bad refl)
wrote_script was now (Err fault) ran bad = tt

-- before a run of the model comes to a line, it must write the script of the lines before that one
pub writes_script : (before : List (List ℕ)) (text : List ℕ) → WritesLines before text → WritesScript before text
writes_script [] text none = none
writes_script (first ∷ lines) text (begun, ended, (settings, accepted, new), all) =
    gives_responses lines begun (empty_world (settings_frame settings)) text ended new all
    ∙ sym (ap (λ read. script_with read lines) accepted)
