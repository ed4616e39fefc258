-- Runs for which no session was begun.
use Rattle.std.proofs.Common.{◌≡◌, ◌≢◌, ◌∙◌, true, false, ℕ, List, [], ◌∷◌, ap, refl, subst, inr, Result, Ok}
use Rattle.std.proofs.Common.{Err, OnOk, IfOk}
use Rattle.std.proofs.lemmas.Bool.{false≢true}
use Rattle.sm_settings.specs.declared.settings_fault.SettingsFault.{SettingsFault}
use Rattle.sm_lines.specs.Reading.{Reading, TookLines}
use Rattle.sm_lines.specs.Transcripts.{Transcript}
use Rattle.sm_lines.specs.Writing.{Writing, Wrote, WroteShort}
use Rattle.sm_lines.specs.Openings.{IsRefused, RefusedScript, settings_line}
use Rattle.sm_lines.specs.Runs.{StoppedEarly, Unbegun}
use Rattle.sm_lines.specs.Watching.{KeepsWatch}
use Rattle.sm_lines.specs.declared.begin_fault.BeginFault.{BeginFault}
use Rattle.sm_lines.specs.declared.begin_fault.BeginFault.TheVariants.{Settings as IsOfSettings}
use Rattle.sm_lines.specs.declared.run_fault.RunFault.{RunFault}
use Rattle.sm_lines.specs.declared.run_fault.RunFault.TheVariants.{Read, Write, NoMemory, NoThread}
use Rattle.sm_lines.specs.declared.status.Status.{Status}
use Rattle.sm_lines.specs.declared.status.Status.TheVariants.{Ran, BadSettings}
use Rattle.sm_lines.proofs.Stops.{Touched, early_refused, stopped_first}
use Rattle.sm_lines.proofs.Watches.{of_touched}

-- the settings' fault was written, if it is one of these
pub record Refusing (result : Result Status RunFault) (is_why : SettingsFault → Type 0) (old new : Writing) : Type 0
  where
    pub wrote : OnOk result ((why : SettingsFault) × is_why why × Wrote old new (settings_line why))
    pub status : IfOk result (λ status. status ≡ BadSettings)
    pub write : result ≡ Err Write → (why : SettingsFault) × is_why why × WroteShort old new (settings_line why)
    pub no_memory : result ≡ Err NoMemory → new ≡ old
    pub no_thread : result ≡ Err NoThread → new ≡ old
    pub read : result ≢ Err Read

pub refused_by_engine : (refuses : List ℕ → BeginFault → Type 0) (was now : Reading) (first : List ℕ)
    (fault : BeginFault) → TookLines was now (first ∷ []) → refuses first fault
    → (why : SettingsFault) → fault ≡ IsOfSettings why → IsRefused refuses why was now
refused_by_engine refuses was now first fault took refused why is =
    let P : BeginFault → Type 0 = refuses first in inr (first, took, inr (subst P is refused))

pub refused_script : (refuses : List ℕ → BeginFault → Type 0) (result : Result Status RunFault)
    {is_why : SettingsFault → Type 0} (was now : Transcript)
    → Refusing result is_why was.writing now.writing
    → ((why : SettingsFault) → is_why why → IsRefused refuses why was.reading now.reading)
    → result ≡ Ok BadSettings → RefusedScript refuses Wrote was now
refused_script refuses (Ok status) was now r refused is = record
    { fault = r.wrote.0; refused = refused r.wrote.0 r.wrote.1; written = r.wrote.2 }
refused_script refuses (Err fault) was now r refused is = absurd (let no : false ≡ true = cc in false≢true no)

pub refused_early : (refuses : List ℕ → BeginFault → Type 0) (writes : List (List ℕ) → List ℕ → Type 0)
    (result : Result Status RunFault) {is_why : SettingsFault → Type 0} (was now : Transcript)
    → Refusing result is_why was.writing now.writing
    → ((why : SettingsFault) → is_why why → IsRefused refuses why was.reading now.reading)
    → Touched was.reading now.reading → (result ≡ Err NoThread → Unbegun refuses was now)
    → writes [] [] → StoppedEarly refuses writes result was now
refused_early refuses writes result was now r refused touched unbegun none =
    early_refused refuses writes result was now r.read
    (λ is. stopped_first writes was now none (r.no_memory is) touched) unbegun
    (λ is. let short = r.write is in record { fault = short.0; refused = refused short.0 short.1; written = short.2 })

pub refused_watched : (result : Result Status RunFault) {is_why : SettingsFault → Type 0} (was now : Transcript)
    → Refusing result is_why was.writing now.writing → Touched was.reading now.reading
    → now.reading.failed ≡ was.reading.failed → KeepsWatch result was now
refused_watched result {is_why} was now r touched unfailed = record {
  read_all = λ is. not_ran result r.status is;
  reader_unfailed = λ _. unfailed;
  writer_unfailed = kept result r;
  reads = of_touched was.reading now.reading touched;
  none_waits = waits result r;
}
  where
    not_ran : {A : Type 0} (result : Result Status RunFault) → IfOk result (λ status. status ≡ BadSettings)
        → result ≡ Ok Ran → A
    not_ran (Ok Ran) status is = absurd (let no : Ran ≡ BadSettings = status in let never : false ≡ true = cc in
        false≢true never)
    not_ran (Ok BadSettings) status is = absurd (let never : false ≡ true = cc in false≢true never)
    not_ran (Err fault) status is = absurd (let never : false ≡ true = cc in false≢true never)

    kept : (result : Result Status RunFault) → Refusing result is_why was.writing now.writing → result ≢ Err Write
        → now.writing.failed ≡ was.writing.failed
    kept (Ok status) r other = r.wrote.2.0.unfailed
    kept (Err Read) r other = absurd (r.read refl)
    kept (Err Write) r other = absurd (other refl)
    kept (Err NoMemory) r other = ap (λ (w : Writing). w.failed) (r.no_memory refl)
    kept (Err NoThread) r other = ap (λ (w : Writing). w.failed) (r.no_thread refl)

    waits : (result : Result Status RunFault) → Refusing result is_why was.writing now.writing
        → was.writing.waiting ≡ [] → now.writing.waiting ≡ []
    waits (Ok status) r none = r.wrote.2.1
    waits (Err Read) r none = absurd (r.read refl)
    waits (Err Write) r none = (r.write refl).2.none_waits
    waits (Err NoMemory) r none = ap (λ (w : Writing). w.waiting) (r.no_memory refl) ∙ none
    waits (Err NoThread) r none = ap (λ (w : Writing). w.waiting) (r.no_thread refl) ∙ none
