-- The verdict of a load on the counts that it found.
use Rattle.std.specs.Prelude.{◌≡◌, ◌≢◌, ◌+◌, ℕ, ℤ, pos, ◌+ℤ◌, ◌⊎◌, List, Option, Some, None, take, drop}
use Rattle.sm_cluster.specs.Calls.{ClientValue}
use Rattle.sm_load.specs.Loads.{AreClientsSince, HaveLoaded}
use Rattle.sm_load.specs.declared.loading.LoadReport.{LoadReport}
use Rattle.sm_session.specs.Service.{counter_text}
use Rattle.sm_script.specs.declared.load_verdict.LoadVerdict.{LoadVerdict}
use Rattle.sm_script.specs.declared.load_verdict.LoadVerdict.TheVariants.{Agrees, Unknown, Differs}
use Rattle.sm_service.specs.declared.reply.Reply.{Reply}
use Rattle.sm_service.specs.declared.reply.Reply.TheVariants.{Count}
use Rattle.sm_service.specs.declared.request.Request.{Request}
use Rattle.sm_service.specs.declared.request.Request.TheVariants.{Get, Inc}

-- the count in a reply, if it has one
abbrev pub count_replied : Reply → Option ℤ
count_replied (Count count) = Some count
count_replied reply = None

-- the first of these clients was told the key's count twice, and so many others added one to it, so many times each;
-- the others made no call
pub record IsLoadOf (key : List ℕ) (clients each : ℕ) (before : List (ClientValue Request)) (report : LoadReport)
    (after : List (ClientValue Request)) : Type 0 where
  pub loaded : HaveLoaded counter_text count_replied (Get key) (Inc key (pos 1)) each (take (clients + 1) before) report
      (take (clients + 1) after)
  pub rest : drop (clients + 1) after ≡ drop (clients + 1) before
  pub since : AreClientsSince before after

-- the meaning of the report's counts: the count grew by the acknowledged additions; it wasn't told; or it was, and grew
-- by another number
abbrev pub IsVerdictOn : LoadReport → LoadVerdict → Type 0
IsVerdictOn report Agrees =
    (before : ℤ) × (report.before ≡ Some before) × (report.after ≡ Some (before +ℤ pos report.acked))
IsVerdictOn report Unknown = (report.before ≡ None) ⊎ (report.after ≡ None)
IsVerdictOn report Differs =
    (before : ℤ) × (after : ℤ) × (report.before ≡ Some before) × (report.after ≡ Some after)
    × (after ≢ before +ℤ pos report.acked)
