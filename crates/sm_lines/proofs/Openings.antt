-- The first line of a script, by how it was read.
use Rattle.std.proofs.Common.{◌≡◌, subst, inl, inr, refl}
use Rattle.sm_settings.specs.declared.settings.TheConstants.{MAX_SETTINGS}
use Rattle.sm_settings.specs.declared.settings_fault.SettingsFault.TheVariants.{BadJson, TooLong}
use Rattle.sm_lines.specs.Reading.{Reading, TookNext}
use Rattle.sm_lines.specs.declared.line_reader.Next.{Next}
use Rattle.sm_lines.specs.declared.line_reader.Next.TheVariants.{Line, LongLine, End}
use Rattle.sm_lines.specs.declared.opening.Opening.TheVariants.{Kept, Refused}
use Rattle.sm_lines.specs.Openings.{IsOpening}

-- the first line was kept
pub line_opening : (was now : Reading) (next : Next) → next ≡ Line → TookNext MAX_SETTINGS next was now
    → IsOpening was now Kept
line_opening was now next is took =
    let P : Next → Type 0 = λ n. TookNext MAX_SETTINGS n was now in (subst P is took).0

-- no session is begun with a first line that is too long
pub long_opening : (was now : Reading) (next : Next) → next ≡ LongLine → TookNext MAX_SETTINGS next was now
    → IsOpening was now (Refused TooLong)
long_opening was now next is took =
    let P : Next → Type 0 = λ n. TookNext MAX_SETTINGS n was now in
    let long = subst P is took in
    inr (long.0, long.1, inl (long.2, refl))

-- nor if there is no first line
pub end_opening : (was now : Reading) (next : Next) → next ≡ End → TookNext MAX_SETTINGS next was now
    → IsOpening was now (Refused BadJson)
end_opening was now next is took =
    let P : Next → Type 0 = λ n. TookNext MAX_SETTINGS n was now in
    let end = subst P is took in
    inl (end.0, end.1, refl)
