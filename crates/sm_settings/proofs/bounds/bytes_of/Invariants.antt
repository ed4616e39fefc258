use Rattle.std.proofs.Common.{◌≡◌, map, take}
use Rattle.serde_json.specs.View.{view}
use Rattle.sm_ranges.specs.LayoutFault.{texts_of}
use Rattle.sm_settings.specs.Members.{string_of}
use Rattle.sm_settings.proofs.bounds.bytes_of.Given as goal

abbrev pub invariant-loop-value : goal.invariant-loop-value
invariant-loop-value l = texts_of l.texts.items ≡ map string_of (map view (take l.value-index l.values))
