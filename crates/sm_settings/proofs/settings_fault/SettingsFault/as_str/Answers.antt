use Rattle.std.proofs.Common.{rules}
use Rattle.sm_settings.proofs.settings_fault.SettingsFault.as_str.Goals as goal

pub returns-in-BadOps : goal.returns-in-BadOps
returns-in-BadOps c = search rules
