-- The desk that settings ask for.
use Rattle.sm_desk.specs.Desk.{DeskView}
use Rattle.sm_place.specs.Books.{new_books}
use Rattle.sm_settings.specs.SettingsLine.{SettingsValues}

-- all servers are up, and all shards vacant
abbrev pub settings_desk : SettingsValues → DeskView
settings_desk settings = record {
  books = new_books settings.servers settings.groups settings.shards settings.domains;
  caps = record { ops = settings.ops };
}
