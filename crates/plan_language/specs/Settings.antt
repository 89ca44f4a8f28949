-- The words of the settings.
use Rattle.std.specs.Prelude.{ℕ, List, codes}
use Rattle.plan_language.specs.declared.setting.Setting.{Setting}
use Rattle.plan_language.specs.declared.setting.Setting.TheVariants as setting

abbrev pub setting_text : Setting → List ℕ
setting_text setting.Importing = codes "importing"
setting_text setting.Migrating = codes "migrating"
setting_text setting.Node = codes "node"
