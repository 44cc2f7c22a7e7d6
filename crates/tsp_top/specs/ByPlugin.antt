-- What is said of a plugin, said of a plugin with its lines. This project's own rule.
use Rattle.plugin_trait.specs.declared.heard.Heard.{Heard}

abbrev pub by_plugin : {P A : Type 0} → (P → A) → Heard P → A
by_plugin said heard = said heard.plugin
