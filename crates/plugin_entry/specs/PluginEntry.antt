-- What is said of a plugin in one place, in its own crate. This project's own rule.
use Rattle.std.specs.Prelude.{ℕ, List, Bool, false, true, Option, None, Some}
use Rattle.chain_model.specs.PluginRule.{PluginRule}
use Rattle.plugin_options.specs.OptionTable.{OptionTable, made_into}

-- a plugin, by its settings
pub record PluginEntry (C : Type 0) : Type 1 where
  -- its name on the command line and in the reports
  pub name : List ℕ
  -- its options
  pub options : OptionTable C
  -- the settings have what it requires, each number in its range, and no two that exclude each other
  pub is_valid : C → Type 0
  -- its rule, with the sections of the file that the settings name, where they name one
  pub rule : C → List (List ℕ) → PluginRule
  -- the number of positions after the greatest mark for which it allocates its memory before the run, where it does
  pub preallocated : C → ℕ → Option ℕ
  -- it has nothing to report: neither lines nor a summary
  pub silent : C → Bool
  -- it agrees to a common end, and does not end the chain alone
  pub joint : C → Bool
  -- the file whose sections it takes, where the settings name one; the empty name is standard input
  pub table_file : C → Option (List ℕ)

-- a plugin that allocates its memory before the run, reports nothing, never agrees to a common end, and takes no file
abbrev pub silent_entry : {C : Type 0} → List ℕ → OptionTable C → (C → Type 0) → (C → PluginRule) → PluginEntry C
silent_entry name options is_valid rule = record {
  name = name;
  options = options;
  is_valid = is_valid;
  rule = λ conf _. rule conf;
  preallocated = λ _ buffer. Some buffer;
  silent = λ _. true;
  joint = λ _. false;
  table_file = λ _. None;
}

-- what is said of a kind of plugin, with its settings as settings of any kind
pub record KindEntry (D : Type 0) : Type 0 where
  pub name : List ℕ
  pub options : OptionTable D

-- what is said of a plugin with these settings
pub record ConfEntry (K : Type 0) : Type 1 where
  pub kind : K
  pub is_valid : Type 0
  pub rule : List (List ℕ) → PluginRule
  pub preallocated : ℕ → Option ℕ
  pub silent : Bool
  pub joint : Bool
  pub table_file : Option (List ℕ)

abbrev pub of_kind : {C D : Type 0} → (C → D) → PluginEntry C → KindEntry D
of_kind make entry = record { name = entry.name; options = made_into make entry.options }

abbrev pub of_conf : {C K : Type 0} → K → PluginEntry C → C → ConfEntry K
of_conf kind entry conf = record {
  kind = kind;
  is_valid = entry.is_valid conf;
  rule = entry.rule conf;
  preallocated = entry.preallocated conf;
  silent = entry.silent conf;
  joint = entry.joint conf;
  table_file = entry.table_file conf;
}
