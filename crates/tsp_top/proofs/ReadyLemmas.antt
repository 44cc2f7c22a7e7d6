-- Plugins that are made one after another.
use Rattle.std.proofs.Common.{◌≡◌, ℕ, List, [], ◌∷◌, ◌++◌, map, Option, Result, Ok, Err, IfOk, ap, sym, subst, ◌∙◌, append_assoc}
use Rattle.std.specs.Prelude.{IsOkAnd}
use Rattle.std.proofs.lemmas.List.{map-append}
use Rattle.ts_packet.specs.declared.cell.Cell.{Cell}
use Rattle.chain_model.specs.PluginRule.{PluginRule}
use Rattle.chain_model.specs.Reports.{rules_of}
use Rattle.plugin_trait.specs.declared.heard.Heard.{Heard}
use Rattle.plugin_trait.specs.HeardStands.{HeardStands}
use Rattle.chain_run.specs.Fresh.{AreFresh}
use Rattle.plugin_settings.specs.Items.{preallocated_of_item, rule_of_item}
use Rattle.plugin_settings.specs.declared.plugin_item.PluginItem.{PluginItem}
use Rattle.tsp_top.specs.PlannedChain.{first_table, later_tables, named_rules}
use Rattle.tsp_top.proofs.CallLemmas.{fresh_push}

-- one more plugin that met no cell
pub record OneMore {P : Type 0} (rule : P → PluginRule) (stands : P → List Cell → ℕ → Type 0) (preallocated : P → Option ℕ)
    (plugins more : List P) (r : PluginRule) (room : Option ℕ) : Type 0 where
  pub rules : map rule more ≡ map rule plugins ++ r ∷ []
  pub rooms : map preallocated more ≡ map preallocated plugins ++ room ∷ []
  pub fresh : AreFresh stands more

pub one_more : {P E : Type 0} (rule : P → PluginRule) (stands : P → List Cell → ℕ → Type 0) (preallocated : P → Option ℕ)
    (plugins more : List P) (r : PluginRule) (room : Option ℕ) (made : Result P E)
    → AreFresh stands plugins → IsOkAnd made (λ plugin. more ≡ plugins ++ plugin ∷ [])
    → IfOk made (λ plugin. rule plugin ≡ r) → IfOk made (λ plugin. stands plugin [] 0) → IfOk made (λ plugin. preallocated plugin ≡ room)
    → OneMore rule stands preallocated plugins more r room
one_more {P} rule stands preallocated plugins more r room (Ok plugin) before is has_rule fresh has_room = record {
  rules = ap (λ (l : List P). map rule l) is ∙ map-append rule plugins (plugin ∷ []) ∙ ap (λ (q : PluginRule). map rule plugins ++ q ∷ []) has_rule;
  rooms = ap (λ (l : List P). map preallocated l) is ∙ map-append preallocated plugins (plugin ∷ []) ∙ ap (λ (q : Option ℕ). map preallocated plugins ++ q ∷ []) has_room;
  fresh = rw is (fresh_push stands plugins plugin before fresh);
}
one_more rule stands preallocated plugins more r room (Err e) before is has_rule fresh has_room = absurd is

-- what holds of a plugin that was made holds of it without lines
pub heard_is : {P E : Type 0} (made : Result P E) (heard : Result (Heard P) E)
    → IfOk heard (λ h. IsOkAnd made (λ plugin. h.plugin ≡ plugin)) → (F : P → Type 0) → IfOk made F → IfOk heard (λ h. F h.plugin)
heard_is (Ok plugin) (Ok h) is F holds = subst F (sym is) holds
heard_is (Err e) (Ok h) is F holds = absurd is
heard_is made (Err e) is F holds = tt

-- and it met no cell, as the plugin did
pub heard_fresh : {P E : Type 0} (rule : P → PluginRule) (stands : P → List Cell → ℕ → Type 0) (made : Result P E) (heard : Result (Heard P) E)
    → IfOk heard (λ h. IsOkAnd made (λ plugin. h.plugin ≡ plugin)) → IfOk heard (λ h. h.lines.items ≡ [])
    → IfOk made (λ plugin. stands plugin [] 0) → IfOk heard (λ h. HeardStands rule stands h [] 0)
heard_fresh {P} rule stands (Ok plugin) (Ok h) is none fresh = record { holds = subst (λ (p : P). stands p [] 0) (sym is) fresh; lines = none }
heard_fresh rule stands (Err e) (Ok h) is none fresh = absurd is
heard_fresh rule stands made (Err e) is none fresh = tt

-- the rules and the rooms of the plugins after it come after its own
pub rules_after : {P : Type 0} (rule : P → PluginRule) (plugins more all : List P) (items rest : List PluginItem) (item : PluginItem)
    (tables later : List (List (List ℕ))) (table : List (List ℕ))
    → items ≡ item ∷ rest → table ≡ first_table tables → later ≡ later_tables tables
    → map rule more ≡ map rule plugins ++ rule_of_item item table ∷ []
    → map rule all ≡ map rule more ++ rules_of (named_rules rest later)
    → map rule all ≡ map rule plugins ++ rules_of (named_rules items tables)
rules_after rule plugins more all items rest item tables later table split first behind one those =
    let own : List PluginRule = map rule plugins in
    those
    ∙ ap (λ (l : List PluginRule). l ++ rules_of (named_rules rest later)) one
    ∙ append_assoc own (rule_of_item item table ∷ []) (rules_of (named_rules rest later))
    ∙ ap (λ (t : List (List ℕ)). own ++ rule_of_item item t ∷ rules_of (named_rules rest later)) first
    ∙ ap (λ (ts : List (List (List ℕ))). own ++ rule_of_item item (first_table tables) ∷ rules_of (named_rules rest ts)) behind
    ∙ ap (λ (l : List PluginItem). own ++ rules_of (named_rules l tables)) (sym split)

pub rooms_after : {P : Type 0} (preallocated : P → Option ℕ) (buffer : ℕ) (plugins more all : List P) (items rest : List PluginItem) (item : PluginItem)
    → items ≡ item ∷ rest
    → map preallocated more ≡ map preallocated plugins ++ preallocated_of_item item buffer ∷ []
    → map preallocated all ≡ map preallocated more ++ map (λ i. preallocated_of_item i buffer) rest
    → map preallocated all ≡ map preallocated plugins ++ map (λ i. preallocated_of_item i buffer) items
rooms_after preallocated buffer plugins more all items rest item split one those =
    let own : List (Option ℕ) = map preallocated plugins in
    let room : PluginItem → Option ℕ = λ i. preallocated_of_item i buffer in
    those
    ∙ ap (λ (l : List (Option ℕ)). l ++ map room rest) one
    ∙ append_assoc own (room item ∷ []) (map room rest)
    ∙ ap (λ (l : List PluginItem). own ++ map room l) (sym split)
