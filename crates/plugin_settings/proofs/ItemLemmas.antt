-- The options of a plugin with those after them that it shares: the command, and how its words are read.
use Rattle.std.proofs.Common.{◌≡◌, ℕ, List, [], ◌∷◌, ◌++◌, Bool, true, false, not, ◌&&◌, if◌then◌else◌, Option, None, Some, Result, Ok, Err, IfOk, refl, ap, sym, subst, ◌∙◌}
use Rattle.std.specs.Prelude.{codes, fold}
use Rattle.std.specs.Result.{IsErrAnd}
use Rattle.std.proofs.Math.Bool.{and-true}
use Rattle.std.proofs.lemmas.List.Folds.{list_all-append}
use Rattle.clap.specs.Faults.{is_simple_and_free}
use Rattle.clap.specs.Simple.{App, with_rule}
use Rattle.clap.specs.Walk.{Row}
use Rattle.plugin_options.specs.Options.{OptionRow, are_well_formed, bare_command, command_of, findings, is_formed, is_taken, is_well_formed, read_value, rule_of_kind}
use Rattle.plugin_options.specs.OptionTable.{OptionTable, broken_option, first_broken, tests_of_parsed}
use Rattle.plugin_options.specs.Refusal.{IsRefusedBy, Reads, ReadsParsed}
use Rattle.plugin_options.specs.declared.refusal.Refusal.{Refusal}
use Rattle.plugin_options.specs.declared.refusal.Refusal.TheVariants.{Broken, NoMemory}
use Rattle.plugin_options.specs.declared.words_rule.WordsRule.{WordsRule}
use Rattle.plugin_options.specs.declared.words_rule.WordsRule.TheVariants.{Conflict, Missing, Shape, Value}
use Rattle.plugin_options.specs.declared.limits.TheConstants.{LAST_LABEL}
use Rattle.plugin_options.specs.Forms.{ranges}
use Rattle.plugin_options.specs.Ranges.{ranges_of}
use Rattle.plugin_settings.specs.Items.{IsSharedRefusal, are_shared_formed, counts_of, every_of, excludes_every, is_every_formed, options_of_item, shared_broken, shared_rows, with_shared}
use Rattle.plugin_settings.specs.declared.plugin_conf.PluginConf.{PluginConf}
use Rattle.plugin_settings.specs.declared.plugin_item.PluginItem.{PluginItem}
use Rattle.plugin_settings.specs.declared.plugin_conf.PluginKind.{PluginKind}
use Rattle.plugin_settings.specs.declared.plugin_conf.PluginKind.TheVariants as kind

-- a command with more rows
fold_more : (rows more : List OptionRow) (app : App)
    → fold (λ a r. with_rule a (rule_of_kind r.name r.kind)) app (rows ++ more)
    ≡ fold (λ a r. with_rule a (rule_of_kind r.name r.kind)) (fold (λ a r. with_rule a (rule_of_kind r.name r.kind)) app rows) more
fold_more [] more app = refl
fold_more (r ∷ rows) more app = fold_more rows more (with_rule app (rule_of_kind r.name r.kind))

pub command-more : (rows : List OptionRow) (summary : Bool)
    → command_of (rows ++ shared_rows summary) ≡ fold (λ a r. with_rule a (rule_of_kind r.name r.kind)) (command_of rows) (shared_rows summary)
command-more rows summary = fold_more rows (shared_rows summary) bare_command

-- what follows of a value, where there is one
pub if_ok : {X E : Type 0} (P Q : X → Type 0) (r : Result X E) → IfOk r P → ((x : X) → P x → Q x) → IfOk r Q
if_ok P Q (Ok x) holds so = so x holds
if_ok P Q (Err e) holds so = tt

-- ---- which rule is broken first

abbrev broken_of : Bool → Bool → Bool → Option WordsRule
broken_of a b c = first_broken ((Missing, not a) ∷ (Value, not b) ∷ (Conflict, not c) ∷ [])

-- where the own options break none, it is the first that the shared ones break
shared_first : (a b c s x : Bool) (rule : Option WordsRule) → broken_of a b c ≡ None → first_broken ((Value, not s) ∷ (Conflict, x) ∷ []) ≡ rule
    → broken_of a (b && s) (c && not x) ≡ rule
shared_first true true true true true rule own is = is
shared_first true true true true false rule own is = is
shared_first true true true false x rule own is = is
shared_first true true false s x rule own is = cc
shared_first true false c s x rule own is = cc
shared_first false b c s x rule own is = cc

-- the rows are well-formed where the own ones and the shared ones are
rows_formed : (rows : List OptionRow) (summary : Bool) (found : List Row)
    → are_well_formed (rows ++ shared_rows summary) found ≡ (are_well_formed rows found && are_shared_formed summary found)
rows_formed rows summary found =
    list_all-append (λ (row : OptionRow). is_well_formed row.name row.kind found) rows (shared_rows summary)
    ∙ ap (λ (b : Bool). are_well_formed rows found && b) (shared_formed summary)
  where
    shared_formed : (hs : Bool) → are_well_formed (shared_rows hs) found ≡ are_shared_formed hs found
    shared_formed true = ap (λ (b : Bool). is_every_formed true found && b) (and-true (is_formed (ranges LAST_LABEL) (codes "only-label") found))
    shared_formed false = and-true (is_formed (ranges LAST_LABEL) (codes "only-label") found)

module _ (table : OptionTable PluginConf) (summary : Bool) (found : List Row) where
  broken_with : first_broken (tests_of_parsed (with_shared summary table) found)
      ≡ broken_of (table.has_needed found) (are_well_formed table.rows found && are_shared_formed summary found) (table.go_together found && not (excludes_every found))
  broken_with = ap (λ (b : Bool). broken_of (table.has_needed found) b (table.go_together found && not (excludes_every found))) (rows_formed table.rows summary found)

  -- the settings with what is shared
  pub read_item : (conf : PluginConf) (item : PluginItem) → ReadsParsed table found (Ok conf) → shared_broken summary found ≡ None
      → item ≡ record { conf = conf; every = every_of summary found; counts = counts_of found; only = read_value (ranges_of LAST_LABEL) (codes "only-label") found }
      → ReadsParsed (with_shared summary table) found (Ok item)
  read_item conf item reads none is = (
    broken_with
        ∙ shared_first (table.has_needed found) (are_well_formed table.rows found) (table.go_together found) (are_shared_formed summary found) (excludes_every found) None reads.0 none,
    is
        ∙ ap (λ (c : PluginConf). let i : PluginItem = record { conf = c; every = every_of summary found; counts = counts_of found; only = read_value (ranges_of LAST_LABEL) (codes "only-label") found } in i)
        reads.1,
  )

  -- what is shared is refused
  pub refuse_shared : (conf : PluginConf) (e : Refusal) → ReadsParsed table found (Ok conf) → IsSharedRefusal summary found e
      → ReadsParsed (with_shared summary table) found (Err e)
  refuse_shared conf (Broken rule) reads is =
      broken_with
      ∙ shared_first (table.has_needed found) (are_well_formed table.rows found) (table.go_together found) (are_shared_formed summary found) (excludes_every found) (Some rule) reads.0 is
  refuse_shared conf NoMemory reads is = tt

  pub item_refused : (conf : PluginConf) (e : Refusal) (r : Result PluginItem Refusal) → IsErrAnd r (λ y. y ≡ e) → ReadsParsed table found (Ok conf)
      → IsSharedRefusal summary found e → ReadsParsed (with_shared summary table) found r
  item_refused conf e (Ok item) is reads refusal = absurd is
  item_refused conf e (Err y) is reads refusal =
      subst (λ (z : Refusal). ReadsParsed (with_shared summary table) found (Err z)) (sym is) (refuse_shared conf e reads refusal)

-- `clap` reads the command of each plugin by its simple rules: each command is computed
pub simple : (k : PluginKind) → is_simple_and_free (command_of (options_of_item k).rows) ≡ true
simple kind.Filter = refl
simple _ = refl

module _ {C : Type 0} (p : OptionTable C) (app : App) (words : List (List ℕ)) (same : app ≡ command_of p.rows) where
  -- words that the command does not accept
  pub words_refused : (e : Refusal) (r : Result C Refusal) → IsErrAnd r (λ y. y ≡ e) → IsRefusedBy Shape (is_taken app words ≡ false) e → Reads p words r
  words_refused e (Ok conf) is refused = absurd is
  words_refused e (Err y) is refused = subst (λ (z : Refusal). Reads p words (Err z)) (sym is) (go e refused)
    where
      go : (z : Refusal) → IsRefusedBy Shape (is_taken app words ≡ false) z → Reads p words (Err z)
      go (Broken rule) q =
          ap (λ (b : Bool). let o : Option WordsRule = (if not b then Some Shape else first_broken (tests_of_parsed p (findings (command_of p.rows) words))) in o)
          (ap (λ (a : App). is_taken a words) (sym same) ∙ q.1)
          ∙ ap Some (sym q.0)
      go NoMemory q = tt

  -- words that it accepts are read by the values in them
  module _ (found : List Row) (taken : is_taken app words ≡ true) (finds : found ≡ findings app words) where
    found_is : findings (command_of p.rows) words ≡ found
    found_is = ap (λ (a : App). findings a words) (sym same) ∙ sym finds

    broken_is : broken_option p words ≡ first_broken (tests_of_parsed p found)
    broken_is =
        ap (λ (b : Bool). let o : Option WordsRule = (if not b then Some Shape else first_broken (tests_of_parsed p (findings (command_of p.rows) words))) in o)
        (ap (λ (a : App). is_taken a words) (sym same) ∙ taken)
        ∙ ap (λ (f : List Row). first_broken (tests_of_parsed p f)) found_is

    pub words_read : (r : Result C Refusal) → ReadsParsed p found r → Reads p words r
    words_read (Ok conf) reads = (broken_is ∙ reads.0, reads.1 ∙ ap p.settings (sym found_is))
    words_read (Err (Broken rule)) reads = broken_is ∙ reads
    words_read (Err NoMemory) reads = tt
