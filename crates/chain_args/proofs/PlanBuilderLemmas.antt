-- One more segment: the rule that it breaks, and the parts after it.
use Rattle.std.proofs.Common.{◌≡◌, ◌∙◌, ◌+◌, ◌<◌, ◌&&◌, ◌||◌, ℕ, Bool, true, false, not, cond, List, [], ◌∷◌, ◌++◌, length, Option, Some, None, is_some, refl, ap, ap₂, sym, subst, add-zero, arith, append-nil, length-append}
use Rattle.std.specs.Prelude.{IfSome, codes, option_map, count_by, filter_map, nat_le, option_and_then, slice_get}
use Rattle.std.specs.List.{All, cons_option, list_any}
use Rattle.std.proofs.lemmas.Bool.Decides.{nat_tests}
use Rattle.std.proofs.lemmas.List.Elements.{All-push, filter_map-append}
use Rattle.std.proofs.lemmas.List.Folds.{list_any-append}
use Rattle.std.proofs.lemmas.List.Sums.{sum_by_push}
use Rattle.plugin_settings.specs.Items.{IsValidItem}
use Rattle.plugin_settings.specs.declared.plugin_item.PluginItem.{PluginItem}
use Rattle.chain_args.specs.Inputs.{input_kind_named, options_of_input}
use Rattle.chain_args.specs.ValidPlan.{IsValidInput}
use Rattle.chain_args.specs.Outputs.{output_kind_named, options_of_output}
use Rattle.chain_args.specs.PlanBuilder.{StandsFor, segment}
use Rattle.chain_args.specs.PlanOf.{input_made, inputs_of, output_made, outputs_of, plugin_made}
use Rattle.plugin_settings.specs.Items.{options_of_item}
use Rattle.plugin_settings.specs.Plugins.{plugin_kind_named}
use Rattle.plugin_options.specs.OptionTable.{broken_option, first_broken, settings_of}
use Rattle.chain_args.specs.Rules.{broken_rule, most_plugins, or_else}
use Rattle.chain_args.specs.Segments.{Segment, is_input, is_output, is_plugin}
use Rattle.chain_args.specs.declared.input_conf.InputConf.{InputConf}
use Rattle.chain_args.specs.declared.input_words.InputKind.{InputKind}
use Rattle.chain_args.specs.declared.output_conf.OutputConf.{OutputConf}
use Rattle.chain_args.specs.declared.output_words.OutputKind.{OutputKind}
use Rattle.chain_args.specs.declared.plan_builder.PlanBuilder.{PlanBuilder}
use Rattle.plugin_settings.specs.declared.plugin_conf.PluginKind.{PluginKind}
use Rattle.plugin_options.specs.declared.words_rule.WordsRule.{WordsRule}
use Rattle.plugin_options.specs.declared.words_rule.WordsRule.TheVariants.{NoName, TooMany, Twice, UnknownPlugin}

or_none : (rule : Option WordsRule) → or_else rule None ≡ rule
or_none None = refl
or_none (Some rule) = refl

-- ---- the first rule that a named segment breaks

pub input_rule : (before : List Segment) (name : List ℕ) (own : List (List ℕ)) (k : InputKind) → list_any is_input before ≡ false → input_kind_named name ≡ Some k
    → broken_rule before (segment (codes "-I") (name ∷ own)) ≡ broken_option (options_of_input k) own
input_rule before name own k once known = ap₂ (λ twice kind. or_else (first_broken (
    (Twice, twice || false) ∷ (NoName, false) ∷ (UnknownPlugin, not (is_some kind) && true) ∷ (TooMany, false) ∷ []
    )) (or_else (option_and_then (λ k. broken_option (options_of_input k) own) kind) (or_else None None))) once known
    ∙ or_none (broken_option (options_of_input k) own)

pub output_rule : (before : List Segment) (name : List ℕ) (own : List (List ℕ)) (k : OutputKind) → list_any is_output before ≡ false → output_kind_named name ≡ Some k
    → broken_rule before (segment (codes "-O") (name ∷ own)) ≡ broken_option (options_of_output k) own
output_rule before name own k once known = ap₂ (λ twice kind. or_else (first_broken (
    (Twice, twice) ∷ (NoName, false) ∷ (UnknownPlugin, not (is_some kind)) ∷ (TooMany, false) ∷ []
    )) (or_else None (or_else None (option_and_then (λ k. broken_option (options_of_output k) own) kind)))) once known

pub plugin_rule : (before : List Segment) (name : List ℕ) (own : List (List ℕ)) (k : PluginKind) → nat_le most_plugins (count_by is_plugin before) ≡ false → plugin_kind_named name ≡ Some k
    → broken_rule before (segment (codes "-P") (name ∷ own)) ≡ broken_option (options_of_item k) own
plugin_rule before name own k few known = ap₂ (λ many kind. or_else (first_broken (
    (Twice, false) ∷ (NoName, false) ∷ (UnknownPlugin, not (is_some kind) && true) ∷ (TooMany, many) ∷ []
    )) (or_else None (or_else (option_and_then (λ k. broken_option (options_of_item k) own) kind) None))) few known
    ∙ or_none (broken_option (options_of_item k) own)

-- ---- lists of segments with one more

keeps : {C : Type 0} (f : Segment → Option C) (before : List Segment) (s : Segment) → f s ≡ None → filter_map f (before ++ s ∷ []) ≡ filter_map f before
keeps f before s e = filter_map-append f before (s ∷ []) ∙ ap (λ o. filter_map f before ++ cons_option o []) e ∙ append-nil (filter_map f before)

gains : {C : Type 0} (f : Segment → Option C) (before : List Segment) (s : Segment) (c : C) → f s ≡ Some c → filter_map f (before ++ s ∷ []) ≡ filter_map f before ++ c ∷ []
gains f before s c e = filter_map-append f before (s ∷ []) ∙ ap (λ o. filter_map f before ++ cons_option o []) e

or_false : (a : Bool) → (a || false) ≡ a
or_false true = refl
or_false false = refl

or_true : (a : Bool) → (a || true) ≡ true
or_true true = refl
or_true false = refl

any_keeps : (p : Segment → Bool) (before : List Segment) (s : Segment) → p s ≡ false → list_any p (before ++ s ∷ []) ≡ list_any p before
any_keeps p before s e = list_any-append p before (s ∷ []) ∙ ap (λ b. list_any p before || (b || false)) e ∙ or_false (list_any p before)

any_gains : (p : Segment → Bool) (before : List Segment) (s : Segment) → p s ≡ true → list_any p (before ++ s ∷ []) ≡ true
any_gains p before s e = list_any-append p before (s ∷ []) ∙ ap (λ b. list_any p before || (b || false)) e ∙ or_true (list_any p before)

count_keeps : (p : Segment → Bool) (before : List Segment) (s : Segment) → p s ≡ false → count_by p (before ++ s ∷ []) ≡ count_by p before
count_keeps p before s e = sum_by_push (λ x. cond (p x) 1 0) before s ∙ ap (λ b. count_by p before + cond b 1 0) e ∙ add-zero (count_by p before)

count_gains : (p : Segment → Bool) (before : List Segment) (s : Segment) → p s ≡ true → count_by p (before ++ s ∷ []) ≡ count_by p before + 1
count_gains p before s e = sum_by_push (λ x. cond (p x) 1 0) before s ∙ ap (λ b. count_by p before + cond b 1 0) e

none_first : {C : Type 0} (xs : List C) (o : Option C) → o ≡ slice_get xs 0 → is_some o ≡ false → xs ≡ []
none_first [] o e h = refl
none_first (x ∷ xs) o e h = let bad : true ≡ false = ap is_some (sym e) ∙ h in cc

-- ---- the parts with one more

pub input_added : (p : PlanBuilder) (before : List Segment) (others own : List (List ℕ)) (name : List ℕ) (k : InputKind) (conf : InputConf) → StandsFor p before → is_some p.input ≡ false
    → others ≡ name ∷ own → Some k ≡ input_kind_named name → (broken_option (options_of_input k) own ≡ None) × (conf ≡ settings_of (options_of_input k) own) → IsValidInput conf
    → (broken_rule before (segment (codes "-I") others) ≡ None) × StandsFor (record { input = Some conf; plugins = p.plugins; output = p.output }) (before ++ segment (codes "-I") others ∷ [])
input_added p before others own name k conf stands free is known read valid =
    let s : Segment = segment (codes "-I") others in
    let once : list_any is_input before ≡ false = sym stands.has_input ∙ free in
    let made : input_made s ≡ Some conf =
    ap (λ words. input_made (segment (codes "-I") words)) is ∙ ap (option_map (λ j. settings_of (options_of_input j) own)) (sym known) ∙ ap Some (sym read.1) in (
      ap (λ words. broken_rule before (segment (codes "-I") words)) is ∙ input_rule before name own k once (sym known) ∙ read.0,
      record {
        input = sym (ap (λ xs. slice_get xs 0) (gains input_made before s conf made ∙ ap (λ xs. xs ++ conf ∷ []) (none_first (inputs_of before) p.input stands.input free)));
        has_input = sym (any_gains is_input before s refl);
        plugins = stands.plugins ∙ sym (keeps plugin_made before s refl);
        plugin_count = stands.plugin_count ∙ sym (count_keeps is_plugin before s refl);
        output = stands.output ∙ sym (ap (λ xs. slice_get xs 0) (keeps output_made before s refl));
        has_output = stands.has_output ∙ sym (any_keeps is_output before s refl);
        valid_input = valid;
        valid_plugins = stands.valid_plugins;
        few = stands.few;
      },
    )

pub output_added : (p : PlanBuilder) (before : List Segment) (others own : List (List ℕ)) (name : List ℕ) (k : OutputKind) (conf : OutputConf) → StandsFor p before → is_some p.output ≡ false
    → others ≡ name ∷ own → Some k ≡ output_kind_named name → (broken_option (options_of_output k) own ≡ None) × (conf ≡ settings_of (options_of_output k) own)
    → (broken_rule before (segment (codes "-O") others) ≡ None) × StandsFor (record { input = p.input; plugins = p.plugins; output = Some conf }) (before ++ segment (codes "-O") others ∷ [])
output_added p before others own name k conf stands free is known read =
    let s : Segment = segment (codes "-O") others in
    let once : list_any is_output before ≡ false = sym stands.has_output ∙ free in
    let made : output_made s ≡ Some conf =
    ap (λ words. output_made (segment (codes "-O") words)) is ∙ ap (option_map (λ j. settings_of (options_of_output j) own)) (sym known) ∙ ap Some (sym read.1) in (
      ap (λ words. broken_rule before (segment (codes "-O") words)) is ∙ output_rule before name own k once (sym known) ∙ read.0,
      record {
        input = stands.input ∙ sym (ap (λ xs. slice_get xs 0) (keeps input_made before s refl));
        has_input = stands.has_input ∙ sym (any_keeps is_input before s refl);
        plugins = stands.plugins ∙ sym (keeps plugin_made before s refl);
        plugin_count = stands.plugin_count ∙ sym (count_keeps is_plugin before s refl);
        output = sym (ap (λ xs. slice_get xs 0) (gains output_made before s conf made ∙ ap (λ xs. xs ++ conf ∷ []) (none_first (outputs_of before) p.output stands.output free)));
        has_output = sym (any_gains is_output before s refl);
        valid_input = stands.valid_input;
        valid_plugins = stands.valid_plugins;
        few = stands.few;
      },
    )

pub plugin_added : (p q : PlanBuilder) (before : List Segment) (others own : List (List ℕ)) (name : List ℕ) (k : PluginKind) (conf : PluginItem) → StandsFor p before → length p.plugins.items < most_plugins
    → others ≡ name ∷ own → Some k ≡ plugin_kind_named name → (broken_option (options_of_item k) own ≡ None) × (conf ≡ settings_of (options_of_item k) own) → IsValidItem conf
    → q.input ≡ p.input → q.output ≡ p.output → q.plugins.items ≡ p.plugins.items ++ conf ∷ []
    → (broken_rule before (segment (codes "-P") others) ≡ None) × StandsFor q (before ++ segment (codes "-P") others ∷ [])
plugin_added p q before others own name k conf stands room is known read valid same_in same_out pushed =
    let s : Segment = segment (codes "-P") others in
    let few : nat_le most_plugins (count_by is_plugin before) ≡ false = grind (arith, nat_tests, stands.plugin_count) in
    let made : plugin_made s ≡ Some conf =
    ap (λ words. plugin_made (segment (codes "-P") words)) is ∙ ap (option_map (λ j. settings_of (options_of_item j) own)) (sym known) ∙ ap Some (sym read.1) in (
      ap (λ words. broken_rule before (segment (codes "-P") words)) is ∙ plugin_rule before name own k few (sym known) ∙ read.0,
      record {
        input = same_in ∙ stands.input ∙ sym (ap (λ xs. slice_get xs 0) (keeps input_made before s refl));
        has_input = ap is_some same_in ∙ stands.has_input ∙ sym (any_keeps is_input before s refl);
        plugins = pushed ∙ ap (λ xs. xs ++ conf ∷ []) stands.plugins ∙ sym (gains plugin_made before s conf made);
        plugin_count = ap length pushed ∙ length-append p.plugins.items (conf ∷ []) ∙ ap (λ n. n + 1) stands.plugin_count ∙ sym (count_gains is_plugin before s refl);
        output = same_out ∙ stands.output ∙ sym (ap (λ xs. slice_get xs 0) (keeps output_made before s refl));
        has_output = ap is_some same_out ∙ stands.has_output ∙ sym (any_keeps is_output before s refl);
        valid_input = subst (λ o. IfSome o IsValidInput) (sym same_in) stands.valid_input;
        valid_plugins = subst (All IsValidItem) (sym pushed) (All-push IsValidItem p.plugins.items conf stands.valid_plugins valid);
        few = omega (arith, ap length pushed, length-append p.plugins.items (conf ∷ []));
      },
    )
