-- What plugins report, one after another.
use Rattle.std.proofs.Common.{◌≡◌, ℕ, suc, ◌+◌, ◌≤◌, Bool, true, false, ◌||◌, if◌then◌else◌, List, [], ◌∷◌, ◌++◌, length, take, map, ap, sym, ◌∙◌, subst, refl, add-one, append-nil, append_assoc}
use Rattle.std.specs.List.{flat_map}
use Rattle.ts_packet.specs.declared.cell.Cell.{Cell}
use Rattle.chain_model.specs.PluginRule.{PluginRule}
use Rattle.chain_model.specs.Apply.{StageList}
use Rattle.chain_model.specs.StageLists.{stage_list}
use Rattle.chain_model.specs.declared.cause.Cause.{Cause}
use Rattle.chain_model.specs.Reports.{NamedRule, plugin_report, said_of, rules_of, reports_from, end_line}
use Rattle.plugin_trait.specs.Marks.{AllowsMark}
use Rattle.chain_run.specs.Met.{AllMetTo}
use Rattle.plugin_settings.specs.declared.plugin_item.PluginItem.{PluginItem}
use Rattle.plugin_settings.specs.Items.{rule_of_item}
use Rattle.tsp_top.specs.PlannedChain.{first_table, later_tables, named_rules}
use Rattle.plugin_settings.specs.Plugins.{name_of}
use Rattle.chain_args.specs.declared.general_conf.GeneralConf.{GeneralConf}
use Rattle.tsp_top.specs.CallOutcome.{run_status}
use Rattle.tsp_top.specs.Faults.{faults_from}
use Rattle.tsp_top.specs.Printed.{printed_by, printed_from, printed_line, reports_asked}
use Rattle.tsp_top.specs.Reported.{ReachesCut}
use Rattle.tsp_top.specs.declared.status.Status.{Status}

-- the first of plugins that reach the cut may be given it, and those after it reach it
pub ReachesCut-split : {P : Type 0} (stands : P → List Cell → ℕ → Type 0) (plugins rest : List P) (plugin : P) (cut j : ℕ)
    → plugins ≡ plugin ∷ rest → ReachesCut stands plugins cut j → AllowsMark (stands plugin) cut × ReachesCut stands rest cut (j + 1)
ReachesCut-split {P} stands plugins rest plugin cut j e reaches =
    let A : List P → Type 0 = λ l. AllMetTo stands reaches.rules reaches.input cut j l in
    let met : AllMetTo stands reaches.rules reaches.input cut j (plugin ∷ rest) = subst A e reaches.met in
    let B : ℕ → Type 0 = λ k. AllMetTo stands reaches.rules reaches.input cut k rest in (
      record {
        history = met.0.history;
        mark = met.0.mark;
        holds = met.0.holds;
        not_below = met.0.told;
        met = met.0.reach;
      },
      record { rules = reaches.rules; input = reaches.input; met = subst B (sym (add-one j)) met.1 },
    )

-- what plugins report begins with the lines of the first of them
pub record ReportSplit {P : Type 0} (of : PluginRule → List Cell → List (List ℕ)) (bare : Bool) (stands : P → List Cell → ℕ → Type 0) (rules : List PluginRule) (input : StageList)
    (rest : List P) (items later : List PluginItem) (tables : List (List (List ℕ))) (name : List ℕ) (j cut : ℕ) (lines : List (List ℕ)) : Type 0 where
  pub said : printed_by of bare rules input cut j (named_rules items tables)
      ≡ flat_map (printed_line bare (j + 1) name) lines ++ printed_by of bare rules input cut (j + 1) (named_rules later (later_tables tables))
  pub met : AllMetTo stands rules input cut (j + 1) rest

report-of-cons : {P : Type 0} (of : PluginRule → List Cell → List (List ℕ)) (bare : Bool) (rule : P → PluginRule) (stands : P → List Cell → ℕ → Type 0) (rules : List PluginRule) (input : StageList)
    (rest : List P) (plugin : P) (item : PluginItem) (later : List PluginItem) (tables : List (List (List ℕ))) (j cut : ℕ) (lines : List (List ℕ))
    → AllMetTo stands rules input cut j (plugin ∷ rest) → rule plugin ≡ rule_of_item item (first_table tables)
    → ((history : List Cell) (mark : ℕ) → stands plugin history mark → mark ≤ cut → cut ≤ length history → lines ≡ of (rule plugin) (take cut history))
    → ReportSplit of bare stands rules input rest (item ∷ later) later tables (name_of item.conf) j cut lines
report-of-cons of bare rule stands rules input rest plugin item later tables j cut lines met same says =
    let met_list : List Cell = take cut (stage_list rules input j).cells in
    let own : lines ≡ of (rule_of_item item (first_table tables)) met_list =
    says met.0.history met.0.mark met.0.holds met.0.told met.0.reach ∙ ap (of (rule plugin)) met.0.same ∙ ap (λ (r : PluginRule). of r met_list) same in
    let B : ℕ → Type 0 = λ k. AllMetTo stands rules input cut k rest in
    let behind : List NamedRule = named_rules later (later_tables tables) in
    record {
      said = ap (λ texts. flat_map (printed_line bare (suc j) (name_of item.conf)) texts ++ printed_by of bare rules input cut (suc j) behind) (sym own)
          ∙ ap (λ k. flat_map (printed_line bare k (name_of item.conf)) lines ++ printed_by of bare rules input cut k behind) (sym (add-one j));
      met = subst B (sym (add-one j)) met.1;
    }

first-same : (a b : PluginRule) (rest later : List PluginRule) → a ∷ rest ≡ b ∷ later → a ≡ b
first-same a b rest later e = cc

later-same : (a b : PluginRule) (rest later : List PluginRule) → a ∷ rest ≡ b ∷ later → rest ≡ later
later-same a b rest later e = cc

-- the rules of plugins and of settings that have a first
rules-of-cons : {P : Type 0} (rule : P → PluginRule) (plugins rest : List P) (plugin : P) (items later : List PluginItem) (item : PluginItem) (tables : List (List (List ℕ)))
    → plugins ≡ plugin ∷ rest → items ≡ item ∷ later → map rule plugins ≡ rules_of (named_rules items tables)
    → rule plugin ∷ map rule rest ≡ rule_of_item item (first_table tables) ∷ rules_of (named_rules later (later_tables tables))
rules-of-cons {P} rule plugins rest plugin items later item tables e f same =
    sym (ap (λ (l : List P). map rule l) e) ∙ same ∙ ap (λ (l : List PluginItem). rules_of (named_rules l tables)) f

pub report-split : {P : Type 0} (of : PluginRule → List Cell → List (List ℕ)) (bare : Bool) (rule : P → PluginRule) (stands : P → List Cell → ℕ → Type 0) (rules : List PluginRule) (input : StageList)
    (plugins rest : List P) (plugin : P) (items later : List PluginItem) (item : PluginItem) (tables : List (List (List ℕ))) (j cut : ℕ) (lines : List (List ℕ))
    → plugins ≡ plugin ∷ rest → items ≡ item ∷ later → map rule plugins ≡ rules_of (named_rules items tables) → AllMetTo stands rules input cut j plugins
    → ((history : List Cell) (mark : ℕ) → stands plugin history mark → mark ≤ cut → cut ≤ length history → lines ≡ of (rule plugin) (take cut history))
    → ReportSplit of bare stands rules input rest items later tables (name_of item.conf) j cut lines
report-split {P} of bare rule stands rules input plugins rest plugin items later item tables j cut lines e f same met says =
    let M : List P → Type 0 = λ l. AllMetTo stands rules input cut j l in
    let B : List PluginItem → Type 0 = λ l. ReportSplit of bare stands rules input rest l later tables (name_of item.conf) j cut lines in
    subst B (sym f)
    (report-of-cons of bare rule stands rules input rest plugin item later tables j cut lines (subst M e met)
    (first-same (rule plugin) (rule_of_item item (first_table tables)) (map rule rest) (rules_of (named_rules later (later_tables tables)))
    (rules-of-cons rule plugins rest plugin items later item tables e f same)) says)

-- the plugins after the first met the lists after its own
pub met-rest : {P : Type 0} (stands : P → List Cell → ℕ → Type 0) (rules : List PluginRule) (input : StageList) (plugins rest : List P) (plugin : P) (cut j : ℕ)
    → plugins ≡ plugin ∷ rest → AllMetTo stands rules input cut j plugins → AllMetTo stands rules input cut (j + 1) rest
met-rest {P} stands rules input plugins rest plugin cut j e met =
    let M : List P → Type 0 = λ l. AllMetTo stands rules input cut j l in
    let B : ℕ → Type 0 = λ k. AllMetTo stands rules input cut k rest in
    let all : AllMetTo stands rules input cut j (plugin ∷ rest) = subst M e met in
    subst B (sym (add-one j)) all.1

-- what is appended in two pieces to a text, the second after the first
pub appended : (text own later whole pushed made : List ℕ) → made ≡ pushed ++ later → pushed ≡ text ++ own → whole ≡ own ++ later → made ≡ text ++ whole
appended text own later whole pushed made is first joined =
    is ∙ (ap (λ (l : List ℕ). l ++ later) first ∙ (append_assoc text own later ∙ ap (λ (l : List ℕ). text ++ l) (sym joined)))

-- plugins have a fault where the first of them has one or those after it have
faults-of-cons : {P : Type 0} (rule : P → PluginRule) (stands : P → List Cell → ℕ → Type 0) (rules : List PluginRule) (input : StageList)
    (rest : List P) (plugin : P) (item : PluginItem) (later : List PluginItem) (tables : List (List (List ℕ))) (j cut : ℕ) (one other : Bool)
    → AllMetTo stands rules input cut j (plugin ∷ rest) → rule plugin ≡ rule_of_item item (first_table tables)
    → ((history : List Cell) (mark : ℕ) → stands plugin history mark → mark ≤ cut → cut ≤ length history → one ≡ (rule plugin).has_fault (take cut history))
    → other ≡ faults_from rules input cut (j + 1) (named_rules later (later_tables tables))
    → (one || other) ≡ faults_from rules input cut j (named_rules (item ∷ later) tables)
faults-of-cons rule stands rules input rest plugin item later tables j cut one other met same says behind =
    let met_list : List Cell = take cut (stage_list rules input j).cells in
    let own : one ≡ (rule_of_item item (first_table tables)).has_fault met_list =
    says met.0.history met.0.mark met.0.holds met.0.told met.0.reach
    ∙ (ap (λ (cells : List Cell). (rule plugin).has_fault cells) met.0.same ∙ ap (λ (r : PluginRule). r.has_fault met_list) same) in
    ap (λ (b : Bool). b || other) own
    ∙ ap (λ (b : Bool). (rule_of_item item (first_table tables)).has_fault met_list || b)
    (behind ∙ ap (λ (k : ℕ). faults_from rules input cut k (named_rules later (later_tables tables))) (add-one j))

pub faults-split : {P : Type 0} (rule : P → PluginRule) (stands : P → List Cell → ℕ → Type 0) (rules : List PluginRule) (input : StageList)
    (plugins rest : List P) (plugin : P) (items later : List PluginItem) (item : PluginItem) (tables : List (List (List ℕ))) (j cut : ℕ) (one other either : Bool)
    → plugins ≡ plugin ∷ rest → items ≡ item ∷ later → map rule plugins ≡ rules_of (named_rules items tables) → AllMetTo stands rules input cut j plugins
    → ((history : List Cell) (mark : ℕ) → stands plugin history mark → mark ≤ cut → cut ≤ length history → one ≡ (rule plugin).has_fault (take cut history))
    → other ≡ faults_from rules input cut (j + 1) (named_rules later (later_tables tables)) → either ≡ (one || other)
    → either ≡ faults_from rules input cut j (named_rules items tables)
faults-split {P} rule stands rules input plugins rest plugin items later item tables j cut one other either e f same met says behind both =
    let M : List P → Type 0 = λ l. AllMetTo stands rules input cut j l in
    let B : List PluginItem → Type 0 = λ l. (one || other) ≡ faults_from rules input cut j (named_rules l tables) in
    both ∙ subst B (sym f)
    (faults-of-cons rule stands rules input rest plugin item later tables j cut one other (subst M e met)
    (first-same (rule plugin) (rule_of_item item (first_table tables)) (map rule rest) (rules_of (named_rules later (later_tables tables)))
    (rules-of-cons rule plugins rest plugin items later item tables e f same)) says behind)

-- the plugins after the first have the rules of the settings after the first
pub rest-rules : {P : Type 0} (rule : P → PluginRule) (plugins rest : List P) (plugin : P) (items later : List PluginItem) (item : PluginItem) (tables : List (List (List ℕ)))
    → plugins ≡ plugin ∷ rest → items ≡ item ∷ later → map rule plugins ≡ rules_of (named_rules items tables) → map rule rest ≡ rules_of (named_rules later (later_tables tables))
rest-rules rule plugins rest plugin items later item tables e f same =
    later-same (rule plugin) (rule_of_item item (first_table tables)) (map rule rest) (rules_of (named_rules later (later_tables tables)))
    (rules-of-cons rule plugins rest plugin items later item tables e f same)

-- lines that are not bare are those of the reports
printed-plain : (rules : List PluginRule) (input : StageList) (cut j : ℕ) (named : List NamedRule) → printed_from false rules input cut j named ≡ reports_from rules input cut j named
printed-plain rules input cut j [] = refl
printed-plain rules input cut j (plugin ∷ rest) =
    ap (λ (l : List ℕ). plugin_report (suc j) plugin.name (said_of plugin.rule (take cut (stage_list rules input j).cells)) ++ l) (printed-plain rules input cut (suc j) rest)

-- what is printed of a run, and then the line for its end or nothing, is its report
printed-asked : (bare : Bool) (rules : List PluginRule) (named : List NamedRule) (input : StageList) (cut : ℕ) (cause : Cause)
    → printed_from bare rules input cut 0 named ++ (if bare then [] else end_line cause cut)
    ≡ (if bare then printed_from true rules input cut 0 named else reports_from rules input cut 0 named ++ end_line cause cut)
printed-asked true rules named input cut cause = append-nil (printed_from true rules input cut 0 named)
printed-asked false rules named input cut cause = ap (λ (l : List ℕ). l ++ end_line cause cut) (printed-plain rules input cut 0 named)

-- the same of plugins whose rules are those of the settings
pub reports-same : (general : GeneralConf) (rules : List PluginRule) (named : List NamedRule) (input : StageList) (cut : ℕ) (cause : Cause) → rules ≡ rules_of named
    → printed_from general.bare rules input cut 0 named ++ (if general.bare then [] else end_line cause cut) ≡ reports_asked general named input cut cause
reports-same general rules named input cut cause same =
    ap (λ (rs : List PluginRule). printed_from general.bare rs input cut 0 named ++ (if general.bare then [] else end_line cause cut)) same
    ∙ printed-asked general.bare (rules_of named) named input cut cause

-- the status of a run, by whether it has a fault and whether something failed late, in other words
pub status-same : (general : GeneralConf) (faulty known : Bool) (why : Cause) (late told : Bool) (st : Status)
    → st ≡ run_status general faulty why late → faulty ≡ known → late ≡ told → st ≡ run_status general known why told
status-same general faulty known why late told st is one other =
    is ∙ (ap (λ (b : Bool). run_status general b why late) one ∙ ap (λ (b : Bool). run_status general known why b) other)
