-- The faults of a run, by what its plugins say of the cells before its cut. This project's own rule.
use Rattle.std.specs.Prelude.{ℕ, suc, Bool, false, ◌||◌, List, [], ◌∷◌, take, Option}
use Rattle.chain_model.specs.PluginRule.{PluginRule}
use Rattle.chain_model.specs.Apply.{StageList}
use Rattle.chain_model.specs.StageLists.{stage_list}
use Rattle.chain_model.specs.Reports.{NamedRule}
use Rattle.chain_model.specs.PureRun.{Chain, chain_rules}
use Rattle.chain_model.specs.declared.cause.Cause.{Cause}
use Rattle.chain_args.specs.declared.general_conf.GeneralConf.{GeneralConf}
use Rattle.tsp_top.specs.LeftOut.{LeftOut, input_faulty}
use Rattle.tsp_top.specs.PlannedChain.{stuffing_of}

-- whether plugin `j` or one after it has a fault: each over the first `m` cells of the list that it meets
abbrev pub faults_from : List PluginRule → StageList → ℕ → ℕ → List NamedRule → Bool
faults_from rules input m j [] = false
faults_from rules input m j (plugin ∷ rest) =
    plugin.rule.has_fault (take m (stage_list rules input j).cells) || faults_from rules input m (suc j) rest

-- whether a plugin of a chain that is cut at `m` has one
abbrev pub has_faults : Chain → ℕ → Bool
has_faults chain m = faults_from (chain_rules chain) chain.input m 0 chain.plugins

-- whether the input has one, of which this is left out, or a plugin
abbrev pub run_faults : GeneralConf → Option LeftOut → Chain → ℕ → Cause → Bool
run_faults general left_out chain m why = input_faulty (stuffing_of general) left_out m why || has_faults chain m
