-- The run without faults: what a chain means, with neither buffers nor threads nor faults in it.
-- This project's own rule.
use Rattle.std.specs.Prelude.{ℕ, List, take}
use Rattle.chain_model.specs.declared.cause.Cause.{Cause}
use Rattle.chain_model.specs.PluginRule.{PluginRule}
use Rattle.chain_model.specs.Apply.{StageList}
use Rattle.chain_model.specs.StageLists.{end_list}
use Rattle.chain_model.specs.Cut.{cut_of, cause_of}
use Rattle.chain_model.specs.Written.{written}
use Rattle.chain_model.specs.Reports.{NamedRule, rules_of, reports}

-- a chain over its input: the stuffed list, the plugins in order, each with its name, and the
-- numbers of the plugins that use joint termination
pub record Chain : Type 0 where
  pub input : StageList
  pub plugins : List NamedRule
  pub users : List ℕ

-- the rules of the plugins of a chain
abbrev pub chain_rules : Chain → List PluginRule
chain_rules chain = rules_of chain.plugins

-- the bytes that are written where the chain is cut at `m`
abbrev pub written_to : Chain → ℕ → List ℕ
written_to chain m = written (take m (end_list (chain_rules chain) chain.input).cells)

-- what is reported where the chain is cut at `m` for this cause
abbrev pub reported_at : Chain → ℕ → Cause → List ℕ
reported_at chain m cause = reports chain.plugins chain.input m cause

-- what a run gives
pub record PureRun : Type 0 where
  pub cut : ℕ
  pub cause : Cause
  pub written : List ℕ
  pub reported : List ℕ

-- where a chain is cut, and why
abbrev pub chain_cut : Chain → ℕ
chain_cut chain = cut_of (chain_rules chain) chain.input chain.users

abbrev pub chain_cause : Chain → Cause
chain_cause chain = cause_of (chain_rules chain) chain.input chain.users

-- the run without faults
abbrev pub pure_run : Chain → PureRun
pure_run chain = record {
  cut = chain_cut chain;
  cause = chain_cause chain;
  written = written_to chain (chain_cut chain);
  reported = reported_at chain (chain_cut chain) (chain_cause chain);
}
