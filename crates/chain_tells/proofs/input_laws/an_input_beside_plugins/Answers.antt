use Rattle.std.proofs.Common.{refl}
use Rattle.chain_tells.proofs.InputLemmas.{beside-plugins, beside-input}
use Rattle.chain_tells.proofs.input_laws.an_input_beside_plugins.Goals as goal

pub returns-clause-none : goal.returns-clause-none
returns-clause-none c = λ chain m. refl

pub returns-clause-plugins : goal.returns-clause-plugins
returns-clause-plugins c = beside-plugins

pub returns-clause-input : goal.returns-clause-input
returns-clause-input c = beside-input
