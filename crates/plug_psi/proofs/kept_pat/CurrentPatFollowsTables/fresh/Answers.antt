use Rattle.std.proofs.Common.{sym, ap, ◌∙◌}
use Rattle.std.specs.Prelude.{option_map}
use Rattle.ts_psi.specs.PatTables.{pat_held}
use Rattle.plug_psi.specs.InForce.{current_pat}
use Rattle.plug_psi.proofs.FoundLemmas.{found-none}
use Rattle.plug_psi.proofs.kept_pat.CurrentPatFollowsTables.fresh.Goals as goal

pub returns : goal.returns
returns c = ap (option_map pat_held) c.in_ok-none.ensures ∙ sym (found-none current_pat c.args._pid)
