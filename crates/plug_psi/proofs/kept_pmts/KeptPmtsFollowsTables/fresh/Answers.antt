use Rattle.std.proofs.Common.{sym, ap, ◌∙◌}
use Rattle.std.specs.Prelude.{nat_eq, option_map}
use Rattle.std.specs.Map.{lookup}
use Rattle.ts_psi.specs.PsiTables.{pmt_held}
use Rattle.plug_psi.specs.InForce.{current_pmt}
use Rattle.plug_psi.proofs.FoundLemmas.{found-none}
use Rattle.plug_psi.proofs.kept_pmts.KeptPmtsFollowsTables.fresh.Goals as goal

pub returns : goal.returns
returns c = λ service. ap (λ entries. option_map pmt_held (lookup (nat_eq service) entries)) c.new.ensures.empty ∙ sym (found-none (current_pmt service) c.args._pid)
