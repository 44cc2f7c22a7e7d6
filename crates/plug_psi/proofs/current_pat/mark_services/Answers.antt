use Rattle.std.proofs.Common.{◌==◌, ◌||◌, ap}
use Rattle.std.specs.List.{list_any}
use Rattle.plug_psi.proofs.PatLemmas.{pairs_of}
use Rattle.plug_psi.proofs.current_pat.mark_services.Goals as goal

pub loop-service-init : goal.loop-service-init
loop-service-init c = λ pid. ap (λ b. b || list_any (λ entry. entry.1 == pid) (pairs_of c.args.services.now)) (c.requires pid)
