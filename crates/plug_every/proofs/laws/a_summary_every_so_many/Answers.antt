use Rattle.std.proofs.Common.{Bool, [], ◌∷◌, ◌++◌, ap, ◌∙◌, if◌then◌else◌, append-nil}
use Rattle.ts_packet.specs.Cells.{Live}
use Rattle.plug_every.specs.EveryRule.{summed_up}
use Rattle.plug_every.proofs.laws.a_summary_every_so_many.Goals as goal

pub returns-clause-due : goal.returns-clause-due
returns-clause-due c = λ n counts rule history packet labels due.
    ap (λ (b : Bool). rule.lines_of history packet labels ++ (if b then summed_up counts rule (history ++ Live packet labels ∷ []) else [])) due

pub returns-clause-none : goal.returns-clause-none
returns-clause-none c = λ n counts rule history packet labels due.
    ap (λ (b : Bool). rule.lines_of history packet labels ++ (if b then summed_up counts rule (history ++ Live packet labels ∷ []) else [])) due
    ∙ append-nil (rule.lines_of history packet labels)
