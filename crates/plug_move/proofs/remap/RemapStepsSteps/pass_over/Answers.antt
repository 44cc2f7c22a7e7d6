use Rattle.std.proofs.Common.{ℕ, ◌∷◌, [], List, append-nil, subst, sym, ◌∙◌}
use Rattle.std.proofs.lemmas.Grind.{flat_map-append}
use Rattle.ts_packet.specs.Cells.{Dropped, live_packets, packet_in}
use Rattle.plugin_trait.proofs.FindLemmas.{find-dropped}
use Rattle.plug_move.specs.RemapRule.{moves}
use Rattle.plug_move.specs.RemapState.{MapperStands}
use Rattle.plug_move.proofs.StepLemmas.{marks-more}
use Rattle.plug_move.proofs.remap.RemapStepsSteps.pass_over.Goals as goal

pub returns-clause-meets : goal.returns-clause-meets
returns-clause-meets c = λ history mark stands count.
    let s = c.args.self.now in (
      (
        subst (λ (met : List (List ℕ)). MapperStands s.table.0 s.tables met) (sym (flat_map-append packet_in history (Dropped ∷ []) ∙ append-nil (live_packets history))) stands.0.0,
        find-dropped (moves s.table.0) history s.found stands.0.1,
      ),
      marks-more history Dropped mark stands.1,
    )
