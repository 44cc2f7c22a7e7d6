use Rattle.std.proofs.Common.{◌≤◌, ℕ, List, Option, None, Some, take, subst, arith}
use Rattle.std.proofs.lemmas.List.{nil_from_length}
use Rattle.ts_packet.specs.declared.cell.Cell.{Cell}
use Rattle.cell_rows.specs.Cells.{cells_of}
use Rattle.chain_model.specs.Apply.{apply_after}
use Rattle.plugin_trait.specs.Driving.{Makes}
use Rattle.plugin_trait.specs.Steps.{IsPreallocatedFor}
use Rattle.plugin_trait.proofs.driver.apply_plugin.Goals as goal

-- room for the notes on some positions is room for those on fewer
preallocated_for_fewer : (preallocated : Option ℕ) (few many : ℕ) → few ≤ many → IsPreallocatedFor preallocated many → IsPreallocatedFor preallocated few
preallocated_for_fewer None few many le is = is
preallocated_for_fewer (Some room) few many le is = omega (arith, le, is)

pub returns-clause-room : goal.returns-clause-room
returns-clause-room g c = λ is.
    let met = c.requires.met in
    c.steps.ensures.room (record {
      history = met.history;
      mark = met.mark;
      holds = met.holds;
      count = met.count;
      within = preallocated_for_fewer (g.P.Plugin.preallocated c.args.plugin.now) _ _ (omega arith) is;
    })

pub returns-clause-makes : goal.returns-clause-makes
returns-clause-makes g c =
    let met = c.requires.met in
    let applied = c.steps in
    subst (λ (history : List Cell). Makes (apply_after (g.P.Plugin.rule c.args.plugin.now) history (cells_of c.args.packets.now c.args.marks.now))
    (take applied.result.count (cells_of applied.new.packets applied.new.marks)) applied.result.end) (nil_from_length met.history met.count)
    (applied.ensures.makes met.history met.mark met.holds met.count)
