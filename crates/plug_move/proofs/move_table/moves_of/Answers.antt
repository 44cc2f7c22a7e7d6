use Rattle.std.proofs.Common.{rules, ◌≡◌, get_or}
use Rattle.plug_move.specs.MoveTables.{move_of}
use Rattle.plug_move.specs.declared.move_table.Move.TheVariants.{Keep}
use Rattle.plug_move.proofs.Targets.{leads_to_pid}
use Rattle.plug_move.proofs.move_table.moves_of.Goals as goal

pub returns : goal.returns
returns c = record {
  tells = λ pid below.
      let told : get_or c.in_ok-moves.moves pid Keep ≡ move_of c.args.pairs.now c.args.unchecked pid = (let call = c.in_ok-moves.ensures pid Keep below in search rules) in
      told;
  leads = λ pid. leads_to_pid c.args.pairs.now _ pid c.requires;
}
