use Rattle.std.proofs.Common.{◌+◌, [], sym, subst}
use Rattle.atomic_table.specs.Table as table
use Rattle.atomic_table.specs.Table.{Me}
use Rattle.window_ring.specs.declared.state.State.{State}
use Rattle.window_ring.specs.declared.view.View.{View}
use Rattle.window_ring.specs.Turns.{Kept}
use Rattle.window_ring.specs.Views.{at_rest, root_view}
use Rattle.window_ring.proofs.Steps.{split}
use Rattle.window_ring.proofs.ring.Ring.next_seat.Goals as goal

pub split_seat-requires : goal.split_seat-requires
split_seat-requires c =
    let key = c.args.self.now.table.shared.key in let id = c.args.root.now.id in let made = c.requires.root.0 in let held = c.requires.root.1 in let e = c.requires.root.2 in
    (c.requires.of_table, c.requires.words, subst (λ (me : Me State View). table.Splits (Kept key) id me.0 (root_view me.0.key (me.0.made + 1) me.0.held) (at_rest me.0.key me.0.made [] [])) (sym e) (split key id made held))
