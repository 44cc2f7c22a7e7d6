use Rattle.std.proofs.Common.{◌++◌, ap, sym, subst}
use Rattle.atomic_table.specs.Table as table
use Rattle.atomic_table.specs.Table.{Me}
use Rattle.window_ring.specs.declared.state.State.{State}
use Rattle.window_ring.specs.declared.view.View.{View}
use Rattle.window_ring.specs.Turns.{Kept}
use Rattle.window_ring.specs.Views.{root_view, spent_view}
use Rattle.window_ring.proofs.Steps.{join}
use Rattle.window_ring.proofs.ring.Ring.take_back.Goals as goal

pub join_seat-requires : goal.join_seat-requires
join_seat-requires c =
    let key = c.args.self.now.table.shared.key in let id = c.args.root.now.id in let made = c.requires.root.0 in let held = c.requires.root.1 in let e = c.requires.root.2 in
    let other = c.args.seat.id in let k = c.requires.rests.0 in let seen = c.requires.rests.1 in let busy = c.requires.rests.2 in let r = c.requires.rests.3 in (
      c.requires.of_table.0,
      c.requires.of_table.1,
      ap (λ (me : Me State View). me.1) r,
      c.requires.words,
      subst (λ (me : Me State View). table.Joins (Kept key) id me.0 other c.args.seat.me.0 (root_view me.0.key me.0.made (c.args.seat.me.0.held ++ me.0.held)) spent_view) (sym e)
          (subst (λ (me : Me State View). table.Joins (Kept key) id (root_view key made held) other me.0 (root_view key made (me.0.held ++ held)) spent_view) (sym r) (join key id made held other k seen busy)),
    )
