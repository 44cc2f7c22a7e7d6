use Rattle.std.proofs.Common.{List, [], ◌∷◌, sym, subst}
use Rattle.atomic_table.specs.Table.{opening}
use Rattle.window_ring.specs.declared.state.State.{State}
use Rattle.window_ring.specs.Turns.{Kept}
use Rattle.window_ring.specs.Views.{first_view}
use Rattle.window_ring.proofs.Opens.{opens}
use Rattle.window_ring.proofs.ring.Ring.open.Goals as goal

pub new-requires : goal.new-requires
new-requires c =
    let key = c.args.about.now in let r = c.requires in
    subst (λ (l : List State). Kept key (opening (0 ∷ []) l (first_view key))) (sym r.1) (opens key r.0 r.2)
