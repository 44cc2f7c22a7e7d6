use Rattle.std.proofs.Common.{ℕ, ◌+◌, List, ◌∷◌, [], ◌++◌, set, arith, ◌∙◌, sym, ap, subst}
use Rattle.plugin_notes.specs.Tallies.{IsTally}
use Rattle.plugin_notes.proofs.Tallying.{adds, small_count}
use Rattle.plugin_notes.proofs.tally.Tally.add.Goals as goal

pub overflow_add-count : goal.overflow_add-count
overflow_add-count c =
    let few = small_count _ _ _ c.args.pid c.requires.room.tally c.requires.on_pid in
    omega (arith, few, c.requires.room.few, c.get-count.ensures 0)

pub returns : goal.returns
returns c = λ pids tally.
    subst (λ (counts : List ℕ). IsTally counts (c.args.self.now.total + 1) (pids ++ c.args.pid ∷ []))
    (sym (c.set.ensures.values ∙ ap (λ (n : ℕ). set c.args.self.now.counts c.args.pid (n + 1)) (c.get-count.ensures 0)))
    (adds _ pids _ c.args.pid tally c.requires.on_pid)
