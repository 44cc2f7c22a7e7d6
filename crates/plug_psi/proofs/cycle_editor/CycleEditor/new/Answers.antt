use Rattle.std.proofs.Common.{ap}
use Rattle.plug_psi.proofs.EditorLemmas.{stands-first}
use Rattle.plug_psi.proofs.cycle_editor.CycleEditor.new.Goals as goal

pub returns-clause-fresh : goal.returns-clause-fresh
returns-clause-fresh g c =
    record {
      contents_taken = c.new-2.ensures c.args.pid;
      same_pid = ap (λ v. v.pid) c.in_ok-cycle.ensures;
      to_come = λ later more alike. stands-first _ c.in_ok-cycle.cycle.left (ap (λ v. v.left) c.in_ok-cycle.ensures);
      unchanged = λ e. cc;
    }
