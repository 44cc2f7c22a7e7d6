use Rattle.std.proofs.Common.{◌≡◌, length}
use Rattle.plug_analyze.specs.ServicesKept.{changes_from, services_below}
use Rattle.plug_analyze.proofs.services.Services.fold_below.Given as goal

abbrev pub invariant-loop-change : goal.invariant-loop-change
invariant-loop-change l = record {
  services : services_below l.mark l.self.services.items l.self.changes.items ≡ services_below l.mark l.fn.self.services.items l.fn.self.changes.items;
  changes : changes_from l.mark l.self.changes.items ≡ changes_from l.mark l.fn.self.changes.items;
  force : l.self.force ≡ l.fn.self.force;
  reserved : l.self.changes.capacity ≡ l.fn.self.changes.capacity;
}

abbrev pub decreases-loop-change : goal.decreases-loop-change
decreases-loop-change l = length l.self.changes.items
