use Rattle.std.proofs.Common.{ℕ, ◌+◌, ◌-◌, ◌*◌, ◌%◌, ◌<◌, ◌≤◌, ap, sym, ◌∙◌, arith}
use Rattle.plug_restuff.proofs.SlotLemmas.{stays, stays-part, goes, goes-part, no-slot}
use Rattle.plug_restuff.proofs.slot_count.SlotCount.step.Goals as goal

pub returns-then-self-clause-is : goal.returns-then-self-clause-is
returns-then-self-clause-is c =
    let count = c.args.self.now in
    let now = c.requires.counts in
    sym (no-slot count.from count.to count.cell (omega (arith, now.least, now.lower)) (omega (arith, c.if-self.true, now.part)))

pub returns-then-self-clause-counts : goal.returns-then-self-clause-counts
returns-then-self-clause-counts c =
    let count = c.args.self.now in
    let now = c.requires.counts in
    let some : 0 < count.from = omega (arith, now.least, now.lower) in
    let few : count.cell * count.to % count.from + count.to < count.from = omega (arith, c.if-self.true, now.part) in
    record {
      least = now.least;
      lower = now.lower;
      most = now.most;
      slots = now.slots ∙ sym (stays count.from count.to count.cell some few);
      part = ap (λ (n : ℕ). n + count.to) now.part ∙ sym (stays-part count.from count.to count.cell some few);
    }

pub returns-clause-counts : goal.returns-clause-counts
returns-clause-counts c =
    let count = c.args.self.now in
    let now = c.requires.counts in
    let some : 0 < count.from = omega (arith, now.least, now.lower) in
    let enough : count.from ≤ count.cell * count.to % count.from + count.to = omega (arith, c.if-self.false, now.part) in
    record {
      least = now.least;
      lower = now.lower;
      most = now.most;
      slots = ap (λ (n : ℕ). n + 1) now.slots ∙ sym (goes count.from count.to count.cell some now.lower enough);
      part = ap (λ (n : ℕ). n + count.to - count.from) now.part ∙ sym (goes-part count.from count.to count.cell some now.lower enough);
    }
