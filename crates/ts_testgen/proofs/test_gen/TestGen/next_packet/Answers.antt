use Rattle.std.proofs.Common.{◌≡◌, ◌+◌, ◌%◌, slice_index, slice_set, ◌∙◌, ap}
use Rattle.ts_testgen.specs.Counters.{counted_pids, counters_at}
use Rattle.ts_testgen.specs.Rules.{pid_at, pid_by, rule_at}
use Rattle.ts_testgen.proofs.Counting.{counters_more}
use Rattle.ts_testgen.proofs.test_gen.TestGen.next_packet.Goals as goal

pub invariant_of-self : goal.invariant_of-self
invariant_of-self c =
    let seed = c.self.inside.seed in
    let i = c.self.inside.given in
    let k = c.place-place.result in
    let e : slice_index counted_pids k ≡ pid_at seed i =
    c.place-place.ensures.place ∙ ap (λ t. pid_by t c.mixed-r.result) c.at-rule.ensures ∙ ap (pid_by (rule_at i)) c.mixed-r.ensures in
    let counters : c.count.new.counters ≡ counters_at seed (i + 1) =
    c.count.ensures ∙ ap (λ row. slice_set row k ((slice_index row k + 1) % 16)) c.self.invariant.0
    ∙ counters_more seed i k c.place-place.ensures.range e in
    (counters, c.self.invariant.1)
