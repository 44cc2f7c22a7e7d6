use Rattle.std.proofs.Common.{◌<◌, ◌∷◌, [], ap, length, length-append, arith}
use Rattle.ts_packet.proofs.PidRows.{each-more}
use Rattle.ts_packet.proofs.pid_row.values_of.Goals as goal

pub loop-pid-preserved : goal.loop-pid-preserved
loop-pid-preserved g c = record {
  so_far = omega (arith, ap length c.in_ok-push.ensures.items, length-append c.loop-pid.values.items (c.f.result ∷ []), c.loop-pid.invariant.so_far);
  each = each-more (λ k x. goal.F-post g c.args.f k x) c.loop-pid.values.items c.push.new.self.items c.f.result c.loop-pid.pid
      c.in_ok-push.ensures.items c.loop-pid.invariant.so_far c.f.ensures c.loop-pid.invariant.each;
}

pub returns-clause-each : goal.returns-clause-each
returns-clause-each g c = λ pid other lt. let below : pid < c.loop-pid.pid = omega arith in c.loop-pid.invariant.each pid other below
