use Rattle.std.proofs.Common.{◌≡◌, ◌+◌, ◌∙◌, ◌++◌, ap, suc, set, replicate, drop, arith}
use Rattle.ts_packet.proofs.PidRows.{fill-step}
use Rattle.ts_packet.proofs.pid_row.fill.Goals as goal

pub loop-place-preserved : goal.loop-place-preserved
loop-place-preserved g c =
    let i = c.loop-place.place-index in
    let v = c.args.value in
    let one : suc i ≡ i + 1 = omega arith in
    ap (λ xs. set xs i v) c.loop-place.invariant ∙ fill-step i v c.args.values.now (omega (arith, c.loop-place-test.true))
    ∙ ap (λ n. replicate n v ++ drop n c.args.values.now) one
