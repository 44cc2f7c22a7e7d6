use Rattle.std.proofs.Common.{◌≡◌, ◌<◌, List, ℕ, length, take, ◌++◌, arith}
use Rattle.std.proofs.lemmas.Grind.{common_steps}
use Rattle.ts_outside.specs.Source.{unread}
use Rattle.ts_outside.proofs.Views.{views}
use Rattle.ts_outside.proofs.reading.read_to_end.Goals as goal

pub returns-then-count-most : goal.returns-then-count-most
returns-then-count-most g c =
    let all : List ℕ = c.loop-count.bytes.items ++ take c.in-Ok.count c.read.new.into in
    let long : c.args.most < length all = grind (arith, common_steps) in
    let front : g.S.Source.seen c.args.source.now ≡ unread all (g.S.Source.seen c.read.new.self) = grind (arith, common_steps, views) in
    record { read = (all, long, front) }
