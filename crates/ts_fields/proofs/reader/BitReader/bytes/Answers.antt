use Rattle.std.proofs.Common.{◌≡◌, ◌++◌, ◌∷◌, [], sym, arith}
use Rattle.ts_fields.proofs.ReadLemmas.{bytes_goes_on, bytes_ends, bytes_done, read_small}
use Rattle.ts_fields.proofs.reader.BitReader.bytes.Goals as goal

pub returns-in_default : goal.returns-in_default
returns-in_default c = bytes_ends _ c.args.count c.loop.counter c.loop.rest _ c.loop-test.true c.in_default.ensures c.loop.invariant

pub overflow_cast-byte : goal.overflow_cast-byte
overflow_cast-byte c = omega (arith, read_small 8 c.loop.rest c.in-Some.byte c.in-Some.after (sym c.in-Some.ensures))

pub loop-preserved : goal.loop-preserved
loop-preserved c =
    let more : c.push.new.self.items ≡ c.loop.bytes.items ++ c.in-Some.byte ∷ [] = c.in_ok-push.ensures.items in
    rw more (bytes_goes_on _ c.args.count c.loop.counter c.loop.rest c.in-Some.byte c.in-Some.after _ c.loop-test.true c.in-Some.ensures c.loop.invariant)

pub returns : goal.returns
returns c = bytes_done _ c.args.count c.loop.counter c.loop.rest _ c.loop-test.false c.loop.invariant
