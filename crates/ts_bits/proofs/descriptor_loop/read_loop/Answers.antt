use Rattle.std.proofs.Common.{◌≡◌, ◌-◌, length, take, drop, ap, ◌∙◌, arith}
use Rattle.std.specs.Prelude.{slice_index}
use Rattle.std.proofs.lemmas.List.{length-drop, length-take, take_rest}
use Rattle.ts_bits.proofs.Loops.{goes_on_at, stops, all_read}
use Rattle.ts_bits.proofs.descriptor_loop.read_loop.Goals as goal

pub returns-in_default : goal.returns-in_default
returns-in_default c =
    let part = take_rest c.args.from.now c.loop-offset.offset in
    let cut = rw part at c.in_default.ensures.passes in
    stops c.loop-offset.descriptors.items c.loop-offset.offset (drop c.loop-offset.offset c.args.from.now) _
    (omega (arith, length-drop c.loop-offset.offset c.args.from.now)) cut c.loop-offset.invariant.read

pub loop-offset-preserved : goal.loop-offset-preserved
loop-offset-preserved c =
    let rest = take (length c.args.from.now - c.loop-offset.offset) (drop c.loop-offset.offset c.args.from.now) in
    let sizes : length rest ≡ length c.args.from.now - c.loop-offset.offset =
    ap length (take_rest c.args.from.now c.loop-offset.offset) ∙ length-drop c.loop-offset.offset c.args.from.now in
    record {
      within = omega (arith, c.in-Some.ensures.within, ap length c.in-Some.ensures.begins, length-take (slice_index rest 1) (drop 2 rest), length-drop 2 rest, sizes);
      read =
          goes_on_at c.loop-offset.descriptors.items c.push.new.self.items c.in_ok-descriptor.descriptor c.loop-offset.offset c.args.from.now rest c.in-Some.body.now _
          (take_rest c.args.from.now c.loop-offset.offset) c.in_ok-push.ensures.items c.in-Some.ensures.within c.in-Some.ensures.begins c.in_ok-descriptor.ensures c.loop-offset.invariant.read;
    }

pub returns : goal.returns
returns c =
    all_read c.loop-offset.descriptors.items c.loop-offset.offset (drop c.loop-offset.offset c.args.from.now) _
    (omega (arith, length-drop c.loop-offset.offset c.args.from.now)) c.loop-offset.invariant.read
