use Rattle.ts_bits.proofs.Loops.{written_more, fit_more}
use Rattle.ts_bits.proofs.descriptor_loop.write_loop.Goals as goal

pub loop-descriptor-preserved : goal.loop-descriptor-preserved
loop-descriptor-preserved c = record {
  written = written_more c.args.descriptors.now c.loop-descriptor.descriptor-index c.descriptor-item.result c.loop-descriptor.bytes.items _ c.loop-descriptor-test.true c.descriptor-item.is c.loop-descriptor.invariant.written c.in_ok-put_descriptor.ensures.written;
  fit = fit_more c.args.descriptors.now c.loop-descriptor.descriptor-index c.descriptor-item.result c.loop-descriptor-test.true c.descriptor-item.is c.loop-descriptor.invariant.fit c.in_ok-put_descriptor.ensures.fits;
}
