use Rattle.std.proofs.Common.{subst}
use Rattle.ts_descr.specs.Descriptors.{Writes}
use Rattle.plug_psi.proofs.WrittenLemmas.{written_is}
use Rattle.plug_psi.proofs.written.in_room.Goals as goal

pub returns-in-Ok : goal.returns-in-Ok
returns-in-Ok c = λ p h writes. written_is c.written_rows_are_whole.ensures.bytes c.length_of_bits.ensures.bytes p h c.in-Ok.descriptor c.body-fits.ensures.fits (subst (Writes p h) c.in-Ok.is writes)
