use Rattle.std.proofs.Common.{sym, ◌∙◌}
use Rattle.ts_fields.proofs.WriteLemmas.{no_rest}
use Rattle.ts_fields.proofs.writer.BitWriter.into_bytes.Goals as goal

pub returns : goal.returns
returns c =
    no_rest c.self.inside.whole.items c.self.inside.count c.self.inside.pending c.self.invariant.0 (rw (sym c.self.view_is) at c.requires)
    ∙ c.self.view_is
