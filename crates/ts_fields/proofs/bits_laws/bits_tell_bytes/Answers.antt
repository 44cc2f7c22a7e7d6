use Rattle.ts_fields.proofs.BodyLemmas.{same_bytes}
use Rattle.ts_fields.proofs.bits_laws.bits_tell_bytes.Goals as goal

pub returns : goal.returns
returns c = λ a b fit fit_too same. same_bytes a b fit fit_too same
