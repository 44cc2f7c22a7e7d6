use Rattle.std.proofs.Common.{◌∙◌, ℕ, Bool, List, arith, refl}
use Rattle.ts_json_descr.proofs.BodyLemmas.{sized_large, sized_small}
use Rattle.ts_json_descr.proofs.StepLemmas.{refusal_stops}
use Rattle.ts_json_descr.proofs.reading.sized_descr.Goals as goal

pub returns-then-bytes-gt255 : goal.returns-then-bytes-gt255
returns-then-bytes-gt255 c =
    rw (sized_large c.length_of_bits.ensures.bytes c.args.tag c.args.bytes.now (omega (arith, c.if-bytes-gt255.true)))
    (refusal_stops (ℕ × List Bool) c.refuse_key.result _ _ c.refuse_key.ensures)

pub returns : goal.returns
returns c =
    sized_small c.length_of_bits.ensures.bytes c.args.tag c.args.bytes.now (omega (arith, c.if-bytes-gt255.false))
    ∙ rw c.in_ok-new.ensures refl
