use Rattle.std.proofs.Common.{◌-◌, ◌/◌, ◌^◌, ◌++◌, ◌∷◌, [], sym, ap, ◌∙◌, append-nil}
use Rattle.std.specs.Prelude.{nat_eq}
use Rattle.std.proofs.lemmas.Nat.Bits.{shr_and_one}
use Rattle.ts_fields.proofs.WriteLemmas.{put_more}
use Rattle.ts_fields.proofs.BitLemmas.{bits-zero}
use Rattle.ts_fields.proofs.writer.BitWriter.put.Goals as goal

pub loop-i-init : goal.loop-i-init
loop-i-init c = sym (ap (λ l. c.args.self.now ++ l) (bits-zero (c.args.value / 2 ^ (c.args.count - 0))) ∙ append-nil c.args.self.now)

pub loop-i-preserved : goal.loop-i-preserved
loop-i-preserved c =
    put_more c.args.self.now c.loop-i.self c.put_bit.new.self c.loop-i.i c.args.count c.args.value c.loop-i-test.true c.loop-i.invariant
    (c.in_ok-put_bit.ensures ∙ ap (λ n. c.loop-i.self ++ nat_eq n 1 ∷ []) (shr_and_one c.args.value (c.args.count - 1 - c.loop-i.i)))
