use Rattle.std.proofs.Common.{◌≡◌, ℕ, take, subst, sym, ◌∙◌, refl, arith}
use Rattle.std.proofs.lemmas.List.{take_all}
use Rattle.std.proofs.lemmas.Grind.{common_steps}
use Rattle.ts_testgen.specs.Mixed.{mixed_bytes}
use Rattle.ts_testgen.proofs.Spreading.{mixed_more}
use Rattle.ts_testgen.proofs.mixed.mixed_bytes.Goals as goal

pub loop-k-init : goal.loop-k-init
unfolding mixed_bytes
loop-k-init c = refl

pub loop-k-preserved : goal.loop-k-preserved
loop-k-preserved c = grind (arith, common_steps, mixed_more)

pub returns : goal.returns
returns c =
    let e : c.loop-k.k ≡ 184 = omega arith in
    sym (take_all 184 c.loop-k.byte-items (omega arith))
    ∙ subst (λ (n : ℕ). take n c.loop-k.byte-items ≡ mixed_bytes c.args.r n) e c.loop-k.invariant
