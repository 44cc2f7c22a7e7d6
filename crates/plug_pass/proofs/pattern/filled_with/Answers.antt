use Rattle.std.proofs.Common.{◌≡◌, ℕ, take, subst, sym, ◌∙◌, refl, arith}
use Rattle.std.proofs.lemmas.List.{take_all}
use Rattle.std.proofs.lemmas.Grind.{common_steps}
use Rattle.plug_pass.specs.PatternRule.{repeated}
use Rattle.plug_pass.proofs.Repeating.{repeated_more}
use Rattle.plug_pass.proofs.pattern.filled_with.Goals as goal

pub loop-k-preserved : goal.loop-k-preserved
loop-k-preserved c = grind (arith, common_steps, repeated_more)

pub returns : goal.returns
returns c =
    let e : c.loop-k.k ≡ 184 = omega arith in
    sym (take_all 184 c.loop-k.byte-items (omega arith))
    ∙ subst (λ (n : ℕ). take n c.loop-k.byte-items ≡ repeated c.args.pattern.now n) e c.loop-k.invariant

pub loop-k-init : goal.loop-k-init
unfolding repeated
loop-k-init c = refl
