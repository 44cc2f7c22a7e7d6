use Rattle.std.proofs.Common.{◌^◌, ◌/◌, ◌<◌, arith, le_trans}
use Rattle.std.proofs.lemmas.Nat.{shr_le}
use Rattle.chain_core.proofs.SetLaws.{has-beyond, none-from, next-is}
use Rattle.chain_core.proofs.stage_set.StageSet.next_from.Goals as goal

pub returns-then-from-ge64-clause-none : goal.returns-then-from-ge64-clause-none
returns-then-from-ge64-clause-none c = λ k le. has-beyond c.args.self.now k (le_trans c.if-from-ge64.true le)

pub returns-then-rest-eq0-clause-none : goal.returns-then-rest-eq0-clause-none
returns-then-rest-eq0-clause-none c = λ k le. none-from c.args.self.now c.args.from k c.if-rest-eq0.true le

pub returns-clause-some : goal.returns-clause-some
returns-clause-some c =
    let set = c.args.self.now in let from = c.args.from in
    let fits : set.bits < 2 ^ 64 = omega arith in
    let less = shr_le set.bits from in let n = c.if-rest-eq0.false in
    next-is set from fits (omega (arith, less, fits)) (let k : 0 < set.bits / 2 ^ from = omega arith in k)
