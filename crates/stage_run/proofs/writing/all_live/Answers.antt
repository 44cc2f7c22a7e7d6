use Rattle.std.proofs.Common.{◌≡◌, ◌≤◌, Bool, true, false, not, refl, ◌++◌, [], ◌∷◌, length, take, sym, ap, subst, ◌∙◌, arith}
use Rattle.std.proofs.lemmas.List.{take_all, take_more}
use Rattle.std.proofs.lemmas.List.Elements.{All-push}
use Rattle.cell_rows.specs.declared.mark.Mark.{Mark}
use Rattle.stage_run.specs.Writing.{AreLive, IsLiveMark}
use Rattle.stage_run.proofs.writing.all_live.Goals as goal

not_false : (b : Bool) → not b ≡ false → b ≡ true
not_false true e = refl
not_false false e = cc

pub loop-i-preserved : goal.loop-i-preserved
loop-i-preserved c =
    let i = c.loop-i.i in let ms = c.args.marks.now in let m = c.index-marks-i.result in
    subst AreLive (sym (take_more ms i m c.loop-i-test.true ∙ ap (λ (x : Mark). take i ms ++ x ∷ []) (sym c.index-marks-i.is)))
    (All-push IsLiveMark (take i ms) m c.loop-i.invariant (not_false m.is_live c.if-not-mark.false))

pub returns : goal.returns
returns c = λ yes.
    let all : length c.args.marks.now ≤ c.loop-i.i = omega arith in
    subst AreLive (take_all c.loop-i.i c.args.marks.now all) c.loop-i.invariant
