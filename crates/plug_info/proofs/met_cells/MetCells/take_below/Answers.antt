use Rattle.std.proofs.Common.{◌≡◌, ◌∙◌, sym, subst, refl, arith}
use Rattle.plug_info.specs.MetState.{HasMet}
use Rattle.plug_info.proofs.MetLemmas.{met_taken, takes_some}
use Rattle.plug_info.proofs.met_cells.MetCells.take_below.Goals as goal

pub loop-self-init : goal.loop-self-init
loop-self-init c = record {
  met = λ history before w later within. (
    subst (HasMet c.args.self.now history) (sym w.marked) w,
    omega (arith, w.marked, later),
  );
  reserved = refl;
}

pub take-requires : goal.take-requires
take-requires c =
    takes_some c.loop-self.self c.requires.history _ (c.loop-self.invariant.met c.requires.history c.requires.mark c.requires.holds c.requires.not_below c.requires.met).0
    c.in-Some.cell _ c.in-Some.ensures.first

pub loop-self-preserved : goal.loop-self-preserved
loop-self-preserved c = record {
  met = λ history before w later within.
      let now = c.loop-self.invariant.met history before w later within in (
        met_taken c.loop-self.self history _ now.0 c.in-Some.cell _ c.in-Some.ensures.first _ refl refl c.in_ok-take.ensures,
        omega (arith, c.loop-self-test.true),
      );
  reserved = c.next_cell.ensures.reserved ∙ c.loop-self.invariant.reserved;
}

pub returns-clause-met : goal.returns-clause-met
returns-clause-met c = λ history before w later within.
    let now = c.loop-self.invariant.met history before w later within in
    let there : c.loop-self.self.mark ≡ c.args.mark = omega (arith, now.1, c.loop-self-test.false) in
    subst (HasMet c.loop-self.self history) there now.0
