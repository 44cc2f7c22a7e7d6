use Rattle.std.proofs.Common.{inl, inr, refl, sym, ◌∙◌}
use Rattle.chain_tells.specs.Waiting.{waiting}
use Rattle.chain_tells.proofs.LiveLemmas.{when-ok, when-err}
use Rattle.chain_live_threads.proofs.ending.tell_rest.Goals as goal

pub returns-then-is_err-clause-tells : goal.returns-then-is_err-clause-tells
returns-then-is_err-clause-tells g c = λ rules input gave from met.
    (when-err c.take_rest.result _ (sym c.is_err.ensures.value ∙ c.if-is_err.true) (c.take_rest.ensures.keeps rules input gave from met), refl)

pub returns-then-is_empty-clause-tells : goal.returns-then-is_empty-clause-tells
returns-then-is_empty-clause-tells g c = λ rules input gave from met. (
  waiting c.take_rest.new.lines,
  when-ok c.take_rest.result _ (sym c.is_err.ensures.value ∙ c.if-is_err.false) (c.take_rest.ensures.takes rules input gave from met),
  inl (c.is_empty.ensures.yes c.if-is_empty.true, refl),
)

pub returns-clause-tells : goal.returns-clause-tells
returns-clause-tells g c = λ rules input gave from met. (
  waiting c.take_rest.new.lines,
  when-ok c.take_rest.result _ (sym c.is_err.ensures.value ∙ c.if-is_err.false) (c.take_rest.ensures.takes rules input gave from met),
  inr (c.is_empty.ensures.no c.if-is_empty.false, c.print_lines.ensures.prints),
)
