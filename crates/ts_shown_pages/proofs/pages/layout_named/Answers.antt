use Rattle.std.proofs.Common.{sym, ◌∙◌}
use Rattle.ts_shown_pages.specs.Pages.{page_of, second_quarter, third_quarter, last_quarter}
use Rattle.ts_shown_pages.proofs.NamedLemmas.{meant_page, other_page, without_page, none_left, all_named}
use Rattle.ts_shown_pages.proofs.pages.layout_named.Goals.{in-Some+else-eq, in_default}
use Rattle.ts_shown_pages.proofs.pages.layout_named.Goals as goal

pub returns-then-eq-clause-page : goal.returns-then-eq-clause-page
unfolding second_quarter third_quarter last_quarter
returns-then-eq-clause-page c =
    meant_page page_of c.args.name.now _ c.loop-tag.tag-index _ c.loop-tag-test.true c.in-Some.ensures.page (sym c.if-eq.ensures)
    ∙ c.loop-tag.invariant
    ∙ all_named c.args.name.now

pub loop-tag-preserved : goal.loop-tag-preserved
loop-tag-preserved c = elim c.match-layout_of.branch [
  | in-Some+else-eq w ↦
      other_page page_of c.args.name.now _ c.loop-tag.tag-index _ c.loop-tag-test.true w.in-Some.ensures.page (sym w.if-eq.ensures)
      ∙ c.loop-tag.invariant
  | in_default w ↦
      without_page page_of c.args.name.now _ c.loop-tag.tag-index c.loop-tag-test.true w.in_default.ensures.page
      ∙ c.loop-tag.invariant
]

pub returns-clause-page : goal.returns-clause-page
unfolding second_quarter third_quarter last_quarter
returns-clause-page c =
    none_left page_of c.args.name.now _ c.loop-tag.tag-index c.loop-tag-test.false
    ∙ c.loop-tag.invariant
    ∙ all_named c.args.name.now
