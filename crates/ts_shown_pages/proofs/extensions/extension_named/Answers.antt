use Rattle.std.proofs.Common.{sym, ◌∙◌}
use Rattle.ts_shown_pages.specs.Extensions.{extensions, extension_of}
use Rattle.ts_shown_pages.proofs.NamedLemmas.{meant_page, other_page, without_page, none_left, all_extensions}
use Rattle.ts_shown_pages.proofs.extensions.extension_named.Goals.{in-Some+else-eq, in_default}
use Rattle.ts_shown_pages.proofs.extensions.extension_named.Goals as goal

pub returns-then-eq-clause-page : goal.returns-then-eq-clause-page
unfolding extensions
returns-then-eq-clause-page c =
    meant_page extension_of c.args.name.now _ c.loop-tag.tag-index _ c.loop-tag-test.true c.in-Some.ensures.page (sym c.if-eq.ensures)
    ∙ c.loop-tag.invariant
    ∙ all_extensions c.args.name.now

pub loop-tag-preserved : goal.loop-tag-preserved
loop-tag-preserved c = elim c.match-extension_of.branch [
  | in-Some+else-eq w ↦
      other_page extension_of c.args.name.now _ c.loop-tag.tag-index _ c.loop-tag-test.true w.in-Some.ensures.page (sym w.if-eq.ensures)
      ∙ c.loop-tag.invariant
  | in_default w ↦
      without_page extension_of c.args.name.now _ c.loop-tag.tag-index c.loop-tag-test.true w.in_default.ensures.page
      ∙ c.loop-tag.invariant
]

pub returns-clause-page : goal.returns-clause-page
unfolding extensions
returns-clause-page c =
    none_left extension_of c.args.name.now _ c.loop-tag.tag-index c.loop-tag-test.false
    ∙ c.loop-tag.invariant
    ∙ all_extensions c.args.name.now
