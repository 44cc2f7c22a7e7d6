use Rattle.std.proofs.Common.{◌++◌, ◌∙◌, ap, false, map, string_bytes, subst}
use Rattle.std.proofs.lemmas.List.{take_all}
use Rattle.std.proofs.lemmas.List.Elements.{All-more}
use Rattle.ts_json_tables.specs.RunTables.{table_of_run}
use Rattle.ts_json_tables.specs.TableElements.{table_shown}
use Rattle.tabcomp_core.specs.ElementTexts.{children_text, head_text}
use Rattle.tabcomp_core.specs.Faithful.{IsFaithful}
use Rattle.tabcomp_core.proofs.AgainLemmas.{all_taken, later_more, text_more}
use Rattle.tabcomp_core.proofs.decompiling.open_text.Goals as goal

pub loop-run-preserved : goal.loop-run-preserved
loop-run-preserved c =
    let at = c.loop-run in
    record {
      text =
          text_more c.args.runs.now at.run-index c.run-item.result at.later (string_bytes at.text) (string_bytes c.push_run.new.text) c.loop-run-test.true c.run-item.is
          at.invariant.later c.in_ok-push_run.ensures.text at.invariant.text;
      later = later_more c.args.runs.now at.run-index c.run-item.result c.loop-run-test.true c.run-item.is;
      faithful =
          All-more IsFaithful c.args.runs.now at.run-index c.run-item.result c.loop-run-test.true at.invariant.faithful
          (subst IsFaithful c.run-item.is c.in_ok-push_run.ensures.faithful);
    }

pub returns-clause-text : goal.returns-clause-text
returns-clause-text c =
    c.loop-run.invariant.text
    ∙ ap (λ l. head_text ++ children_text false (map table_shown (map table_of_run l))) (take_all c.loop-run.run-index c.args.runs.now c.loop-run-test.false)

pub returns-clause-faithful : goal.returns-clause-faithful
returns-clause-faithful c = all_taken IsFaithful c.args.runs.now c.loop-run.run-index c.loop-run-test.false c.loop-run.invariant.faithful
