use Rattle.std.proofs.Common.{◌≡◌, ◌++◌, false, map, string_bytes, take}
use Rattle.std.specs.Prelude.{All}
use Rattle.ts_json_tables.specs.RunTables.{table_of_run}
use Rattle.ts_json_tables.specs.TableElements.{table_shown}
use Rattle.tabcomp_core.specs.ElementTexts.{children_text, head_text}
use Rattle.tabcomp_core.specs.Faithful.{IsFaithful}
use Rattle.tabcomp_core.proofs.ChildrenTexts.{has_before}
use Rattle.tabcomp_core.proofs.decompiling.open_text.Given as goal

abbrev pub invariant-loop-run : goal.invariant-loop-run
invariant-loop-run l = record {
  text : string_bytes l.text ≡ head_text ++ children_text false (map table_shown (map table_of_run (take l.run-index l.runs)));
  later : l.later ≡ has_before false (take l.run-index l.runs);
  faithful : All IsFaithful (take l.run-index l.runs);
}
