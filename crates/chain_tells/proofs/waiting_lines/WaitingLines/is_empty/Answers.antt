use Rattle.std.proofs.Common.{◌≡◌, ◌<◌, List, [], length, subst}
use Rattle.chain_tells.specs.Waiting.{told_rows}
use Rattle.chain_tells.specs.declared.line_row.LineRow.{LineRow}
use Rattle.chain_tells.proofs.NextLemmas.{none-then, some-then}
use Rattle.chain_tells.proofs.waiting_lines.WaitingLines.is_empty.Goals as goal

pub returns-clause-yes : goal.returns-clause-yes
returns-clause-yes c = λ is.
    subst (λ (rows : List LineRow). told_rows 0 rows ≡ []) c.deref.ensures.value
    (none-then c.next_row.result _ c.is_none.result c.is_none.ensures is c.next_row.ensures.none)

pub returns-clause-no : goal.returns-clause-no
returns-clause-no c = λ is.
    subst (λ (rows : List LineRow). 0 < length (told_rows 0 rows)) c.deref.ensures.value
    (some-then c.deref.result.now c.next_row.result c.is_none.result c.is_none.ensures is c.next_row.ensures.some)
