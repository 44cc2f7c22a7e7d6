use Rattle.std.proofs.Common.{◌≡◌, List, Some, None, ap, sym, ◌∙◌, subst}
use Rattle.std.specs.Prelude.{slice_get}
use Rattle.std.specs.Option.{option_map}
use Rattle.chain_rounds.specs.Told.{place_of}
use Rattle.chain_rounds.specs.declared.told_line.ToldLine.{ToldLine}
use Rattle.chain_tells.specs.Waiting.{told_rows}
use Rattle.chain_tells.specs.declared.line_row.LineRow.{LineRow}
use Rattle.chain_tells.proofs.waiting_lines.WaitingLines.next_at.Goals as goal

pub returns-in-Some : goal.returns-in-Some
returns-in-Some c =
    let next = c.in-Some.ensures.some in
    subst (λ (rows : List LineRow). Some c.in-Some.next.at ≡ option_map place_of (slice_get (told_rows 0 rows) 0)) c.deref.ensures.value
    (ap Some next.at_is ∙ sym (ap (λ (l : List ToldLine). option_map place_of (slice_get l 0)) next.begins))

pub returns-in-None : goal.returns-in-None
returns-in-None c =
    subst (λ (rows : List LineRow). None ≡ option_map place_of (slice_get (told_rows 0 rows) 0)) c.deref.ensures.value
    (sym (ap (λ (l : List ToldLine). option_map place_of (slice_get l 0)) c.in-None.ensures.none))
