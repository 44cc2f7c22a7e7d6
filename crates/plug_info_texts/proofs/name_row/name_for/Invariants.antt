use Rattle.std.proofs.Common.{◌≡◌, drop, map}
use Rattle.plug_info_texts.specs.InfoNames.{text_for}
use Rattle.plug_info_texts.specs.NameRows.{named}
use Rattle.plug_info_texts.proofs.name_row.name_for.Given as goal

-- the result follows from the remaining rows
abbrev pub invariant-loop-row : goal.invariant-loop-row
invariant-loop-row l = text_for (map named (drop l.row-index l.rows)) l.wanted ≡ text_for (map named l.rows) l.wanted
