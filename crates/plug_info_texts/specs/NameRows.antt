-- Rows of names as the program keeps them. This project's own rule.
use Rattle.std.specs.Prelude.{ℕ, List}
use Rattle.plug_info_texts.specs.declared.name_row.NameRow.{NameRow}
use Rattle.plug_info_texts.specs.declared.name_row.NameRow.TheVariants.{Named}

-- the number and the name of a row
abbrev pub named : NameRow → ℕ × List ℕ
named (Named number name) = (number, name.now)
