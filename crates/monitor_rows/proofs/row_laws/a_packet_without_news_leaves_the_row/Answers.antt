use Rattle.std.proofs.Common.{sym}
use Rattle.monitor_rows.proofs.Rowing.{names_stay, quiet_row, quiet_told}
use Rattle.monitor_rows.proofs.row_laws.a_packet_without_news_leaves_the_row.Goals as goal

pub returns-clause-stands : goal.returns-clause-stands
returns-clause-stands c = λ rule row history packet labels has no_look same occurring.
    quiet_row rule history packet labels row (names_stay rule row history packet labels has same) no_look (λ i d within. sym (occurring _))

pub returns-clause-tells : goal.returns-clause-tells
returns-clause-tells c = λ rule history packet no_look. sym (quiet_told rule history packet no_look)
