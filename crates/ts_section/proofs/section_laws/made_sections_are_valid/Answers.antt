use Rattle.ts_section.proofs.WrittenLemmas.{long_section-is, short_section-is}
use Rattle.ts_section.proofs.section_laws.made_sections_are_valid.Goals as goal

pub returns-clause-long : goal.returns-clause-long
returns-clause-long c =
    λ head body valid_id extension version numbers last bytes room. long_section-is head body valid_id extension version numbers last bytes room

pub returns-clause-short : goal.returns-clause-short
returns-clause-short c = λ id own body valid_id bytes room. short_section-is id own body valid_id bytes room
