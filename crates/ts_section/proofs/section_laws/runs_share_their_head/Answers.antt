use Rattle.std.proofs.Common.{refl}
use Rattle.ts_section.specs.SectionFields.{head_fields}
use Rattle.ts_section.proofs.RunLemmas.{whole_members, head_from_member, together_long, alone_only}
use Rattle.ts_section.proofs.section_laws.runs_share_their_head.Goals as goal

pub returns-clause-head : goal.returns-clause-head
returns-clause-head c =
    λ first rest k whole together inside. head_from_member first _ (head_fields first) k refl ((whole_members first rest together whole).0 k inside)

pub returns-clause-long : goal.returns-clause-long
returns-clause-long c = λ s together. together_long s together

pub returns-clause-alone : goal.returns-clause-alone
returns-clause-alone c = λ first rest whole alone. alone_only first rest whole alone
