use Rattle.chain_live.proofs.LineLaws.{grows, grows-bytes, just}
use Rattle.chain_live.proofs.laws.a_report_grows.Goals as goal

pub returns-clause-grows : goal.returns-clause-grows
returns-clause-grows c = grows

pub returns-clause-bytes : goal.returns-clause-bytes
returns-clause-bytes c = grows-bytes

pub returns-clause-just : goal.returns-clause-just
returns-clause-just c = just
