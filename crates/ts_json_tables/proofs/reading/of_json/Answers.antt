use Rattle.serde_json.specs.View.{members_view}
use Rattle.ts_json_tables.specs.TableReading.{read_by_name}
use Rattle.ts_json_tables.proofs.ValidEnd.{answer_valid, name_valid}
use Rattle.ts_json_tables.proofs.reading.of_json.Goals as goal

pub returns-clause-valid : goal.returns-clause-valid
returns-clause-valid c =
    answer_valid c.read_named.result (read_by_name c.in_ok-name.name.now (members_view c.in_ok-members.members.now.entries)) c.read_named.ensures (name_valid c.in_ok-name.name.now (members_view c.in_ok-members.members.now.entries))
