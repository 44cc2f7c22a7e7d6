use Rattle.std.proofs.lemmas.Result.{err_from_is_err_and}
use Rattle.serde_json.specs.View.{members_view}
use Rattle.ts_json_tables.proofs.HeadLemmas.{pid_reads, pid_stops}
use Rattle.ts_json_tables.proofs.heading.read_pid.Goals as goal

pub returns-in_err-pid : goal.returns-in_err-pid
returns-in_err-pid c =
    let p = err_from_is_err_and c.from_residual.result c.from_residual.ensures.1 in
    rw (p.1, p.2) (pid_stops c.in_err-pid.field-0.0 (members_view c.args.members.now.entries) c.in_err-pid.ensures.read)

pub returns : goal.returns
returns c = pid_reads (members_view c.args.members.now.entries) c.in_ok-pid.pid c.in_ok-pid.ensures.read
