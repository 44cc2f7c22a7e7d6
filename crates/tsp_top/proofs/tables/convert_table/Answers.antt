use Rattle.std.proofs.Common.{[], ◌∷◌, inr}
use Rattle.tsp_top.proofs.TableLemmas.{refused-ends, wants-all}
use Rattle.tsp_top.proofs.tables.convert_table.Goals as goal

pub returns-in-Ok : goal.returns-in-Ok
returns-in-Ok g c = λ old asked told. (record { bytes = c.args.bytes.now; told = told; are = c.in-Ok.ensures }, asked)

pub returns-in-Err-Refused : goal.returns-in-Err-Refused
returns-in-Err-Refused g c = λ old asked told.
    refused-ends c.args.plugin c.args.name.now c.in-Err-Refused.fault old (g.D.Desk.seen c.args.desk.now) (g.D.Desk.seen c.refuse_table.new.desk) c.refuse_table.result
    asked
    (record { bytes = c.args.bytes.now; told = told; are = rw c.in-Err-Refused.field-0-is at c.in-Err-Refused.ensures })
    c.refuse_table.ensures

pub returns-in-Err-NoMemory : goal.returns-in-Err-NoMemory
returns-in-Err-NoMemory g c = λ old asked told. inr (wants-all (c.args.name.now ∷ []) old (g.D.Desk.seen c.args.desk.now) asked)
