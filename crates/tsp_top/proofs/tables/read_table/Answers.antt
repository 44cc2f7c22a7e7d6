use Rattle.std.proofs.Common.{◌≡◌, ℕ, List, [], ◌∷◌, IfSome, subst, sym, ◌∙◌, inr}
use Rattle.ts_outside.specs.Desk.{content}
use Rattle.ts_outside.specs.Saying.{Says}
use Rattle.tabcomp_core.specs.declared.table_file_fault.TableFileFault.TheVariants.{TooMany}
use Rattle.tsp_top.proofs.TableLemmas.{refused-ends, unread-ends, too-many, read-too-many, read-failed, read-no-memory, wants-same}
use Rattle.tsp_top.proofs.tables.read_table.Goals as goal

pub returns-in-Ok-read_file : goal.returns-in-Ok-read_file
returns-in-Ok-read_file g c =
    c.convert_table.ensures (g.D.Desk.seen c.args.desk.now) c.in-Ok-read_file.ensures.asked
    (subst (λ (bytes : List ℕ). IfSome (content (g.D.Desk.seen c.args.desk.now) c.args.name.now) (λ file. bytes ≡ file)) (sym c.as_slice.ensures) c.in-Ok-read_file.ensures.file.1)

pub returns-in-Err-TooMany : goal.returns-in-Err-TooMany
returns-in-Err-TooMany g c =
    refused-ends c.args.plugin c.args.name.now TooMany (g.D.Desk.seen c.args.desk.now) (g.D.Desk.seen c.read_file.new.self) (g.D.Desk.seen c.refuse_table.new.desk) c.refuse_table.result
    (read-too-many _ _ _ _ c.in-Err-TooMany.field-0 c.in-Err-TooMany.field-0-is c.in-Err-TooMany.ensures.asked)
    (too-many (g.D.Desk.seen c.args.desk.now) c.args.name.now (read-too-many _ _ _ _ c.in-Err-TooMany.field-0 c.in-Err-TooMany.field-0-is c.in-Err-TooMany.ensures.file))
    c.refuse_table.ensures

pub returns-in-Err-Failed : goal.returns-in-Err-Failed
returns-in-Err-Failed g c =
    unread-ends c.args.plugin c.args.name.now (g.D.Desk.seen c.args.desk.now) (g.D.Desk.seen c.read_file.new.self) (g.D.Desk.seen c.say.new.desk) c.say.result
    (read-failed _ _ _ _ c.in-Err-Failed.field-0 c.in-Err-Failed.field-0-is c.in-Err-Failed.ensures.asked)
    (subst (λ (text : List ℕ). Says (g.D.Desk.seen c.read_file.new.self) (g.D.Desk.seen c.say.new.desk) text c.say.result) (c.as_str.ensures.value ∙ c.in-Ok.ensures) c.say.ensures)

pub returns : goal.returns
returns g c =
    inr (wants-same (c.args.name.now ∷ []) (g.D.Desk.seen c.args.desk.now) (g.D.Desk.seen c.read_file.new.self)
    (read-no-memory _ _ _ _ c.in-Err-NoMemory.field-0 c.in-Err-NoMemory.field-0-is c.in-Err-NoMemory.ensures.asked))
