use Rattle.std.proofs.Common.{◌≡◌, ℕ, ◌-◌, List, [], ◌∷◌, ◌∙◌, refl, sym, ap, subst, arith}
use Rattle.ts_packet.specs.declared.cell.Cell.{Cell}
use Rattle.ts_packet.specs.Cells.{Live}
use Rattle.ts_packet.specs.Labels.{no_labels}
use Rattle.ts_packet.specs.Packet.{null_packet}
use Rattle.cell_rows.specs.Cells.{cell_of}
use Rattle.stage_run.specs.declared.input_stage.InputStage.{InputStage}
use Rattle.stage_run.specs.InputSteps.{InputGoes, with_more, null_count}
use Rattle.stage_run.specs.InputStands.{stuffing_of}
use Rattle.stage_run.proofs.InputLemmas.{InputGoes-trans, InputGoes-null, InputGoes-put, InputGoes-over, IsOver-some, None-from_is_some}
use Rattle.stage_run.proofs.input_stage.InputStage.next_cell.Goals as goal

pub returns-then-self-gt0-clause-goes : goal.returns-then-self-gt0-clause-goes
returns-then-self-gt0-clause-goes g c = λ lists holds.
    let seen = g.S.Source.seen in
    let mid = c.ensure_packet.new.self in
    let one = c.ensure_packet.ensures.goes lists holds in
    let new : InputStage g.row.S.Denot = record { feed = mid.feed; stuffing = mid.stuffing; nulls = mid.nulls - 1; ended = mid.ended } in
    let two = InputGoes-null seen mid (mid.nulls - 1) (with_more lists one.bytes []) c.args.wanted (omega arith) one.holds in
    let put : Live null_packet no_labels ≡ cell_of c.null.result c.live.result =
    ap (λ (p : List ℕ). Live p no_labels) (sym c.null.ensures.bytes) ∙ sym (c.live.ensures.cell c.null.result) in
    subst (λ (cell : Cell). InputGoes seen c.args.self.now new lists c.args.wanted (cell ∷ [])) put
    (InputGoes-trans seen c.args.self.now mid new lists c.args.wanted c.args.wanted c.args.wanted [] (Live _ no_labels ∷ []) (omega arith) (omega arith) one two)

pub returns-then-is_some-clause-goes : goal.returns-then-is_some-clause-goes
returns-then-is_some-clause-goes g c = λ lists holds.
    let mid = c.ensure_packet.new.self in
    InputGoes-over g.S.Source.seen c.args.self.now mid lists c.args.wanted (cell_of c.args.packet.now c.args.mark.now) mid.ended
    (sym c.is_some.ensures ∙ c.if-is_some.true) (c.ensure_packet.ensures.goes lists holds)

pub returns-then-is_some-clause-over : goal.returns-then-is_some-clause-over
returns-then-is_some-clause-over g c = IsOver-some c.ensure_packet.new.self c.ensure_packet.new.self.ended refl (omega arith)

pub returns-clause-goes : goal.returns-clause-goes
returns-clause-goes g c = λ lists holds.
    let seen = g.S.Source.seen in
    let mid = c.ensure_packet.new.self in
    let one = c.ensure_packet.ensures.goes lists holds in
    let new : InputStage g.row.S.Denot = record { feed = c.next_packet.new.self; stuffing = mid.stuffing; nulls = c.null_count-self.result; ended = mid.ended } in
    let two = InputGoes-put seen mid c.next_packet.new.self c.null_count-self.result (with_more lists one.bytes []) c.args.wanted (cell_of c.next_packet.new.packet c.next_packet.new.mark)
    (omega arith) (None-from_is_some mid.ended (sym c.is_some.ensures ∙ c.if-is_some.false))
    (c.null_count-self.ensures ∙ ap (null_count (stuffing_of mid.stuffing)) c.packets.ensures) one.holds c.next_packet.ensures.puts in
    InputGoes-trans seen c.args.self.now mid new lists c.args.wanted c.args.wanted c.args.wanted [] (cell_of c.next_packet.new.packet c.next_packet.new.mark ∷ []) (omega arith) (omega arith) one two
