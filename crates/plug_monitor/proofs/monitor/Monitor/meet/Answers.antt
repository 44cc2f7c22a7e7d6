use Rattle.std.proofs.Common.{◌≡◌, ◌++◌, ◌∷◌, [], ℕ, List, length, Bool, Result, Ok, Err, OnErr, OnOk, sym, subst}
use Rattle.ts_packet.specs.declared.cell.Cell.{Cell}
use Rattle.ts_packet.specs.Cells.{Live}
use Rattle.plug_monitor.specs.MonitorState.{Monitors, StandsFor}
use Rattle.plug_monitor.specs.declared.monitor_conf.MonitorConf.{MonitorConf}
use Rattle.plug_monitor.proofs.Monitoring.{monitors_failed}
use Rattle.plug_monitor.proofs.monitor.Monitor.meet.Goals as goal

-- what holds, holds where a call failed
on_err : {A E X : Type 0} (r : Result A E) → X → OnErr r X
on_err (Ok value) holds = tt
on_err (Err error) holds = holds

pub returns-clause-met : goal.returns-clause-met
returns-clause-met c =
    let new = c.look-answer.new.self in
    let met = subst (λ r. OnOk r ((history : List Cell) (mark : ℕ) → StandsFor c.args.self.now history mark → length history ≡ c.args.at → (labels : ℕ)
    → StandsFor new (history ++ Live c.args.packet.now labels ∷ []) mark)) (sym c.in_ok-note.ensures.same) c.look-answer.ensures.met in
    λ history mark w count labels.
    subst (λ (failed : Bool). Monitors new.conf new.watch new.counts new.notes.items failed (history ++ Live c.args.packet.now labels ∷ []) mark)
    (sym c.in_ok-note.ensures.as_before) (met history mark w count labels)

pub returns-in_err-note-clause-err : goal.returns-in_err-note-clause-err
returns-in_err-note-clause-err c =
    let new = c.look-answer.new.self in
    let kept : (new.counts ≡ c.args.self.now.counts) × (new.notes.items ≡ c.args.self.now.notes.items) =
    subst (λ r. OnErr r ((new.counts ≡ c.args.self.now.counts) × (new.notes.items ≡ c.args.self.now.notes.items))) (sym c.in_err-note.ensures.same) c.look-answer.ensures.err in
    let stands : (history : List Cell) (mark : ℕ) → StandsFor c.args.self.now history mark → Monitors new.conf new.watch new.counts new.notes.items c.note.new.self history mark =
    λ history mark w.
    subst (λ (conf : MonitorConf). Monitors conf new.watch new.counts new.notes.items c.note.new.self history mark) (sym c.look-answer.ensures.same)
    (monitors_failed c.args.self.now.conf _ _ _ _ history mark w new.watch new.counts new.notes.items c.note.new.self kept.0 kept.1 c.in_err-note.ensures.set) in
    on_err c.from_residual-in_err-note.result stands
