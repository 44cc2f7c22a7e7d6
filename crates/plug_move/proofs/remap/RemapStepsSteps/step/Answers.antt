use Rattle.std.proofs.Common.{rules, ◌≡◌, true, false, ℕ, sym, ◌∙◌, ap}
use Rattle.std.specs.Prelude.{is_some, not, ◌&&◌}
use Rattle.ts_packet.specs.Header.{pid_of}
use Rattle.plugin_trait.specs.Finding.{first_of}
use Rattle.plugin_trait.proofs.FindLemmas.{find-met, find-nothing}
use Rattle.plug_move.specs.RemapRule.{moves}
use Rattle.plug_move.specs.RemapSettings.{is_target}
use Rattle.plug_move.specs.Targets.{target_of}
use Rattle.plug_move.proofs.StepLemmas.{keeps, leads, met-on, same-find}
use Rattle.plug_move.proofs.remap.RemapStepsSteps.step.Goals as goal

pub returns-in-Keep-clause-meets : goal.returns-in-Keep-clause-meets
returns-in-Keep-clause-meets c = λ history mark stands count.
    let s = c.args.self.now in
    let packet = c.args.packet.now in
    let none : is_some (target_of s.table.0 (pid_of packet)) ≡ false =
    ap (λ (pid : ℕ). is_some (target_of s.table.0 pid)) (sym c.pid-pid.ensures.field)
    ∙ keeps (target_of s.table.0 c.pid-pid.result) (not s.table.1 && is_target c.pid-pid.result s.table.0) (sym c.look_up.ensures.tells ∙ c.in-Keep.is) in
    met-on s.table.0 s.tables c.go_on.new.tables s.found _ packet c.go_on.new.packet c.args._labels.now history mark c.go_on.result
    c.go_on.ensures.made stands.0.0 stands.1
    (λ e. find-nothing (moves s.table.0) history packet c.args._labels.now s.found stands.0.1 none)
    (λ e. stands.0.1)

pub returns-in-To-clause-meets : goal.returns-in-To-clause-meets
returns-in-To-clause-meets c = λ history mark stands count.
    let s = c.args.self.now in
    let packet = c.args.packet.now in
    let some : is_some (target_of s.table.0 (pid_of packet)) ≡ true =
    ap (λ (pid : ℕ). is_some (target_of s.table.0 pid)) (sym c.pid-pid.ensures.field)
    ∙ leads (target_of s.table.0 c.pid-pid.result) (not s.table.1 && is_target c.pid-pid.result s.table.0) c.in-To.target (sym c.look_up.ensures.tells ∙ c.in-To.is) in
    met-on s.table.0 s.tables c.go_on-outcome.new.tables c.meet.new.self _ packet c.go_on-outcome.new.packet c.args._labels.now history mark c.go_on-outcome.result
    c.go_on-outcome.ensures.made stands.0.0 stands.1
    (λ e. find-met (moves s.table.0) history packet c.args._labels.now c.args.at c.eq.result s.found c.meet.new.self stands.0.1 count (let on : c.eq.result ≡ true = (let is = c.eq.ensures in search rules) in on ∙ sym some) c.meet.ensures)
    (λ e. same-find (moves s.table.0) history s.found c.meet.new.self c.args.at stands.0.1 (let off : c.eq.result ≡ false = (let is = c.eq.ensures in search rules) in c.meet.ensures ∙ ap (first_of s.found.at c.args.at) off))
