use Rattle.std.proofs.Common.{ℕ, not, true≢false, ◌==◌, sym, ap, ◌∙◌, arith}
use Rattle.std.specs.Prelude.{is_some}
use Rattle.plug_analyze.proofs.Analyzing.{analyzes_live, note_is}
use Rattle.plug_analyze.proofs.analyze.Analyze.take.Goals as goal

pub returns-clause-met : goal.returns-clause-met
returns-clause-met c = λ history mark s count labels.
    analyzes_live c.args.self.now.last c.meet_counter.new.last c.args.self.now.noted c.push.new.self c.args.self.now.services c.meet.new.self history mark c.args.packet.now labels _
    (omega (arith, count, c.requires.in_range)) s
    (c.meet_counter.ensures.met history s.remembers labels) (c.in_ok-meet.ensures.serves history mark s.serves count labels)
    (note_is _ _ _ _ _ _ history c.args.packet.now (sym count) c.pid.ensures.field c.has_payload.ensures
    (ap (λ (n : ℕ). not (n == 0)) c.scrambling.ensures.field)
    (c.meet_counter.ensures.fault history s.remembers count)
    (c.is_some.ensures ∙ ap is_some c.pcr.ensures.value))
    c.in_ok-push.ensures.notes c.in_ok-push.ensures.totals

pub returns-in_err-meet-clause-quiet : goal.returns-in_err-meet-clause-quiet
returns-in_err-meet-clause-quiet c = λ history mark s none room. absurd (true≢false (sym (c.in_err-meet.ensures.quiet history mark s.serves none)))
