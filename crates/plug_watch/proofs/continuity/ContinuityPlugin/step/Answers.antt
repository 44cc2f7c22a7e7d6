use Rattle.std.proofs.Common.{◌≡◌, ℕ, List, Bool, true, ◌&&◌, if◌then◌else◌, ap, sym, ◌∙◌, arith}
use Rattle.std.proofs.Math.Bool.{and-true}
use Rattle.ts_packet.specs.Cells.{Live}
use Rattle.ts_packet.specs.Header.{pid_of}
use Rattle.chain_model.specs.Apply.{goes_on}
use Rattle.plug_watch.specs.ContinuityRule.{fixed}
use Rattle.plugin_notes.specs.Counters.{is_watched}
use Rattle.plug_watch.specs.ContinuityConfOf.{conf_of}
use Rattle.plug_watch.proofs.Watching.{watches_other}
use Rattle.plug_watch.proofs.continuity.ContinuityPlugin.step.Goals as goal

pub returns-then-not-watches-clause-meets : goal.returns-then-not-watches-clause-meets
returns-then-not-watches-clause-meets c = λ history mark w count.
    watches_other (conf_of c.args.self.now) _ _ _ history mark w c.args.packet.now c.args.labels.now (omega (arith, count, c.requires.in_range))
    (ap (is_watched (conf_of c.args.self.now)) (sym c.pid.ensures.field) ∙ sym c.if-not-watches.ensures)

pub returns-in-Ok-clause-tells : goal.returns-in-Ok-clause-tells
returns-in-Ok-clause-tells c = λ history mark w count.
    let packet : List ℕ = c.args.packet.now in
    let labels : ℕ = c.args.labels.now in
    let watched : is_watched (conf_of c.args.self.now) (pid_of packet) ≡ true =
    ap (is_watched (conf_of c.args.self.now)) (sym c.pid.ensures.field) ∙ (sym c.watches.ensures ∙ c.if-not-watches.false) in (
      ap (λ (b : Bool). goes_on (Live (if c.args.self.now.fix && b then fixed history packet else packet) labels)) watched
          ∙ (ap (λ (b : Bool). goes_on (Live (if b then fixed history packet else packet) labels)) (and-true c.args.self.now.fix)
          ∙ ap (λ (p : List ℕ). goes_on (Live p labels)) (sym (c.in-Ok.ensures.edited history mark w))),
      tt,
    )

pub returns-in-Ok-clause-meets : goal.returns-in-Ok-clause-meets
returns-in-Ok-clause-meets c = λ history mark w count. c.in-Ok.ensures.met history mark w count c.args.labels.now
