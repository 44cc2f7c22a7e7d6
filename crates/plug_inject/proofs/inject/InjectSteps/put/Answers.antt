use Rattle.std.proofs.Common.{◌∙◌, ◌∷◌, ℕ, List, Option, ap, subst, sym}
use Rattle.std.specs.Prelude.{unwrap_or}
use Rattle.plug_inject.specs.InjectState.{Counts, how_of}
use Rattle.plug_inject.specs.Supplied.{Supplied}
use Rattle.plug_inject.proofs.TurnLemmas.{kept_elsewhere, kept_empty, kept_waiting, passed, passed_counts, put, put_counts, takes_turn}
use Rattle.plug_inject.proofs.inject.InjectSteps.put.Goals as goal

pub returns-then-wait-gt0-clause-made : goal.returns-then-wait-gt0-clause-made
returns-then-wait-gt0-clause-made c = λ older counts.
    passed counts c.args.packet.now (kept_waiting counts c.args.packet.now c.if-wait-gt0.true)

pub returns-then-wait-gt0-clause-counts : goal.returns-then-wait-gt0-clause-counts
returns-then-wait-gt0-clause-counts c = λ older counts.
    passed_counts counts c.args.packet.now (kept_waiting counts c.args.packet.now c.if-wait-gt0.true) _ c.saturating_sub-self.ensures

pub returns-then-pid-self-clause-counts : goal.returns-then-pid-self-clause-counts
returns-then-pid-self-clause-counts c = λ older counts.
    passed_counts counts c.args.packet.now (kept_elsewhere counts c.args.packet.now _ c.pid.ensures.field c.if-pid-self.true) _ c.saturating_sub-self.ensures

pub returns-then-wait-gt0-clause-replaced : goal.returns-then-wait-gt0-clause-replaced
returns-then-wait-gt0-clause-replaced c = λ older counts.
    sym (kept_waiting counts c.args.packet.now c.if-wait-gt0.true)

pub returns-then-pid-self-clause-replaced : goal.returns-then-pid-self-clause-replaced
returns-then-pid-self-clause-replaced c = λ older counts.
    sym (kept_elsewhere counts c.args.packet.now _ c.pid.ensures.field c.if-pid-self.true)

pub returns-clause-counts : goal.returns-clause-counts
returns-clause-counts c = λ older counts.
    passed_counts counts c.args.packet.now (kept_empty counts c.args.packet.now (sym c.if-has_packets.false ∙ c.has_packets.ensures)) _ c.saturating_sub-self.ensures

pub returns-clause-made : goal.returns-clause-made
returns-clause-made c = λ older counts.
    passed counts c.args.packet.now (kept_empty counts c.args.packet.now (sym c.if-has_packets.false ∙ c.has_packets.ensures))

pub returns-clause-replaced : goal.returns-clause-replaced
returns-clause-replaced c = λ older counts.
    sym (kept_empty counts c.args.packet.now (sym c.if-has_packets.false ∙ c.has_packets.ensures))

pub returns-then-has_packets-clause-replaced : goal.returns-then-has_packets-clause-replaced
returns-then-has_packets-clause-replaced c = λ older counts.
    sym (takes_turn counts c.args.packet.now (sym c.if-has_packets.true ∙ c.has_packets.ensures) _ c.pid.ensures.field c.if-pid-self.false c.if-wait-gt0.false)

pub returns-then-has_packets-clause-made : goal.returns-then-has_packets-clause-made
returns-then-has_packets-clause-made c = λ older counts.
    put counts c.args.packet.now (takes_turn counts c.args.packet.now (sym c.if-has_packets.true ∙ c.has_packets.ensures) _ c.pid.ensures.field c.if-pid-self.false c.if-wait-gt0.false) _
    (c.unwrap_or.ensures ∙ ap (λ (next : Option (List ℕ)). unwrap_or next c.args.packet.now) c.next.ensures.next)

pub returns-then-has_packets-clause-counts : goal.returns-then-has_packets-clause-counts
returns-then-has_packets-clause-counts c = λ older counts.
    let s = c.args.self.now in
    subst (λ (given : ℕ). Counts (how_of s) given s.kept (c.args.packet.now ∷ older)) (sym (ap (λ (supply : Supplied). supply.given) c.next.ensures.more))
    (put_counts counts c.args.packet.now (takes_turn counts c.args.packet.now (sym c.if-has_packets.true ∙ c.has_packets.ensures) _ c.pid.ensures.field c.if-pid-self.false c.if-wait-gt0.false))
