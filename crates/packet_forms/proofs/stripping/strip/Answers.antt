use Rattle.std.proofs.Common.{le_refl, ◌≡◌, ◌+◌, ◌%◌, ◌≤◌, ℕ, length, sym, ap, refl, subst, arith, ◌∙◌}
use Rattle.std.proofs.lemmas.Grind.{common_steps}
use Rattle.std.proofs.lemmas.List.{take_all}
use Rattle.packet_forms.specs.declared.forms.Form.{Form}
use Rattle.packet_forms.specs.Stripped.{unit, to_packet, in_packet, stripped_from}
use Rattle.packet_forms.proofs.Strips.{strips-more, stripped-nil, stripped-ts}
use Rattle.packet_forms.proofs.stripping.strip.Goals as goal

pub loop-from-init : goal.loop-from-init
loop-from-init c = record { behind = omega arith; within = omega arith; len = refl; front = sym (stripped-nil c.args.form c.args.at); rest = refl }

pub loop-from-preserved : goal.loop-from-preserved
loop-from-preserved c =
    let from : ℕ = c.loop-from.from in
    let before : ℕ = c.min-before.result in
    let count : ℕ = c.min-count.result in
    let size : length c.copy_within.new.self ≡ length c.args.bytes.now = c.copy_within.ensures.len ∙ c.loop-from.invariant.len in
    let fits : from + before + count ≤ length c.loop-from.bytes = grind (arith, common_steps) in
    let gap : before ≤ to_packet c.args.form ((c.args.at + from) % unit c.args.form) =
    subst (λ (n : ℕ). before ≤ n) (c.to_packet.ensures ∙ ap (λ (u : ℕ). to_packet c.args.form ((c.args.at + from) % u)) c.unit-unit.ensures) (omega arith) in
    let some : count ≤ in_packet c.args.form ((c.args.at + (from + before)) % unit c.args.form) =
    subst (λ (n : ℕ). count ≤ n) (c.in_packet.ensures ∙ ap (λ (u : ℕ). in_packet c.args.form ((c.args.at + (from + before)) % u)) c.unit-unit.ensures) (omega arith) in
    let step = strips-more c.args.form c.args.at from c.loop-from.to before count c.args.bytes.now c.loop-from.bytes c.copy_within.new.self
    c.loop-from.invariant.behind fits c.loop-from.invariant.len gap some c.loop-from.invariant.front c.loop-from.invariant.rest c.copy_within.ensures.after in
    record {
      behind = omega arith;
      within = omega arith;
      len = size;
      front = step.0;
      rest = step.1;
    }

pub returns-in-Ts-clause-stripped : goal.returns-in-Ts-clause-stripped
returns-in-Ts-clause-stripped c =
    take_all (length c.args.bytes.now) c.args.bytes.now (le_refl (length c.args.bytes.now))
    ∙ sym (ap (λ (form : Form). stripped_from form c.args.at c.args.bytes.now) c.in-Ts.is ∙ stripped-ts c.args.at c.args.bytes.now)
