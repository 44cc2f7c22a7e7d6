use Rattle.std.proofs.Common.{◌≡◌, ◌+◌, ◌*◌, ◌++◌, ◌∷◌, [], Bool, true, false, refl, ap, ◌∙◌}
use mir.Val.{bool_byte}
use Rattle.ts_fields.specs.Bits.{bit_value}
use Rattle.ts_fields.proofs.WriteLemmas.{bit_kept, bit_completes}
use Rattle.ts_fields.proofs.writer.BitWriter.put_bit.Goals as goal

byte_is : (b : Bool) → bool_byte b ≡ bit_value b
byte_is true = refl
byte_is false = refl

pub returns-in_ok-push : goal.returns-in_ok-push
returns-in_ok-push c =
    bit_completes c.self.inside.whole.items c.push.new.self.items c.self.inside.count c.self.inside.pending _ c.args.bit
    (ap (λ n. 2 * c.self.inside.pending + n) (c.from.ensures ∙ byte_is c.args.bit)) c.if-self-eq7.true c.in_ok-push.ensures.items
    ∙ ap (λ l. l ++ c.args.bit ∷ []) c.self.view_is

pub returns-else-self-eq7 : goal.returns-else-self-eq7
returns-else-self-eq7 c =
    bit_kept c.self.inside.whole.items c.self.inside.count c.self.inside.pending _ c.args.bit
    (ap (λ n. 2 * c.self.inside.pending + n) (c.from.ensures ∙ byte_is c.args.bit))
    ∙ ap (λ l. l ++ c.args.bit ∷ []) c.self.view_is
