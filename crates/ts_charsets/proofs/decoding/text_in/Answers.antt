use Rattle.std.proofs.Common.{sym, string_bytes}
use Rattle.ts_charsets.specs.Alphabets.{alphabet_of}
use Rattle.ts_charsets.proofs.LoopLemmas.{no_text_before, text_more, text_stop, text_done}
use Rattle.ts_charsets.proofs.decoding.text_in.Goals as goal

pub loop-rest-init : goal.loop-rest-init
loop-rest-init c = no_text_before _ _ c.new-text.ensures.bytes

pub returns-in_default : goal.returns-in_default
returns-in_default c = sym (text_stop (alphabet_of c.args.alphabet) (string_bytes c.loop-rest.text) c.loop-rest.rest.now _ c.loop-rest-test.true (sym c.in_default.ensures) c.loop-rest.invariant)

pub loop-rest-preserved : goal.loop-rest-preserved
loop-rest-preserved c =
    rw c.in_ok-push.ensures.bytes (text_more (alphabet_of c.args.alphabet) (string_bytes c.loop-rest.text) c.loop-rest.rest.now c.in-Some.after.now c.in-Some.character _ (sym c.in-Some.ensures) c.loop-rest.invariant)

pub returns : goal.returns
returns c = sym (text_done (alphabet_of c.args.alphabet) (string_bytes c.loop-rest.text) c.loop-rest.rest.now _ c.loop-rest-test.false c.loop-rest.invariant)
