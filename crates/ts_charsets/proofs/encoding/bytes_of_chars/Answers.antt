use Rattle.std.proofs.Common.{sym}
use Rattle.ts_charsets.specs.Alphabets.{alphabet_of}
use Rattle.ts_charsets.proofs.LoopLemmas.{bytes_more, bytes_stop, bytes_done, nothing_before}
use Rattle.ts_charsets.proofs.encoding.bytes_of_chars.Goals as goal

pub loop-character-init : goal.loop-character-init
loop-character-init c = nothing_before _ _ c.new-bytes.ensures.items

pub returns-then-not-known : goal.returns-then-not-known
returns-then-not-known c =
    sym (bytes_stop (alphabet_of c.args.alphabet) c.loop-character.bytes.items _ c.args.characters.now c.loop-character.character-index _ _ _ _ c.loop-character-test.true c.character-item.is c.in_ok-known.ensures c.if-not-known.true c.loop-character.invariant)

pub loop-character-preserved : goal.loop-character-preserved
loop-character-preserved c =
    bytes_more (alphabet_of c.args.alphabet) c.loop-character.bytes.items _ c.args.characters.now c.loop-character.character-index _ _ _ _ c.loop-character-test.true c.character-item.is c.in_ok-known.ensures c.if-not-known.false c.loop-character.invariant

pub returns : goal.returns
returns c = sym (bytes_done (alphabet_of c.args.alphabet) c.loop-character.bytes.items c.args.characters.now c.loop-character.character-index _ c.loop-character-test.false c.loop-character.invariant)
