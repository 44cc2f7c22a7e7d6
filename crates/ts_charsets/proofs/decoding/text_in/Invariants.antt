use Rattle.std.proofs.Common.{◌≡◌, option_map, encode_utf8_all, string_bytes, length}
use Rattle.ts_charsets.specs.Alphabets.{alphabet_of}
use Rattle.ts_charsets.specs.AlphabetTexts.{chars_in}
use Rattle.ts_charsets.proofs.LoopLemmas.{with_front}
use Rattle.ts_charsets.proofs.decoding.text_in.Given as goal

abbrev pub invariant-loop-rest : goal.invariant-loop-rest
invariant-loop-rest l = with_front (string_bytes l.text) (chars_in (alphabet_of l.alphabet) l.rest)
    ≡ option_map encode_utf8_all (chars_in (alphabet_of l.fn.alphabet) l.fn.bytes)

abbrev pub decreases-loop-rest : goal.decreases-loop-rest
decreases-loop-rest l = length l.rest
