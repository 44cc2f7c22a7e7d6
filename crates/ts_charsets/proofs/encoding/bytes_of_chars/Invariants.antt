use Rattle.std.proofs.Common.{◌≡◌, drop}
use Rattle.ts_charsets.specs.Alphabets.{alphabet_of}
use Rattle.ts_charsets.specs.AlphabetTexts.{bytes_in}
use Rattle.ts_charsets.proofs.LoopLemmas.{with_bytes}
use Rattle.ts_charsets.proofs.encoding.bytes_of_chars.Given as goal

abbrev pub invariant-loop-character : goal.invariant-loop-character
invariant-loop-character l = with_bytes l.bytes.items (bytes_in (alphabet_of l.alphabet) (drop l.character-index l.characters))
    ≡ bytes_in (alphabet_of l.alphabet) l.characters
