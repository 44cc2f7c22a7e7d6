use Rattle.std.proofs.Common.{◌≡◌, drop}
use Rattle.plug_info_texts.specs.PlainTexts.{is_harmless, shows_after}
use Rattle.plug_info_texts.proofs.plain_texts.is_harmless.Given as goal

-- the result follows from the remaining bytes
abbrev pub invariant-loop-byte : goal.invariant-loop-byte
invariant-loop-byte l = shows_after l.before (drop l.byte-index l.text) ≡ is_harmless l.text
