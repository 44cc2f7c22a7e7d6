use Rattle.std.proofs.Common.{◌≡◌, ◌++◌, drop, string_bytes}
use Rattle.ts_charsets.specs.ShownTexts.{screen_chars}
use Rattle.ts_charsets.proofs.shown.screen_text.Given as goal

-- what is made so far, with what is to be made of the rest
abbrev pub invariant-loop-character : goal.invariant-loop-character
invariant-loop-character l =
    string_bytes l.shown ++ screen_chars (drop l.character-index l.characters) ≡ screen_chars l.characters
