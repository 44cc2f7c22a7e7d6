use Rattle.std.proofs.Common.{◌≡◌, ◌++◌, drop}
use Rattle.named_services.proofs.word_list.copies.Given as goal

-- the words so far, with those that are left
abbrev pub invariant-loop-word : goal.invariant-loop-word
invariant-loop-word l = l.made.items ++ drop l.word-index l.words ≡ l.words
