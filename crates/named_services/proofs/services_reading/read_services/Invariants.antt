use Rattle.std.proofs.Common.{◌≡◌, drop, map}
use Rattle.std.specs.Prelude.{filter_map, fold, is_some}
use Rattle.std.specs.List.{list_all}
use Rattle.named_services.specs.ServiceWords.{with_word, word_of, words_of}
use Rattle.named_services.proofs.services_reading.read_services.Given as goal

-- the texts so far are words, and the words so far are theirs
abbrev pub invariant-loop-text : goal.invariant-loop-text
invariant-loop-text l = record {
  formed : list_all (λ text. is_some (word_of text)) (map (λ text. text.now) l.texts) ≡ list_all (λ text. is_some (word_of text)) (map (λ text. text.now) (drop l.text-index l.texts));
  read : words_of (map (λ text. text.now) l.texts) ≡ fold with_word l.words (filter_map word_of (map (λ text. text.now) (drop l.text-index l.texts)));
}
