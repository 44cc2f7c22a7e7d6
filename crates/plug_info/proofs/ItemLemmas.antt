-- Lemmas on a text to which the items of numbers are appended.
use Rattle.std.proofs.Common.{◌≡◌, ℕ, ◌+◌, List, ◌++◌, ap, ◌∙◌, append_assoc}
use Rattle.std.specs.List.{flat_map}
use Rattle.plugin_notes.specs.PidPackets.{numbers_below}
use Rattle.plug_info_texts.proofs.LineLemmas.{flat_more}

-- a text with one more number
pub text_more : {X : Type 0} (f : ℕ → List X) (n : ℕ) (old now new : List X) → now ≡ old ++ flat_map f (numbers_below n) → new ≡ now ++ f n
    → new ≡ old ++ flat_map f (numbers_below (n + 1))
text_more f n old now new so_far pushed =
    pushed ∙ (ap (λ xs. xs ++ f n) so_far ∙ (append_assoc old (flat_map f (numbers_below n)) (f n) ∙ ap (λ xs. old ++ xs) (flat_more f n)))
