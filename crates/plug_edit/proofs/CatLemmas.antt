-- CA descriptors put after others, one after another.
use Rattle.std.proofs.Common.{◌≡◌, ℕ, ◌+◌, ◌<◌, ◌≤◌, List, [], ◌∷◌, ◌++◌, length, drop, get_or, sym, ap, ◌∙◌}
use Rattle.std.specs.Prelude.{Option, Some, None}
use Rattle.std.proofs.lemmas.List.{drop_more, drop_all}
use Rattle.ts_bits.specs.TaggedBody.{TaggedBody}
use Rattle.plug_edit.specs.CatEdit.{added_ca, behind, with_ca}

next : (all : List TaggedBody) (added : List (ℕ × ℕ)) (i : ℕ) (d : ℕ × ℕ) → i < length added → with_ca (Some all) (drop i added) ≡ with_ca (behind all (added_ca (get_or added i d))) (drop (i + 1) added)
unfolding with_ca
next all added i d inside = ap (with_ca (Some all)) (drop_more added i d inside)

-- one that would pass its room
pub ca_none :
    (all : List TaggedBody) (added : List (ℕ × ℕ)) (i : ℕ) (pair : ℕ × ℕ) (whole : Option (List TaggedBody)) → i < length added →
    added_ca (get_or added i pair) ≡ None → with_ca (Some all) (drop i added) ≡ whole → None ≡ whole
unfolding with_ca
ca_none all added i pair whole inside none so_far =
    sym (next all added i pair inside ∙ ap (λ o. with_ca (behind all o) (drop (i + 1) added)) none) ∙ so_far

-- one more
pub ca_more :
    (all : List TaggedBody) (added : List (ℕ × ℕ)) (i : ℕ) (pair : ℕ × ℕ) (whole : Option (List TaggedBody)) (d : TaggedBody) (new : List TaggedBody) → i < length added →
    added_ca (get_or added i pair) ≡ Some d → new ≡ all ++ d ∷ [] → with_ca (Some all) (drop i added) ≡ whole → with_ca (Some new) (drop (i + 1) added) ≡ whole
ca_more all added i pair whole d new inside some is so_far =
    ap (λ l. with_ca (Some l) (drop (i + 1) added)) is ∙ sym (next all added i pair inside ∙ ap (λ o. with_ca (behind all o) (drop (i + 1) added)) some) ∙ so_far

-- none is left
pub ca_all :
    (all : List TaggedBody) (added : List (ℕ × ℕ)) (i : ℕ) (whole : Option (List TaggedBody)) → length added ≤ i → with_ca (Some all) (drop i added) ≡ whole → Some all ≡ whole
unfolding with_ca
ca_all all added i whole none so_far = sym (ap (with_ca (Some all)) (drop_all i added none)) ∙ so_far
