-- Valid sections one after another are cut into the same again.
use Rattle.std.proofs.Common.{◌≡◌, ℕ, ◌+◌, List, [], ◌∷◌, ◌++◌, length, take, drop, refl, sym, ap, ◌∙◌, arith}
use Rattle.std.specs.Prelude.{All, Ok}
use Rattle.std.specs.List.{concat}
use Rattle.std.proofs.lemmas.List.{drop_at, length-append, take_at}
use Rattle.std.proofs.lemmas.List.Elements.{All-head, All-tail}
use Rattle.ts_bit_rows.proofs.RowParts.{field-append_left}
use Rattle.ts_section.specs.FirstBroken.{first_broken}
use Rattle.ts_section.specs.ValidSection.{IsSection}
use Rattle.ts_section.specs.SectionFields.{front_of, section_length_of}
use Rattle.ts_section.proofs.RuleLemmas.{none_from_valid}
use Rattle.tabcomp_core.specs.Cutting.{sections_from, sections_in}
use Rattle.tabcomp_core.proofs.CutLemmas.{cut_begin, one_more, with_front}

-- a section is the front of each row that begins with it
front_section : (s rest : List ℕ) → IsSection s → front_of (s ++ rest) ≡ s
unfolding front_of
front_section s rest valid =
    let size : section_length_of (s ++ rest) ≡ section_length_of s = field-append_left s rest 12 12 (omega (arith, valid.whole)) in
    ap (λ n. take (3 + n) (s ++ rest)) size ∙ take_at s rest (3 + section_length_of s) valid.whole

cut_first : (s rest : List ℕ) (offset : ℕ) → IsSection s
    → sections_from (length (s ++ rest)) offset (s ++ rest) ≡ with_front (s ∷ []) (sections_from (length rest) (offset + length s) rest)
cut_first s rest offset valid =
    let l : List ℕ = s ++ rest in
    let n : ℕ = length (front_of l) in
    let front = front_section s rest valid in
    let behind : drop n l ≡ rest = drop_at s rest n (ap length (sym front)) in
    sym (cut_begin (sections_from (length l) offset l))
    ∙ one_more l offset [] (omega (arith, valid.whole, length-append s rest)) (ap first_broken front ∙ none_from_valid s valid)
    ∙ ap (λ x. with_front (x ∷ []) (sections_from (length (drop n l)) (offset + length x) (drop n l))) front
    ∙ ap (λ x. with_front (s ∷ []) (sections_from (length x) (offset + length s) x)) behind

cut_all : (ss : List (List ℕ)) (offset : ℕ) → All (λ s. IsSection s) ss → sections_from (length (concat ss)) offset (concat ss) ≡ Ok ss
unfolding sections_from
cut_all [] offset valid = refl
cut_all (s ∷ ss) offset valid =
    cut_first s (concat ss) offset (All-head (λ x. IsSection x) s ss valid)
    ∙ ap (with_front (s ∷ [])) (cut_all ss (offset + length s) (All-tail (λ x. IsSection x) s ss valid))

pub sections_cut : (ss : List (List ℕ)) → All (λ s. IsSection s) ss → sections_in (concat ss) ≡ Ok ss
sections_cut ss valid = cut_all ss 0 valid
