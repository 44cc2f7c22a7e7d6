-- What is told of pieces cut from the front of a stretch that may still grow.
use Rattle.std.proofs.Common.{◌≡◌, ℕ, ◌+◌, ◌≤◌, ◌<◌, ◌==◌, true, false, List, [], ◌∷◌, ◌++◌, length, take, drop, refl, sym, ◌∙◌, ap, arith, append_assoc, length-append, length-take, inl, inr, ◌⊎◌}
use Rattle.std.specs.List.{flat_map}
use Rattle.std.proofs.lemmas.List.{take-append-le, drop-append-le, drop-drop, take-append-drop}
use Rattle.ts_section.specs.SectionFields.{table_id_of, section_length_of}
use Rattle.ts_demux.specs.Pieces.{IsOver}
use Rattle.ts_demux.specs.Cut.{size_in_front, is_whole_in_front, cut}
use Rattle.ts_demux.proofs.Cutting.{IsWhole-append, IsWhole-from, IsWhole-to, cut-step, cut-stop, over_is_not_whole, section_length-append, table_id-append}
use Rattle.monitor_crcs.specs.WrongCrcs.{told_in, told_piece}

pub told_in-stop : (b : List ℕ) → is_whole_in_front b ≡ false → told_in b ≡ []
unfolding told_in
told_in-stop b e = ap (flat_map told_piece) (cut-stop b e)

-- a whole piece in front is cut off, whatever comes after
pub told_in-step :
    (b x : List ℕ) → is_whole_in_front b ≡ true →
    told_in (b ++ x) ≡ told_piece (take (size_in_front b) b) ++ told_in (drop (size_in_front b) b ++ x)
unfolding told_in
told_in-step b x e =
    let w = IsWhole-from b e in
    let s = section_length-append b x w.head in
    let size = size_in_front b in
    let z : size_in_front (b ++ x) ≡ size = ap (λ n. 3 + n) s in
    let t : take size (b ++ x) ≡ take size b = take-append-le size b x w.there in
    let d : drop size (b ++ x) ≡ drop size b ++ x = drop-append-le size b x w.there in
    let c = cut-step (b ++ x) (IsWhole-to (b ++ x) (IsWhole-append b x w)) in
    let f : cut (b ++ x) ≡ take size b ∷ cut (drop size b ++ x) = c ∙ rw (z, t, d) refl in
    ap (flat_map told_piece) f

over-append : (b x : List ℕ) → IsOver b → IsOver (b ++ x)
over-append b x o =
    let i = table_id-append b x o.some in
    record {
      some = omega (arith, length-append b x, o.some);
      why =
          elim o.why as (λ _. ((table_id_of (b ++ x) == 255) ≡ true) ⊎ ((3 ≤ length (b ++ x)) × (4093 < section_length_of (b ++ x)))) [
            | inl s ↦ inl (rw i s)
            | inr l ↦ inr (omega (arith, length-append b x, l.0), rw (section_length-append b x l.0) l.1)
          ];
    }

pub told_in-over : (b x : List ℕ) → IsOver b → told_in (b ++ x) ≡ []
told_in-over b x o = told_in-stop (b ++ x) (over_is_not_whole (b ++ x) (over-append b x o))

-- one piece further
pub told_in-advance :
    (whole now next : List ℕ) (bytes more : List ℕ) (at size : ℕ) →
    is_whole_in_front (drop at bytes) ≡ true → size ≡ size_in_front (drop at bytes) →
    next ≡ now ++ told_piece (take size (drop at bytes)) →
    whole ≡ now ++ told_in (drop at bytes ++ more) →
    whole ≡ next ++ told_in (drop (at + size) bytes ++ more)
told_in-advance whole now next bytes more at size w s n h =
    let rest = drop at bytes in
    let piece = told_piece (take size rest) in
    let f : told_in (rest ++ more) ≡ piece ++ told_in (drop size rest ++ more) = rw s (told_in-step rest more w) in
    let d : drop size rest ≡ drop (at + size) bytes = drop-drop size at bytes in
    let tail = told_in (drop (at + size) bytes ++ more) in
    let g : told_in (rest ++ more) ≡ piece ++ tail = f ∙ ap (λ t. piece ++ told_in (t ++ more)) d in
    h ∙ ap (λ t. now ++ t) g ∙ sym (append_assoc now piece tail) ∙ ap (λ t. t ++ tail) (sym n)

-- a piece that was cut off has the size that it says
pub piece_size : (b : List ℕ) (size : ℕ) → 3 ≤ size → size ≤ length b → size ≡ size_in_front b → length (take size b) ≡ size_in_front (take size b)
piece_size b size some within is =
    let all : length (take size b) ≡ size = omega (arith, length-take size b) in
    let whole : take size b ++ drop size b ≡ b = take-append-drop size b in
    let same : section_length_of b ≡ section_length_of (take size b) =
    ap section_length_of (sym whole) ∙ section_length-append (take size b) (drop size b) (omega (arith, all)) in
    all ∙ is ∙ ap (λ n. 3 + n) same
