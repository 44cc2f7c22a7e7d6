-- Lemmas on groups of sections, gathered section by section and pair by pair.
use Rattle.std.proofs.Common.{◌≡◌, ◌∙◌, ℕ, Bool, true, false, List, [], ◌∷◌, ◌++◌, ap, sym, append-nil, append_assoc}
use Rattle.std.specs.Prelude.{if◌then◌else◌}
use Rattle.ts_packetize.specs.Packets.{packets_of}
use Rattle.plug_inject.specs.Contents.{Group, grouped, groups_of_pairs, of_pairs, packed_each}

-- one section more, which is wanted or not
pub packed-more : (pid : ℕ) (wanted : Bool) (section : List ℕ) (rest : List (List ℕ)) (list : List (List (List ℕ)))
    → list ++ packed_each pid (if wanted then section ∷ rest else rest)
    ≡ (list ++ (if wanted then packets_of pid (section ∷ []) ∷ [] else [])) ++ packed_each pid rest
packed-more pid true section rest list = sym (append_assoc list (packets_of pid (section ∷ []) ∷ []) (packed_each pid rest))
packed-more pid false section rest list = ap (λ (l : List (List (List ℕ))). l ++ packed_each pid rest) (sym (append-nil list))

-- one pair more
pub groups-more : (pid : ℕ) (sections : List (List ℕ)) (pair : ℕ × ℕ) (pairs : List (ℕ × ℕ)) (list : List Group)
    → (list ++ grouped pair.1 (packed_each pid (of_pairs (pair ∷ []) sections))) ++ groups_of_pairs pid sections pairs
    ≡ list ++ groups_of_pairs pid sections (pair ∷ pairs)
unfolding groups_of_pairs
groups-more pid sections pair pairs list =
    append_assoc list (grouped pair.1 (packed_each pid (of_pairs (pair ∷ []) sections))) (groups_of_pairs pid sections pairs)

-- all pairs have their groups
pub groups-end : (pid : ℕ) (sections : List (List ℕ)) (list : List Group) → list ≡ list ++ groups_of_pairs pid sections []
unfolding groups_of_pairs
groups-end pid sections list = sym (append-nil list)

-- the group of a pair, as it was packed and appended
pub group-added : (pid : ℕ) (sections : List (List ℕ)) (list : List Group) {pair : ℕ × ℕ} {new : List Group} {own : List (List (List ℕ))} {named : List (ℕ × ℕ)}
    → named ≡ pair ∷ [] → own ≡ packed_each pid (of_pairs named sections) → new ≡ list ++ grouped pair.1 own
    → new ≡ list ++ grouped pair.1 (packed_each pid (of_pairs (pair ∷ []) sections))
group-added pid sections list {pair} named packed added =
    added ∙ ap (λ (rows : List (List (List ℕ))). list ++ grouped pair.1 rows) (packed ∙ ap (λ (pairs : List (ℕ × ℕ)). packed_each pid (of_pairs pairs sections)) named)
