-- What `inject` puts in: the packets of its sections, over and over, or section by section as often as they are asked
-- for. This project's own rule, over the table_id of ISO/IEC 13818-1, 2.4.4, and the packets of sections.
use Rattle.std.specs.Prelude.{ℕ, ◌==◌, Bool, not, List, [], ◌∷◌, ◌++◌, filter, is_some, map, slice_get}
use Rattle.std.specs.List.{list_any}
use Rattle.ts_section.specs.SectionFields.{table_id_of}
use Rattle.ts_packetize.specs.Packets.{packets_of}

-- Sections that are given one after another, over and over: the packets of each, and how far the packets with which
-- two of them begin are apart at least, where other sections can be given in between.
pub record Group : Type 0 where
  pub distance : ℕ
  pub sections : List (List (List ℕ))

-- the packets of all sections together, or groups of sections
pub data Contents : Type 0 where
  cycle : List (List ℕ) → Contents
  groups : List Group → Contents

-- there is a packet to put in
abbrev pub has_packets : Contents → Bool
has_packets (cycle rows) = is_some (slice_get rows 0)
has_packets (groups some) = is_some (slice_get some 0)

-- the packets of each of some sections, which begins with a packet of its own
abbrev pub packed_each : ℕ → List (List ℕ) → List (List (List ℕ))
packed_each pid sections = map (λ section. packets_of pid (section ∷ [])) sections

-- one of the pairs of a table_id and a distance names the table of a section
abbrev pub is_named : List (ℕ × ℕ) → List ℕ → Bool
is_named pairs section = list_any (λ pair. table_id_of section == pair.0) pairs

-- the sections of tables that one of the pairs names
abbrev pub of_pairs : List (ℕ × ℕ) → List (List ℕ) → List (List ℕ)
of_pairs pairs sections = filter (λ section. is_named pairs section) sections

-- and those of tables that none of them names
abbrev pub of_no_pair : List (ℕ × ℕ) → List (List ℕ) → List (List ℕ)
of_no_pair pairs sections = filter (λ section. not (is_named pairs section)) sections

-- one group, where it has sections
abbrev pub grouped : ℕ → List (List (List ℕ)) → List Group
grouped distance [] = []
grouped distance (section ∷ sections) = record { distance = distance; sections = section ∷ sections } ∷ []

-- the group of each pair, in their order
unfoldable pub groups_of_pairs : ℕ → List (List ℕ) → List (ℕ × ℕ) → List Group
groups_of_pairs pid sections [] = []
groups_of_pairs pid sections (pair ∷ pairs) =
    grouped pair.1 (packed_each pid (of_pairs (pair ∷ []) sections)) ++ groups_of_pairs pid sections pairs

-- The groups of the pairs, and behind them the tables that no pair names, which may come whenever it is the turn of no
-- pair: a distance of 1 holds nothing back.
abbrev pub groups_for : ℕ → List (ℕ × ℕ) → List (List ℕ) → List Group
groups_for pid pairs sections =
    groups_of_pairs pid sections pairs ++ grouped 1 (packed_each pid (of_no_pair pairs sections))

-- what pairs and the sections of a file mean: without a pair it is one cycle of all of them
abbrev pub contents_for : ℕ → List (ℕ × ℕ) → List (List ℕ) → Contents
contents_for pid [] sections = cycle (packets_of pid sections)
contents_for pid (pair ∷ pairs) sections = groups (groups_for pid (pair ∷ pairs) sections)
