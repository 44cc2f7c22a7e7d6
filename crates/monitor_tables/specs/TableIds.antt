-- Which sections come with a packet, and which table_ids may come on a PID: ETSI TR 101 290, 5.2.1 (1.3 PAT), 5.2.2 (2.6 CAT)
-- and 5.2.3 (3.1 NIT, 3.5 SDT, 3.6 EIT, 3.7 RST, 3.8 TDT), over the tables of ISO/IEC 13818-1, 2.4.4.4, and ETSI EN 300 468,
-- 5.1.3 and table 2. Packets that are scrambled or have a transport_error_indicator have no sections.
use Rattle.std.specs.Prelude.{ℕ, ◌==◌, ◌&&◌, ◌||◌, Bool, true, not, nat_le, List, [], ◌∷◌, ◌++◌, drop, length, if◌then◌else◌}
use Rattle.std.specs.List.{flat_map, list_any}
use Rattle.ts_packet.specs.Header.{error_indicator_of, pid_of, scrambling_of}
use Rattle.ts_section.specs.SectionFields.{table_id_of}
use Rattle.ts_demux.specs.SectionsOfPid.{sections_of_pid}

-- ---- sections

-- those that the demultiplexer of a PID gives with a packet, after the packets that it was fed
abbrev pub sections_with : ℕ → List (List ℕ) → List ℕ → List (List ℕ)
sections_with pid fed packet = drop (length (sections_of_pid pid fed)) (sections_of_pid pid (fed ++ packet ∷ []))

-- one with this table_id is among sections
abbrev pub has_table : ℕ → List (List ℕ) → Bool
has_table table_id sections = list_any (λ section. table_id_of section == table_id) sections

-- ---- table_ids

-- a number is one of these
abbrev pub is_one_of : List ℕ → ℕ → Bool
is_one_of numbers n = list_any (λ m. n == m) numbers

-- a table may come on a PID: the PAT on 0, the CAT on 1; NITs and stuffing on 16; SDTs, BATs and stuffing on 17; EITs and
-- stuffing on 18; RSTs and stuffing on 19; TDTs, TOTs and stuffing on 20; of other PIDs nothing is said
abbrev pub may_be_on : ℕ → ℕ → Bool
may_be_on pid table_id =
    if pid == 0 then table_id == 0 else (
    if pid == 1 then table_id == 1 else (
    if pid == 16 then is_one_of (64 ∷ 65 ∷ 114 ∷ []) table_id else (
    if pid == 17 then is_one_of (66 ∷ 70 ∷ 74 ∷ 114 ∷ []) table_id else (
    if pid == 18 then (nat_le 78 table_id && nat_le table_id 111) || table_id == 114 else (
    if pid == 19 then is_one_of (113 ∷ 114 ∷ []) table_id else (
    if pid == 20 then is_one_of (112 ∷ 114 ∷ 115 ∷ []) table_id else true))))))

-- a table_id, where it may not come on a PID
abbrev pub stranger_in : ℕ → ℕ → List ℕ
stranger_in pid table_id = if may_be_on pid table_id then [] else table_id ∷ []

-- the table_ids of sections on a PID that may not come there, in the order of the sections
abbrev pub strangers_in : ℕ → List (List ℕ) → List ℕ
strangers_in pid sections = flat_map (λ section. stranger_in pid (table_id_of section)) sections

-- those that come with a packet: an error each
abbrev pub strangers_on : ℕ → List (List ℕ) → List ℕ → List ℕ
strangers_on pid fed packet = strangers_in pid (sections_with pid fed packet)

-- ---- scrambled packets

-- the packet is scrambled
abbrev pub is_scrambled : List ℕ → Bool
is_scrambled packet = not (scrambling_of packet == 0) && not (error_indicator_of packet)

-- one on the PID of the PAT is an error (ETSI TR 101 290, 5.2.1, 1.3)
abbrev pub is_scrambled_pat : List ℕ → Bool
is_scrambled_pat packet = pid_of packet == 0 && is_scrambled packet
