-- Lemmas on the result of `apply` for a rule that outputs earlier packets: in rows, and for the two plugins in
-- packets.
use Rattle.std.proofs.Common.{◌≡◌, ℕ, zero, suc, ◌+◌, ◌*◌, ◌≤◌, List, [], ◌∷◌, ◌++◌, length, map, take, drop, filter, replicate, Bool, true, false, not, Option, None, Some, if◌then◌else◌, refl, ap, sym, ◌∙◌, append-nil}
use Rattle.std.specs.Prelude.{option_to_list}
use Rattle.std.specs.List.{take-map, drop-map}
use Rattle.std.proofs.lemmas.List.{map-append, length-map, length-replicate}
use Rattle.std.proofs.lemmas.Grind.{flat_map-append}
use Rattle.ts_packet.specs.declared.cell.Cell.{Cell}
use Rattle.ts_packet.specs.declared.labelled.Labelled.{Labelled}
use Rattle.ts_packet.specs.Cells.{Live, Dropped, live_packets}
use Rattle.ts_packet.specs.Labels.{no_labels}
use Rattle.ts_packet.specs.LiveRows.{labelled, row_in, live_rows, packets_in}
use Rattle.ts_packet.specs.Packet.{null_packet}
use Rattle.ts_packet.specs.Header.{pid_of}
use Rattle.chain_model.specs.Apply.{StageList, outcome_of_live, onto, apply_after, apply}
use Rattle.chain_model.specs.NeverEnds.{GoesOn, NeverEnds}
use Rattle.chain_model.specs.Stuffed.{null_cells}
use Rattle.plugin_trait.specs.Actions.{action}
use Rattle.plug_psi.specs.Referred.{refers}
use Rattle.plug_window.specs.DelayRule.{given_packet, labels_left, delay_rule, all_given, with_nulls_after}
use Rattle.plug_window.specs.CompactRule.{on_null_pid, is_null, ahead, parted, compacted, blocks_parted, compact_rule}
use Rattle.plug_window.specs.RmorphanRule.{picked, delayed, is_referred, rmorphan_rule, kept_packets}
use Rattle.plug_window.specs.WindowSettings.{plain_window}
use Rattle.plug_window.proofs.GivenLemmas.{blocks-given, kept_rows, late-given}

goes : (stuffing : Bool) (given : Option Labelled) → GoesOn (action stuffing (given_packet given))
goes stuffing (Some row) = tt
goes true None = tt
goes false None = tt

-- a packet passes or is dropped, whatever is output
pub never-ends : (stuffing : Bool) (given : List Labelled → Labelled → Option Labelled) → NeverEnds (delay_rule stuffing given)
never-ends stuffing given = record { goes_on = λ history packet labels. goes stuffing (given (live_rows history) (labelled packet labels)) }

-- one place outputs what is put in it, or nothing
slot : (given : Option Labelled) (labels : ℕ) (rest : StageList)
    → live_rows (onto (outcome_of_live (action false (given_packet given)) (labels_left labels given)) rest).cells ≡ option_to_list given ++ live_rows rest.cells
slot None labels rest = refl
slot (Some row) labels rest = refl

rows-behind : (history : List Cell) (cell : Cell) → live_rows (history ++ cell ∷ []) ≡ live_rows history ++ live_rows (cell ∷ [])
rows-behind history cell = flat_map-append row_in history (cell ∷ [])

after : (given : List Labelled → Labelled → Option Labelled) (history cells : List Cell)
    → live_rows (apply_after (delay_rule false given) history cells).cells ≡ all_given given (live_rows history) (live_rows cells)
after given history [] = refl
after given history (Live packet labels ∷ cells) =
    slot (given (live_rows history) (labelled packet labels)) labels (apply_after (delay_rule false given) (history ++ Live packet labels ∷ []) cells)
    ∙ ap (λ (rows : List Labelled). option_to_list (given (live_rows history) (labelled packet labels)) ++ rows)
    (after given (history ++ Live packet labels ∷ []) cells ∙ ap (λ (rows : List Labelled). all_given given rows (live_rows cells)) (rows-behind history (Live packet labels)))
after given history (Dropped ∷ cells) =
    after given (history ++ Dropped ∷ []) cells
    ∙ ap (λ (rows : List Labelled). all_given given rows (live_rows cells)) (rows-behind history Dropped ∙ append-nil (live_rows history))

pub one-by-one : (given : List Labelled → Labelled → Option Labelled) (cells : List Cell)
    → live_rows (apply (delay_rule false given) cells).cells ≡ all_given given [] (live_rows cells)
one-by-one given cells = after given [] cells

-- the rows of cells without their labels are their packets
packets-of : (cells : List Cell) → live_packets cells ≡ packets_in (live_rows cells)
packets-of [] = refl
packets-of (Live packet labels ∷ cells) = ap (λ (rows : List (List ℕ)). packet ∷ rows) (packets-of cells)
packets-of (Dropped ∷ cells) = packets-of cells

-- a packet that has no labels
abbrev pub bare : List ℕ → Labelled
bare packet = labelled packet no_labels

rows-bare : (packets : List (List ℕ)) → live_rows (map (λ packet. Live packet no_labels) packets) ≡ map bare packets
rows-bare [] = refl
rows-bare (packet ∷ packets) = ap (λ (rows : List Labelled). bare packet ∷ rows) (rows-bare packets)

rows-null : (n : ℕ) → live_rows (null_cells n) ≡ map bare (replicate n null_packet)
rows-null zero = refl
rows-null (suc n) = ap (λ (rows : List Labelled). bare null_packet ∷ rows) (rows-null n)

-- the rows of packets followed by null packets
rows-all : (n : ℕ) (packets : List (List ℕ)) → live_rows (with_nulls_after n packets) ≡ map bare packets ++ map bare (replicate n null_packet)
rows-all n packets =
    flat_map-append row_in (map (λ packet. Live packet no_labels) packets) (null_cells n)
    ∙ (ap (λ (rows : List Labelled). rows ++ live_rows (null_cells n)) (rows-bare packets)
    ∙ ap (λ (rows : List Labelled). map bare packets ++ rows) (rows-null n))

packets-bare : (packets : List (List ℕ)) → packets_in (map bare packets) ≡ packets
packets-bare [] = refl
packets-bare (packet ∷ packets) = ap (λ (rows : List (List ℕ)). packet ∷ rows) (packets-bare packets)

-- parting commutes with a map, if the test is one on the mapped items
module _ {X Y : Type 0} (view : X → Y) where
  picks : (b : Bool) (x : X) (xs : List X) (ys : List Y) → map view xs ≡ ys → map view (if b then x ∷ xs else xs) ≡ (if b then view x ∷ ys else ys)
  picks true x xs ys e = ap (λ (row : List Y). view x ∷ row) e
  picks false x xs ys e = e

  map-filter : (test : Y → Bool) (xs : List X) → map view (filter (λ x. test (view x)) xs) ≡ filter test (map view xs)
  map-filter test [] = refl
  map-filter test (x ∷ xs) = picks (test (view x)) x (filter (λ x. test (view x)) xs) (filter test (map view xs)) (map-filter test xs)

  map-parted : (last : Y → Bool) (xs : List X) → map view (parted (λ x. last (view x)) xs) ≡ parted last (map view xs)
  map-parted last xs =
      map-append view (ahead (λ x. last (view x)) xs) (filter (λ x. last (view x)) xs)
      ∙ (ap (λ (row : List Y). row ++ map view (filter (λ x. last (view x)) xs)) (map-filter (λ y. not (last y)) xs)
      ∙ ap (λ (row : List Y). ahead last (map view xs) ++ row) (map-filter last xs))

  map-blocks : (last : Y → Bool) (n count : ℕ) (xs : List X) → map view (blocks_parted (λ x. last (view x)) n count xs) ≡ blocks_parted last n count (map view xs)
  map-blocks last n zero xs = refl
  map-blocks last n (suc count) xs =
      map-append view (parted (λ x. last (view x)) (take n xs)) (blocks_parted (λ x. last (view x)) n count (drop n xs))
      ∙ (ap (λ (row : List Y). row ++ map view (blocks_parted (λ x. last (view x)) n count (drop n xs))) (map-parted last (take n xs) ∙ ap (parted last) (sym (take-map view n xs)))
      ∙ ap (λ (row : List Y). parted last (take n (map view xs)) ++ row) (map-blocks last n count (drop n xs) ∙ ap (blocks_parted last n count) (sym (drop-map view n xs))))

pub compact-blocks : (window count : ℕ) (packets : List (List ℕ)) → 1 ≤ window → length packets ≡ count * window
    → live_packets (apply (compact_rule (plain_window window)) (with_nulls_after window packets)).cells ≡ blocks_parted on_null_pid window count packets
compact-blocks window count packets some long =
    let cells = with_nulls_after window packets in
    let nulls = replicate window null_packet in
    packets-of (apply (compact_rule (plain_window window)) cells).cells
    ∙ (ap packets_in (one-by-one (compacted is_null window) cells)
    ∙ (ap (λ (rows : List Labelled). packets_in (all_given (compacted is_null window) [] rows)) (rows-all window packets)
    ∙ (ap packets_in (blocks-given is_null window count (map bare packets) (map bare nulls) some (length-map packets bare ∙ long) (length-map nulls bare ∙ length-replicate window null_packet))
    ∙ (map-blocks (λ (row : Labelled). row.packet) on_null_pid window count (map bare packets)
    ∙ ap (blocks_parted on_null_pid window count) (packets-bare packets)))))

-- one packet that is kept, or not
kept-step : (b : Bool) (packet : List ℕ) (rows : List Labelled) (ys : List (List ℕ)) → packets_in rows ≡ ys
    → packets_in (option_to_list (picked (λ _. b) (Some (bare packet))) ++ rows) ≡ (if b then packet ∷ ys else ys)
kept-step true packet rows ys e = ap (λ (row : List (List ℕ)). packet ∷ row) e
kept-step false packet rows ys e = e

kept-packets : (n : ℕ) (all : List (List ℕ)) (i : ℕ) (packets : List (List ℕ))
    → packets_in (kept_rows is_referred n (map bare all) i (map bare packets)) ≡ kept_packets n all i packets
kept-packets n all i [] = refl
kept-packets n all i (packet ∷ packets) =
    let front : packets_in (take (i + n + 1) (map bare all)) ≡ take (i + n + 1) all =
    sym (take-map (λ (row : Labelled). row.packet) (i + n + 1) (map bare all)) ∙ ap (take (i + n + 1)) (packets-bare all) in
    ap (λ (seen : List (List ℕ)). packets_in (option_to_list (picked (λ _. refers seen (pid_of packet)) (Some (bare packet))) ++ kept_rows is_referred n (map bare all) (i + 1) (map bare packets))) front
    ∙ kept-step (refers (take (i + n + 1) all) (pid_of packet)) packet (kept_rows is_referred n (map bare all) (i + 1) (map bare packets)) (kept_packets n all (i + 1) packets) (kept-packets n all (i + 1) packets)

pub rmorphan-referred : (window : ℕ) (packets : List (List ℕ)) → 1 ≤ window
    → live_packets (apply (rmorphan_rule (plain_window window)) (with_nulls_after window packets)).cells
    ≡ kept_packets window (packets ++ replicate window null_packet) 0 packets
rmorphan-referred window packets some =
    let cells = with_nulls_after window packets in
    let nulls = replicate window null_packet in
    packets-of (apply (rmorphan_rule (plain_window window)) cells).cells
    ∙ (ap packets_in (one-by-one (delayed is_referred window) cells)
    ∙ (ap (λ (rows : List Labelled). packets_in (all_given (delayed is_referred window) [] rows)) (rows-all window packets)
    ∙ (ap packets_in (late-given is_referred window (map bare packets) (map bare nulls) some (length-map nulls bare ∙ length-replicate window null_packet))
    ∙ (ap (λ (rows : List Labelled). packets_in (kept_rows is_referred window rows 0 (map bare packets))) (sym (map-append bare packets nulls))
    ∙ kept-packets window (packets ++ nulls) 0 packets))))
