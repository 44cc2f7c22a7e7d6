-- The list of an input, as what is put so far and a rest.
use Rattle.std.proofs.Common.{◌≡◌, ℕ, ◌+◌, ◌-◌, ◌*◌, ◌^◌, ◌<◌, ◌≤◌, false, List, [], ◌∷◌, ◌++◌, length, take, drop, replicate, refl, ap, sym, ◌∙◌, arith, append_assoc, append-nil, length-append, subst, Option, None, Some, inl, inr}
use Rattle.std.proofs.lemmas.Bool.{cond-true, cond-false, le-leb, lt-leb, cases_lt}
use Rattle.std.proofs.lemmas.List.{length-replicate, replicate-append-replicate, get_or_append_left}
use Rattle.std.proofs.Math.Seq.{take-append-add}
use Rattle.std.specs.List.{All, concat}
use Rattle.ts_packet.specs.Packet.{IsPacket, null_packet}
use Rattle.ts_packet.specs.declared.cell.Cell.{Cell}
use Rattle.ts_packet.specs.Cells.{Live}
use Rattle.ts_packet.specs.Labels.{no_labels}
use Rattle.ts_outside.specs.Source.{SourceView}
use Rattle.chain_model.specs.declared.input_end.InputEnd.{InputEnd}
use Rattle.chain_model.specs.declared.input_end.InputEnd.TheVariants.{End, Sync, ReadFault, TooLong}
use Rattle.chain_model.specs.Prefix.{IsPrefix}
use Rattle.chain_model.specs.Apply.{StageList, input_over}
use Rattle.chain_model.specs.InputList.{is_packet_in_front, packets_within, packets_of, end_after, input_of_bytes, input_of_nulls}
use Rattle.chain_model.specs.Stuffed.{null_cells, nulls_after, stuffed_after, stop_nulls, within_limit, stuffed}
use Rattle.chain_model.specs.Stuffed as model
use Rattle.stage_run.specs.declared.packet_feed.PacketFeed.{PacketFeed}
use Rattle.stage_run.specs.declared.packet_feed.PacketFeed.TheVariants.{Stream, Nulls, Generated}
use Rattle.stage_run.specs.Rows.{BeginsPacket}
use Rattle.stage_run.specs.Feeds.{FeedStands, StandsAtSource, EndsWhenPut, IsReady, hand_of}
use Rattle.stage_run.specs.InputStands.{FeedGives, MayFollowEnd, stuffed_so_far}
use Rattle.stage_run.specs.GeneratedInput.{generated_from, input_of_generated}
use Rattle.stage_run.proofs.GeneratedLemmas.{generated-split, length-generated}
use Rattle.stage_run.proofs.PacketLemmas.{front-begins, front-unfinished, front-lost, packets_within-some, fuel_after, fuel-some, packets_of-rows, packets_of-all, rest-behind, end_after-unfinished, end_after-lost}

pub stuffed_after-append : (stuffing : model.Stuffing) (n : ℕ) (xs ys : List (List ℕ))
    → stuffed_after stuffing n (xs ++ ys) ≡ stuffed_after stuffing n xs ++ stuffed_after stuffing (n + length xs) ys
stuffed_after-append stuffing n [] ys = ap (λ (k : ℕ). stuffed_after stuffing k ys) (omega arith)
stuffed_after-append stuffing n (x ∷ xs) ys =
    let at : n + 1 + length xs ≡ n + length (x ∷ xs) = omega arith in
    ap (λ (l : List Cell). Live x no_labels ∷ (nulls_after stuffing (n + 1) ++ l)) (stuffed_after-append stuffing (n + 1) xs ys)
    ∙ ap (λ (l : List Cell). Live x no_labels ∷ l) (sym (append_assoc (nulls_after stuffing (n + 1)) (stuffed_after stuffing (n + 1) xs) (stuffed_after stuffing (n + 1 + length xs) ys)))
    ∙ ap (λ (k : ℕ). (Live x no_labels ∷ (nulls_after stuffing (n + 1) ++ stuffed_after stuffing (n + 1) xs)) ++ stuffed_after stuffing k ys) at

begins-more : (hand more : List ℕ) → BeginsPacket hand → BeginsPacket (hand ++ more)
begins-more hand more begins = record {
  whole = let whole = begins.whole in omega (arith, length-append hand more);
  sync = get_or_append_left hand more 0 0 (let whole = begins.whole in omega arith) ∙ begins.sync;
}

-- how the input ends that has no packet after the rows
pub ended-behind : (rows : List (List ℕ)) (rest : List ℕ) → All IsPacket rows → is_packet_in_front rest ≡ false
    → (input_of_bytes (concat rows ++ rest)).ended ≡ end_after (length rows) rest
ended-behind rows rest are none =
    let same : packets_of (concat rows ++ rest) ≡ rows = packets_of-all rows rest are none in
    ap (λ (p : List (List ℕ)). end_after (length p) (drop (188 * length p) (concat rows ++ rest))) same
    ∙ ap (end_after (length rows)) (rest-behind rows rest are)

-- some members of two joined lists, past the first one
pub take-past : (xs ys : List Cell) (n : ℕ) → length xs ≤ n → take n (xs ++ ys) ≡ xs ++ take (n - length xs) ys
take-past xs ys n past =
    ap (λ (k : ℕ). take k (xs ++ ys)) (omega arith) ∙ take-append-add xs ys (n - length xs)

stuffed_after-some : (stuffing : model.Stuffing) (n : ℕ) (rows : List (List ℕ)) → 0 < length rows → 0 < length (stuffed_after stuffing n rows)
stuffed_after-some stuffing n [] some = absurd (omega arith)
stuffed_after-some stuffing n (row ∷ rows) some = omega arith

-- what is known of the rest where the end is known
abbrev pub EndsWith : Option InputEnd → List Cell → InputEnd → Type 0
EndsWith (Some (End left)) rest how = (rest ≡ []) × (how ≡ End left)
EndsWith (Some (Sync packet)) rest how = (rest ≡ []) × (how ≡ Sync packet)
EndsWith _ rest how = Unit {0}

-- the list is what is put so far and a rest, up to the limit
pub record Continues (stuffing : model.Stuffing) (rows : List (List ℕ)) (ended : Option InputEnd) (Ready : Type 0) (input : StageList) : Type 0 where
  pub rest : List Cell
  pub how : InputEnd
  pub is : input ≡ within_limit (stuffed_so_far stuffing rows ended ++ rest) how
  pub ends : EndsWith ended rest how
  pub ready : ended ≡ None → Ready → 0 < length rest

-- the uncut list of packets
abbrev pub uncut : model.Stuffing → List (List ℕ) → InputEnd → List Cell
uncut stuffing rows how = null_cells stuffing.start ++ (stuffed_after stuffing 0 rows ++ stop_nulls stuffing how)

uncut-front : (stuffing : model.Stuffing) (rows more : List (List ℕ)) (how : InputEnd)
    → uncut stuffing (rows ++ more) how ≡ stuffed_so_far stuffing rows None ++ (stuffed_after stuffing (0 + length rows) more ++ stop_nulls stuffing how)
uncut-front stuffing rows more how =
    let a : List Cell = null_cells stuffing.start in
    let b : List Cell = stuffed_after stuffing 0 rows in
    let c : List Cell = stuffed_after stuffing (0 + length rows) more in
    let d : List Cell = stop_nulls stuffing how in
    ap (λ (l : List Cell). a ++ (l ++ d)) (stuffed_after-append stuffing 0 rows more)
    ∙ ap (λ (l : List Cell). a ++ l) (append_assoc b c d)
    ∙ sym (append_assoc a b (c ++ d))

module _ (stuffing : model.Stuffing) (rows : List (List ℕ)) where
  -- the end is not known
  continues-unknown : (more : List (List ℕ)) (how : InputEnd) (Ready : Type 0) → (Ready → 0 < length more)
      → Continues stuffing rows None Ready (within_limit (uncut stuffing (rows ++ more) how) how)
  continues-unknown more how Ready ready = record {
    rest = stuffed_after stuffing (0 + length rows) more ++ stop_nulls stuffing how;
    how = how;
    is = ap (λ (l : List Cell). within_limit l how) (uncut-front stuffing rows more how);
    ends = tt;
    ready = λ none is.
        let some : 0 < length (stuffed_after stuffing (0 + length rows) more) = stuffed_after-some stuffing (0 + length rows) more (ready is) in
        omega (arith, length-append (stuffed_after stuffing (0 + length rows) more) (stop_nulls stuffing how));
  }

  -- a read failed
  continues-failed : (more : List (List ℕ)) (how : InputEnd) (Ready : Type 0)
      → Continues stuffing rows (Some ReadFault) Ready (within_limit (uncut stuffing (rows ++ more) how) how)
  continues-failed more how Ready = record {
    rest = stuffed_after stuffing (0 + length rows) more ++ stop_nulls stuffing how;
    how = how;
    is = ap (λ (l : List Cell). within_limit l how)
        (uncut-front stuffing rows more how
        ∙ ap (λ (l : List Cell). (null_cells stuffing.start ++ l) ++ (stuffed_after stuffing (0 + length rows) more ++ stop_nulls stuffing how)) (sym (append-nil (stuffed_after stuffing 0 rows))));
    ends = tt;
    ready = λ some is. cc;
  }

  -- the end is plain
  continues-end : (left : ℕ) (Ready : Type 0) → Continues stuffing rows (Some (End left)) Ready (within_limit (uncut stuffing rows (End left)) (End left))
  continues-end left Ready = record {
    rest = [];
    how = End left;
    is = ap (λ (l : List Cell). within_limit l (End left)) (sym (append-nil (uncut stuffing rows (End left))));
    ends = (refl, refl);
    ready = λ some is. cc;
  }

  -- the sync is lost
  continues-lost : (packet : ℕ) (Ready : Type 0) → Continues stuffing rows (Some (Sync packet)) Ready (within_limit (uncut stuffing rows (Sync packet)) (Sync packet))
  continues-lost packet Ready = record {
    rest = [];
    how = Sync packet;
    is = ap (λ (l : List Cell). within_limit l (Sync packet)) (sym (append-nil (uncut stuffing rows (Sync packet))));
    ends = (refl, refl);
    ready = λ some is. cc;
  }

  of_packets : (ended : Option InputEnd) (Ready : Type 0) (bytes : List ℕ) (packets : List (List ℕ)) (how : InputEnd)
      → packets_of (concat rows ++ bytes) ≡ packets → (input_of_bytes (concat rows ++ bytes)).ended ≡ how
      → Continues stuffing rows ended Ready (within_limit (uncut stuffing packets how) how)
      → Continues stuffing rows ended Ready (stuffed stuffing (input_of_bytes (concat rows ++ bytes)))
  of_packets ended Ready bytes packets how same ends continues =
      subst (λ (p : List (List ℕ)). Continues stuffing rows ended Ready (within_limit (uncut stuffing p (input_of_bytes (concat rows ++ bytes)).ended) (input_of_bytes (concat rows ++ bytes)).ended)) (sym same)
      (subst (λ (e : InputEnd). Continues stuffing rows ended Ready (within_limit (uncut stuffing packets e) e)) (sym ends) continues)

  -- the list of a stream
  pub continues-stream : (hand more : List ℕ) (first now : SourceView) (read : List ℕ) (ended : Option InputEnd)
      → All IsPacket rows → StandsAtSource first now read hand (length rows) ended → MayFollowEnd ended more
      → Continues stuffing rows ended (BeginsPacket hand) (stuffed stuffing (input_of_bytes (concat rows ++ (hand ++ more))))
  continues-stream hand more first now read None are stands may =
      let bytes : List ℕ = hand ++ more in
      let behind : List (List ℕ) = packets_within (fuel_after rows bytes) bytes in
      let how : InputEnd = (input_of_bytes (concat rows ++ bytes)).ended in
      subst (λ (p : List (List ℕ)). Continues stuffing rows None (BeginsPacket hand) (within_limit (uncut stuffing p how) how))
      (sym (packets_of-rows rows bytes are))
      (continues-unknown behind how (BeginsPacket hand)
      (λ begins. packets_within-some (fuel_after rows bytes) bytes
      (front-begins bytes (begins-more hand more begins))
      (fuel-some rows bytes are (let whole = begins.whole in omega (arith, length-append hand more)))))
  continues-stream hand more first now read (Some (End left)) are stands may =
      let bytes : List ℕ = hand ++ more in
      let same : bytes ≡ hand = ap (λ (l : List ℕ). hand ++ l) may ∙ append-nil hand in
      let none : is_packet_in_front bytes ≡ false = ap is_packet_in_front same ∙ front-unfinished hand stands.1 in
      let packets : packets_of (concat rows ++ bytes) ≡ rows = packets_of-all rows bytes are none in
      let how : (input_of_bytes (concat rows ++ bytes)).ended ≡ End left =
      ended-behind rows bytes are none
      ∙ ap (end_after (length rows)) same
      ∙ end_after-unfinished (length rows) hand stands.1
      ∙ ap End stands.2 in
      of_packets (Some (End left)) (BeginsPacket hand) bytes rows (End left) packets how (continues-end left (BeginsPacket hand))
  continues-stream hand more first now read (Some (Sync packet)) are stands may =
      let bytes : List ℕ = hand ++ more in
      let none : is_packet_in_front bytes ≡ false = front-lost hand more stands.1 in
      let packets : packets_of (concat rows ++ bytes) ≡ rows = packets_of-all rows bytes are none in
      let how : (input_of_bytes (concat rows ++ bytes)).ended ≡ Sync packet =
      ended-behind rows bytes are none
      ∙ end_after-lost (length rows) hand more stands.1
      ∙ ap Sync (sym stands.2) in
      of_packets (Some (Sync packet)) (BeginsPacket hand) bytes rows (Sync packet) packets how (continues-lost packet (BeginsPacket hand))
  continues-stream hand more first now read (Some ReadFault) are stands may =
      let bytes : List ℕ = hand ++ more in
      let behind : List (List ℕ) = packets_within (fuel_after rows bytes) bytes in
      let how : InputEnd = (input_of_bytes (concat rows ++ bytes)).ended in
      of_packets (Some ReadFault) (BeginsPacket hand) bytes (rows ++ behind) how (packets_of-rows rows bytes are) refl (continues-failed behind how (BeginsPacket hand))
  continues-stream hand more first now read (Some TooLong) are stands may = absurd stands

-- an input of null packets alone
nulls-split : (count all : ℕ) → count ≤ all → replicate all null_packet ≡ replicate count null_packet ++ replicate (all - count) null_packet
nulls-split count all within =
    ap (λ (n : ℕ). replicate n null_packet) (omega arith) ∙ sym (replicate-append-replicate count (all - count) null_packet)

pub continues-nulls : (stuffing : model.Stuffing) (count all : ℕ) (ended : Option InputEnd) → count ≤ all → EndsWhenPut all count ended
    → Continues stuffing (replicate count null_packet) ended (count < all) (stuffed stuffing (input_of_nulls all))
continues-nulls stuffing count all None within stands =
    subst (λ (rows : List (List ℕ)). Continues stuffing (replicate count null_packet) None (count < all) (within_limit (uncut stuffing rows (End 0)) (End 0)))
    (sym (nulls-split count all within))
    (continues-unknown stuffing (replicate count null_packet) (replicate (all - count) null_packet) (End 0) (count < all)
    (λ few. omega (arith, length-replicate (all - count) null_packet)))
continues-nulls stuffing count all (Some (End left)) within stands =
    let same : replicate all null_packet ≡ replicate count null_packet = ap (λ (n : ℕ). replicate n null_packet) (sym stands.1) in
    subst (λ (n : ℕ). Continues stuffing (replicate count null_packet) (Some (End n)) (count < all) (stuffed stuffing (input_of_nulls all))) (sym stands.0)
    (subst (λ (rows : List (List ℕ)). Continues stuffing (replicate count null_packet) (Some (End 0)) (count < all) (within_limit (uncut stuffing rows (End 0)) (End 0)))
    (sym same) (continues-end stuffing (replicate count null_packet) 0 (count < all)))
continues-nulls stuffing count all (Some (Sync packet)) within stands = absurd stands
continues-nulls stuffing count all (Some ReadFault) within stands = absurd stands
continues-nulls stuffing count all (Some TooLong) within stands = absurd stands

-- an input of generated packets alone
pub continues-generated : (stuffing : model.Stuffing) (seed count all : ℕ) (ended : Option InputEnd) → count ≤ all → EndsWhenPut all count ended
    → Continues stuffing (generated_from seed 0 count) ended (count < all) (stuffed stuffing (input_of_generated seed all))
continues-generated stuffing seed count all None within stands =
    subst (λ (rows : List (List ℕ)). Continues stuffing (generated_from seed 0 count) None (count < all) (within_limit (uncut stuffing rows (End 0)) (End 0)))
    (sym (generated-split seed count all within))
    (continues-unknown stuffing (generated_from seed 0 count) (generated_from seed count (all - count)) (End 0) (count < all)
    (λ few. omega (arith, length-generated seed count (all - count))))
continues-generated stuffing seed count all (Some (End left)) within stands =
    let same : generated_from seed 0 all ≡ generated_from seed 0 count = ap (λ (n : ℕ). generated_from seed 0 n) (sym stands.1) in
    subst (λ (n : ℕ). Continues stuffing (generated_from seed 0 count) (Some (End n)) (count < all) (stuffed stuffing (input_of_generated seed all))) (sym stands.0)
    (subst (λ (rows : List (List ℕ)). Continues stuffing (generated_from seed 0 count) (Some (End 0)) (count < all) (within_limit (uncut stuffing rows (End 0)) (End 0)))
    (sym same) (continues-end stuffing (generated_from seed 0 count) 0 (count < all)))
continues-generated stuffing seed count all (Some (Sync packet)) within stands = absurd stands
continues-generated stuffing seed count all (Some ReadFault) within stands = absurd stands
continues-generated stuffing seed count all (Some TooLong) within stands = absurd stands

module _ {S : Type 0} (seen : S → SourceView) where
  -- a list that may be the input's goes on as what is put so far
  pub continues-feed : (feed : PacketFeed S) (stuffing : model.Stuffing) (first : SourceView) (read : List ℕ) (rows : List (List ℕ)) (ended : Option InputEnd) (input : StageList)
      → FeedStands seen feed first read rows ended → FeedGives seen feed stuffing read ended input
      → Continues stuffing rows ended (IsReady feed) input
  continues-feed (Stream stream) stuffing first read rows ended input stands gives =
      let more : List ℕ = gives.0 in
      let same : read ++ more ≡ concat rows ++ (hand_of stream ++ more) =
      ap (λ (l : List ℕ). l ++ more) stands.read_is ∙ append_assoc (concat rows) (hand_of stream) more in
      subst (λ (l : StageList). Continues stuffing rows ended (BeginsPacket (hand_of stream)) l)
      (sym (gives.1 ∙ ap (λ (l : List ℕ). stuffed stuffing (input_of_bytes l)) same))
      (continues-stream stuffing rows (hand_of stream) more first (seen stream.source) read ended stands.packets stands.source gives.3)
  continues-feed (Nulls nulls) stuffing first read rows ended input stands gives =
      subst (λ (l : StageList). Continues stuffing rows ended (nulls.packets < nulls.all) l) (sym gives)
      (subst (λ (r : List (List ℕ)). Continues stuffing r ended (nulls.packets < nulls.all) (stuffed stuffing (input_of_nulls nulls.all))) (sym stands.1)
      (continues-nulls stuffing nulls.packets nulls.all ended nulls.within stands.2))
  continues-feed (Generated feed) stuffing first read rows ended input stands gives =
      subst (λ (l : StageList). Continues stuffing rows ended (feed.packets < feed.all) l) (sym gives)
      (subst (λ (r : List (List ℕ)). Continues stuffing r ended (feed.packets < feed.all) (stuffed stuffing (input_of_generated feed.generator.seed feed.all))) (sym stands.1)
      (continues-generated stuffing feed.generator.seed feed.packets feed.all ended stands.3.0 stands.2))

-- a list within the limit, and one beyond it
pub within_limit-short : (cells : List Cell) (how : InputEnd) → length cells ≤ 2 ^ 60 → within_limit cells how ≡ record { cells = cells; ended = Some (input_over how) }
within_limit-short cells how short = cond-true _ _ _ (le-leb (length cells) (2 ^ 60) short)

pub within_limit-long : (cells : List Cell) (how : InputEnd) → 2 ^ 60 < length cells → within_limit cells how ≡ record { cells = take (2 ^ 60) cells; ended = Some (input_over TooLong) }
within_limit-long cells how long = cond-false _ _ _ (lt-leb (length cells) (2 ^ 60) long)

-- the list ends by the input's end
pub within_limit-ends : (cells : List Cell) (how : InputEnd) → (end : InputEnd) × ((within_limit cells how).ended ≡ Some (input_over end))
within_limit-ends cells how =
    elim (cases_lt (2 ^ 60) (length cells)) [
      | inl long ↦ (TooLong, ap (λ (l : StageList). l.ended) (within_limit-long cells how long))
      | inr short ↦ (how, ap (λ (l : StageList). l.ended) (within_limit-short cells how short))
    ]

-- cells that fit below the limit begin the list that they begin uncut
pub within_limit-prefix : (given more : List Cell) (how : InputEnd) → length given ≤ 2 ^ 60 → IsPrefix given (within_limit (given ++ more) how).cells
within_limit-prefix given more how fits =
    elim (cases_lt (2 ^ 60) (length (given ++ more))) [
      | inl long ↦ (
        take (2 ^ 60 - length given) more,
        ap (λ (l : StageList). l.cells) (within_limit-long (given ++ more) how long) ∙ take-past given more (2 ^ 60) fits,
      )
      | inr short ↦ (more, ap (λ (l : StageList). l.cells) (within_limit-short (given ++ more) how short))
    ]
