-- What was read of the source of an input reaches as far as the cells that it gave.
use Rattle.std.proofs.Common.{◌≡◌, inl, inr, ◌⊎◌, ℕ, ◌+◌, ◌^◌, ◌≤◌, List, [], ◌++◌, length, take, Option, None, Some, refl, ap, sym, ◌∙◌, subst, arith, length-append, length-take, append-nil}
use Rattle.std.proofs.lemmas.Bool.{cases_lt}
use Rattle.std.specs.Option.{IfSome}
use Rattle.std.specs.List.{All, concat}
use Rattle.ts_packet.specs.Packet.{IsPacket}
use Rattle.ts_packet.specs.declared.cell.Cell.{Cell}
use Rattle.ts_outside.specs.Source.{SourceView, unread, read_failed}
use Rattle.chain_model.specs.declared.input_end.InputEnd.{InputEnd}
use Rattle.chain_model.specs.declared.input_end.InputEnd.TheVariants.{End, Sync, ReadFault, TooLong}
use Rattle.chain_model.specs.Apply.{StageList}
use Rattle.chain_model.specs.InputList.{packets_of, packets_within}
use Rattle.chain_model.specs.InputRead.{list_at_fault}
use Rattle.chain_model.specs.Stuffed.{null_cells, stuffed_after, within_limit}
use Rattle.chain_model.specs.Stuffed as model
use Rattle.chain_core.specs.declared.stage_end.StageEnd.{StageEnd}
use Rattle.stage_run.specs.declared.packet_feed.PacketFeed.{PacketFeed}
use Rattle.stage_run.specs.declared.packet_feed.PacketFeed.TheVariants.{Stream, Nulls, Generated}
use Rattle.stage_run.specs.declared.input_stage.InputStage.{InputStage}
use Rattle.stage_run.specs.PartLists.{PartLists}
use Rattle.stage_run.specs.Feeds.{FeedStands, StandsAtSource, hand_of, part_of_feed}
use Rattle.stage_run.specs.InputStands.{InputStands, stuffing_of, stuffed_so_far}
use Rattle.stage_run.specs.SourceNow.{IsFedBy, WasRead, WasReadOf}
use Rattle.stage_run.proofs.PacketLemmas.{packets_of-rows, fuel_after}
use Rattle.stage_run.proofs.ContinuesLemmas.{stuffed_after-append, within_limit-short, within_limit-long}

-- bytes were read of it, and at most one call failed
read-of : (first now : SourceView) (read hand : List ℕ) (count : ℕ) (ended : Option InputEnd) → StandsAtSource first now read hand count ended
    → (first ≡ unread read now) ⊎ (read_failed first ≡ unread read now)
read-of first now read hand count None stands = inl stands
read-of first now read hand count (Some (End left)) stands = inl stands.0
read-of first now read hand count (Some (Sync packet)) stands = inl stands.0
read-of first now read hand count (Some ReadFault) stands = inr stands.0
read-of first now read hand count (Some TooLong) stands = absurd stands

-- cells that are cut at the limit of positions
limit-has : (given : ℕ) (cells : List Cell) (how : InputEnd) → given ≤ length cells → given ≤ 2 ^ 60 → given ≤ length (within_limit cells how).cells
limit-has given cells how few low =
    elim (cases_lt (2 ^ 60) (length cells)) [
      | inl long ↦
          let is : length (within_limit cells how).cells ≡ length (take (2 ^ 60) cells) = ap (λ (l : StageList). length l.cells) (within_limit-long cells how long) in
          omega (arith, length-take (2 ^ 60) cells)
      | inr short ↦
          let is : length (within_limit cells how).cells ≡ length cells = ap (λ (l : StageList). length l.cells) (within_limit-short cells how short) in
          omega arith
    ]

-- the packets that were put, with their null packets, are at the front of those that were read
reaches : (stuffing : model.Stuffing) (read hand : List ℕ) (rows : List (List ℕ)) (given : List Cell) (nulls : ℕ) → All IsPacket rows → read ≡ concat rows ++ hand
    → given ++ null_cells nulls ≡ null_cells stuffing.start ++ stuffed_after stuffing 0 rows → length given ≤ 2 ^ 60
    → length given ≤ length (list_at_fault stuffing read).cells
reaches stuffing read hand rows given nulls are read_is cells low =
    let behind : List (List ℕ) = packets_within (fuel_after rows hand) hand in
    let packets : packets_of read ≡ rows ++ behind = ap packets_of read_is ∙ packets_of-rows rows hand are in
    let all : List Cell = null_cells stuffing.start ++ (stuffed_after stuffing 0 (packets_of read) ++ []) in
    let more : List Cell = stuffed_after stuffing (0 + length rows) behind in
    let long : length (stuffed_after stuffing 0 (packets_of read)) ≡ length (stuffed_after stuffing 0 rows) + length more =
    ap (λ (p : List (List ℕ)). length (stuffed_after stuffing 0 p)) packets
    ∙ ap (λ (l : List Cell). length l) (stuffed_after-append stuffing 0 rows behind)
    ∙ length-append (stuffed_after stuffing 0 rows) more in
    let given_few : length given + length (null_cells nulls) ≡ length (null_cells stuffing.start) + length (stuffed_after stuffing 0 rows) =
    sym (length-append given (null_cells nulls)) ∙ ap (λ (l : List Cell). length l) cells ∙ length-append (null_cells stuffing.start) (stuffed_after stuffing 0 rows) in
    let all_long : length all ≡ length (null_cells stuffing.start) + (length (stuffed_after stuffing 0 (packets_of read)) + 0) =
    length-append (null_cells stuffing.start) (stuffed_after stuffing 0 (packets_of read) ++ [])
    ∙ ap (λ (n : ℕ). length (null_cells stuffing.start) + n) (length-append (stuffed_after stuffing 0 (packets_of read)) []) in
    limit-has (length given) all ReadFault (omega arith) low

reach-of : (stuffing : model.Stuffing) (first now : SourceView) (read hand : List ℕ) (rows : List (List ℕ)) (given : List Cell) (nulls : ℕ) (ended : Option InputEnd)
    → All IsPacket rows → read ≡ concat rows ++ hand → StandsAtSource first now read hand (length rows) ended
    → given ++ null_cells nulls ≡ stuffed_so_far stuffing rows ended → length given ≤ 2 ^ 60
    → IfSome now.left (λ left. left ≡ []) ⊎ (length given ≤ length (list_at_fault stuffing read).cells)
reach-of stuffing first now read hand rows given nulls None are read_is stands cells low = inr (reaches stuffing read hand rows given nulls are read_is cells low)
reach-of stuffing first now read hand rows given nulls (Some (End left)) are read_is stands cells low = inl stands.3
reach-of stuffing first now read hand rows given nulls (Some (Sync packet)) are read_is stands cells low =
    inr (reaches stuffing read hand rows given nulls are read_is (cells ∙ ap (λ (l : List Cell). null_cells stuffing.start ++ l) (append-nil (stuffed_after stuffing 0 rows))) low)
reach-of stuffing first now read hand rows given nulls (Some ReadFault) are read_is stands cells low =
    inr (reaches stuffing read hand rows given nulls are read_is (cells ∙ ap (λ (l : List Cell). null_cells stuffing.start ++ l) (append-nil (stuffed_after stuffing 0 rows))) low)
reach-of stuffing first now read hand rows given nulls (Some TooLong) are read_is stands cells low = absurd stands

module _ {S : Type 0} (seen : S → SourceView) where
  of-feed : (feed : PacketFeed S) (source : S) (stuffing : model.Stuffing) (lists : PartLists) (rows : List (List ℕ)) (nulls : ℕ) (ended : Option InputEnd)
      → IsFedBy source feed → FeedStands seen feed lists.source lists.read rows ended → lists.given ++ null_cells nulls ≡ stuffed_so_far stuffing rows ended
      → length lists.given ≤ 2 ^ 60 → WasRead stuffing lists.source (seen source) lists
  of-feed (Stream stream) source stuffing lists rows nulls ended fed stands cells low =
      subst (λ (s : S). WasRead stuffing lists.source (seen s) lists) fed
      (record {
        source = read-of lists.source (seen stream.source) lists.read (hand_of stream) (length rows) ended stands.source;
        reach = reach-of stuffing lists.source (seen stream.source) lists.read (hand_of stream) rows lists.given nulls ended stands.packets stands.read_is stands.source cells low;
      })
  of-feed (Nulls feed) source stuffing lists rows nulls ended fed stands cells low = absurd fed
  of-feed (Generated feed) source stuffing lists rows nulls ended fed stands cells low = absurd fed

  left-feed : (feed : PacketFeed S) (stuffing : model.Stuffing) (lists : PartLists) (rows : List (List ℕ)) (nulls : ℕ) (ended : Option InputEnd)
      → FeedStands seen feed lists.source lists.read rows ended → lists.given ++ null_cells nulls ≡ stuffed_so_far stuffing rows ended
      → length lists.given ≤ 2 ^ 60 → WasReadOf seen (part_of_feed feed) stuffing lists
  left-feed (Stream stream) stuffing lists rows nulls ended stands cells low = of-feed (Stream stream) stream.source stuffing lists rows nulls ended refl stands cells low
  left-feed (Nulls feed) stuffing lists rows nulls ended stands cells low = tt
  left-feed (Generated feed) stuffing lists rows nulls ended stands cells low = tt

  pub left-read : (stage : InputStage S) (lists : PartLists) (told : Option StageEnd) → InputStands seen stage lists told
      → WasReadOf seen (part_of_feed stage.feed) (stuffing_of stage.stuffing) lists
  left-read stage lists told stands =
      left-feed stage.feed (stuffing_of stage.stuffing) lists stands.holds.rows stage.nulls stage.ended stands.holds.feed stands.holds.cells stands.within

  pub was-read : (stage : InputStage S) (source : S) (lists : PartLists) (told : Option StageEnd) → IsFedBy source stage.feed → InputStands seen stage lists told
      → WasRead (stuffing_of stage.stuffing) lists.source (seen source) lists
  was-read stage source lists told fed stands =
      of-feed stage.feed source (stuffing_of stage.stuffing) lists stands.holds.rows stage.nulls stage.ended fed stands.holds.feed stands.holds.cells stands.within
