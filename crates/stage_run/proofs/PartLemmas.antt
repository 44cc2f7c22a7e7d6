-- An input before it was read, and what it leaves.
use Rattle.std.proofs.Common.{◌≡◌, ◌≢◌, ℕ, ◌^◌, ◌≤◌, ◌↔◌, List, [], ◌++◌, length, take, drop, replicate, refl, ap, sym, ◌∙◌, arith, append-nil, subst, Option, None, Some, false}
use Rattle.std.specs.Option.{IfSome}
use Rattle.std.specs.List.{All, concat}
use Rattle.ts_packet.specs.Packet.{IsPacket, null_packet}
use Rattle.ts_packet.specs.declared.cell.Cell.{Cell}
use Rattle.ts_outside.specs.Source.{SourceView, unread, read_failed}
use Rattle.ts_outside.specs.Sink.{SinkView}
use Rattle.ts_outside.proofs.Views.{unread-nil}
use Rattle.chain_model.specs.declared.input_end.InputEnd.{InputEnd}
use Rattle.chain_model.specs.declared.input_end.InputEnd.TheVariants.{End, Sync, ReadFault, TooLong}
use Rattle.chain_model.specs.Apply.{StageList}
use Rattle.chain_model.specs.InputList.{InputList, is_packet_in_front, packets_of, input_of_bytes, input_of_nulls}
use Rattle.chain_model.specs.Stuffed.{null_cells, stuffed_after, within_limit, stuffed}
use Rattle.chain_model.specs.Stuffed as model
use Rattle.chain_core.specs.declared.stage_end.StageEnd.{StageEnd}
use Rattle.chain_core.specs.declared.stage_end.StageEnd.TheVariants.{Input, Last, Stop, Refuse, WriteFault, NoMemory, Followed}
use Rattle.stage_run.specs.declared.input_part.InputPart.{InputPart}
use Rattle.stage_run.specs.declared.input_part.InputPart.TheVariants as part
use Rattle.stage_run.specs.declared.packet_stream.PacketStream.{PacketStream}
use Rattle.stage_run.specs.declared.packet_feed.PacketFeed.{PacketFeed}
use Rattle.stage_run.specs.declared.packet_feed.PacketFeed.TheVariants.{Stream, Nulls, Generated}
use Rattle.stage_run.specs.declared.input_stage.InputStage.{InputStage}
use Rattle.stage_run.specs.PartLists.{PartLists, fresh_lists}
use Rattle.ts_testgen.specs.Generated.{Generator}
use Rattle.stage_run.specs.GeneratedInput.{generated_from, input_of_generated}
use Rattle.stage_run.specs.Rows.{IsUnfinished}
use Rattle.stage_run.specs.Feeds.{FeedStands, StandsAtSource, EndsWhenPut, IsFeedOf, part_of_feed, hand_of}
use Rattle.stage_run.specs.InputStands.{InputStands, IsOpen, FitsTold, FeedGives, MayGive, stuffing_of, stuffed_so_far}
use Rattle.stage_run.specs.Parts.{IsListOf, IsSourceOf, IsUnused, FailedReading, LeavesSource, LeavesInput, EndsByInput, SomeList}
use Rattle.stage_run.proofs.PacketLemmas.{front-unfinished, packets_of-all, end_after-unfinished}
use Rattle.stage_run.proofs.ContinuesLemmas.{ended-behind, within_limit-short, within_limit-ends}

-- what a read fault leaves
failed_reading : (stuffing : model.Stuffing) (first now : SourceView) (lists : PartLists) (rows : List (List ℕ)) (hand : List ℕ) (nulls : ℕ)
    → All IsPacket rows → lists.read ≡ concat rows ++ hand → read_failed first ≡ unread lists.read now → IsUnfinished hand → nulls ≡ 0
    → lists.given ++ null_cells nulls ≡ stuffed_so_far stuffing rows (Some ReadFault) → length lists.given ≤ 2 ^ 60
    → FailedReading stuffing first now lists
failed_reading stuffing first now lists rows hand nulls are read_is source unfinished none cells within =
    let no_front : is_packet_in_front hand ≡ false = front-unfinished hand unfinished in
    let packets : packets_of lists.read ≡ rows = ap packets_of read_is ∙ packets_of-all rows hand are no_front in
    let given_is : lists.given ≡ stuffed_so_far stuffing rows (Some ReadFault) =
    sym (append-nil lists.given) ∙ ap (λ (n : ℕ). lists.given ++ null_cells n) (sym none) ∙ cells in
    record {
      source = source;
      in_sync = (
        length hand,
        ap (λ (l : List ℕ). (input_of_bytes l).ended) read_is ∙ ended-behind rows hand are no_front ∙ end_after-unfinished (length rows) hand unfinished,
      );
      given =
          sym (ap (λ (l : StageList). l.cells) (within_limit-short lists.given ReadFault within))
          ∙ ap (λ (l : List Cell). (within_limit l ReadFault).cells) given_is
          ∙ ap (λ (p : List (List ℕ)). (stuffed stuffing (record { packets = p; ended = ReadFault })).cells) (sym packets);
    }

-- a source of which no call failed
quiet_source : (first now : SourceView) (read hand : List ℕ) (count : ℕ) (ended : Option InputEnd) → StandsAtSource first now read hand count ended
    → ended ≢ Some ReadFault → first ≡ unread read now
quiet_source first now read hand count None stands quiet = stands
quiet_source first now read hand count (Some (End left)) stands quiet = stands.0
quiet_source first now read hand count (Some (Sync packet)) stands quiet = stands.0
quiet_source first now read hand count (Some ReadFault) stands quiet = absurd (quiet refl)
quiet_source first now read hand count (Some TooLong) stands quiet = absurd stands

open_quiet : (ended : Option InputEnd) → IsOpen ended → ended ≢ Some ReadFault
open_quiet None is e = cc
open_quiet (Some (End left)) is e = cc
open_quiet (Some (Sync packet)) is e = absurd is
open_quiet (Some ReadFault) is e = absurd is
open_quiet (Some TooLong) is e = absurd is

other_quiet : (ended : Option InputEnd) (how : InputEnd) → ended ≡ Some how → how ≢ ReadFault → ended ≢ Some ReadFault
other_quiet ended how is other e = let same : how ≡ ReadFault = cc in other same

module _ {S : Type 0} (seen : S → SourceView) where
  leaves_stream : (stage : InputStage S) (stream : PacketStream S) (lists : PartLists) (rows : List (List ℕ)) (told : Option StageEnd)
      → FeedStands seen (Stream stream) lists.source lists.read rows stage.ended
      → lists.given ++ null_cells stage.nulls ≡ stuffed_so_far (stuffing_of stage.stuffing) rows stage.ended → length lists.given ≤ 2 ^ 60
      → FitsTold stage.ended stage.nulls lists told → LeavesSource (stuffing_of stage.stuffing) lists.source (seen stream.source) lists told
  leaves_stream stage stream lists rows None stands cells within fits =
      quiet_source lists.source (seen stream.source) lists.read (hand_of stream) (length rows) stage.ended stands.source (open_quiet stage.ended fits.can)
  leaves_stream stage stream lists rows (Some Followed) stands cells within fits =
      quiet_source lists.source (seen stream.source) lists.read (hand_of stream) (length rows) stage.ended stands.source (open_quiet stage.ended fits.can)
  leaves_stream stage stream lists rows (Some (Input (End left))) stands cells within fits =
      quiet_source lists.source (seen stream.source) lists.read (hand_of stream) (length rows) stage.ended stands.source (other_quiet stage.ended (End left) fits.0 (λ e. cc))
  leaves_stream stage stream lists rows (Some (Input (Sync packet))) stands cells within fits =
      quiet_source lists.source (seen stream.source) lists.read (hand_of stream) (length rows) stage.ended stands.source (other_quiet stage.ended (Sync packet) fits.0 (λ e. cc))
  leaves_stream stage stream lists rows (Some (Input TooLong)) stands cells within fits =
      quiet_source lists.source (seen stream.source) lists.read (hand_of stream) (length rows) stage.ended stands.source (open_quiet stage.ended fits.1)
  leaves_stream stage stream lists rows (Some (Input ReadFault)) stands cells within fits =
      let source = subst (λ (e : Option InputEnd). StandsAtSource lists.source (seen stream.source) lists.read (hand_of stream) (length rows) e) fits.0 stands.source in
      failed_reading (stuffing_of stage.stuffing) lists.source (seen stream.source) lists rows (hand_of stream) stage.nulls stands.packets stands.read_is source.0 source.1 fits.1
      (cells ∙ ap (λ (e : Option InputEnd). stuffed_so_far (stuffing_of stage.stuffing) rows e) fits.0) within
  leaves_stream stage stream lists rows (Some Last) stands cells within fits = absurd fits
  leaves_stream stage stream lists rows (Some Stop) stands cells within fits = absurd fits
  leaves_stream stage stream lists rows (Some (Refuse reason)) stands cells within fits = absurd fits
  leaves_stream stage stream lists rows (Some WriteFault) stands cells within fits = absurd fits
  leaves_stream stage stream lists rows (Some NoMemory) stands cells within fits = absurd fits

  no_fault_told : (ended : Option InputEnd) (nulls : ℕ) (lists : PartLists) (told : Option StageEnd) → ended ≢ Some ReadFault → FitsTold ended nulls lists told → told ≢ Some (Input ReadFault)
  no_fault_told ended nulls lists told quiet fits e =
      let now = subst (λ (t : Option StageEnd). FitsTold ended nulls lists t) e fits in quiet now.0

  nulls_quiet : (ended : Option InputEnd) (all count : ℕ) → EndsWhenPut all count ended → ended ≢ Some ReadFault
  nulls_quiet None all count is e = cc
  nulls_quiet (Some (End left)) all count is e = cc
  nulls_quiet (Some (Sync packet)) all count is e = absurd is
  nulls_quiet (Some ReadFault) all count is e = absurd is
  nulls_quiet (Some TooLong) all count is e = absurd is

  leaves_feed : (feed : PacketFeed S) (stage : InputStage S) (lists : PartLists) (rows : List (List ℕ)) (told : Option StageEnd)
      → FeedStands seen feed lists.source lists.read rows stage.ended
      → lists.given ++ null_cells stage.nulls ≡ stuffed_so_far (stuffing_of stage.stuffing) rows stage.ended → length lists.given ≤ 2 ^ 60
      → FitsTold stage.ended stage.nulls lists told → LeavesInput seen (part_of_feed feed) (stuffing_of stage.stuffing) lists told
  leaves_feed (Stream stream) stage lists rows told stands cells within fits = leaves_stream stage stream lists rows told stands cells within fits
  leaves_feed (Nulls nulls) stage lists rows told stands cells within fits =
      no_fault_told stage.ended stage.nulls lists told (nulls_quiet stage.ended nulls.all nulls.packets stands.2) fits
  leaves_feed (Generated feed) stage lists rows told stands cells within fits =
      no_fault_told stage.ended stage.nulls lists told (nulls_quiet stage.ended feed.all feed.packets stands.2) fits

  pub leaves_input : (stage : InputStage S) (lists : PartLists) (told : Option StageEnd) → InputStands seen stage lists told
      → LeavesInput seen (part_of_feed stage.feed) (stuffing_of stage.stuffing) lists told
  leaves_input stage lists told stands =
      leaves_feed stage.feed stage lists stands.holds.rows told stands.holds.feed stands.holds.cells stands.within stands.fits

  some_more : (left : Option (List ℕ)) → (more : List ℕ) × IfSome left (λ l. l ≡ more)
  some_more None = ([], tt)
  some_more (Some l) = (l, refl)

  some_stream : (stream : PacketStream S) (stuffing : model.Stuffing) (first : SourceView) (read : List ℕ) (count : ℕ) (ended : Option InputEnd)
      → StandsAtSource first (seen stream.source) read (hand_of stream) count ended → (input : StageList) × FeedGives seen (Stream stream) stuffing read ended input
  some_stream stream stuffing first read count (Some (End left)) stands = (stuffed stuffing (input_of_bytes (read ++ [])), ([], refl, stands.3, refl))
  some_stream stream stuffing first read count None stands =
      let more = some_more (seen stream.source).left in (stuffed stuffing (input_of_bytes (read ++ more.0)), (more.0, refl, more.1, tt))
  some_stream stream stuffing first read count (Some (Sync packet)) stands =
      let more = some_more (seen stream.source).left in (stuffed stuffing (input_of_bytes (read ++ more.0)), (more.0, refl, more.1, tt))
  some_stream stream stuffing first read count (Some ReadFault) stands =
      let more = some_more (seen stream.source).left in (stuffed stuffing (input_of_bytes (read ++ more.0)), (more.0, refl, more.1, tt))
  some_stream stream stuffing first read count (Some TooLong) stands = absurd stands

  some_feed : (feed : PacketFeed S) (stuffing : model.Stuffing) (first : SourceView) (read : List ℕ) (rows : List (List ℕ)) (ended : Option InputEnd)
      → FeedStands seen feed first read rows ended → (input : StageList) × FeedGives seen feed stuffing read ended input
  some_feed (Stream stream) stuffing first read rows ended stands = some_stream stream stuffing first read (length rows) ended stands.source
  some_feed (Nulls nulls) stuffing first read rows ended stands = (stuffed stuffing (input_of_nulls nulls.all), refl)
  some_feed (Generated feed) stuffing first read rows ended stands = (stuffed stuffing (input_of_generated feed.generator.seed feed.all), refl)

  stuffed-ends : (stuffing : model.Stuffing) (input : InputList) → EndsByInput (stuffed stuffing input)
  stuffed-ends stuffing input = within_limit-ends (null_cells stuffing.start ++ (stuffed_after stuffing 0 input.packets ++ model.stop_nulls stuffing input.ended)) input.ended

  each_ends : (feed : PacketFeed S) (stuffing : model.Stuffing) (read : List ℕ) (ended : Option InputEnd) (input : StageList)
      → FeedGives seen feed stuffing read ended input → EndsByInput input
  each_ends (Stream stream) stuffing read ended input gives = subst EndsByInput (sym gives.1) (stuffed-ends stuffing (input_of_bytes (read ++ gives.0)))
  each_ends (Nulls nulls) stuffing read ended input gives = subst EndsByInput (sym gives) (stuffed-ends stuffing (input_of_nulls nulls.all))
  each_ends (Generated feed) stuffing read ended input gives = subst EndsByInput (sym gives) (stuffed-ends stuffing (input_of_generated feed.generator.seed feed.all))

  pub some_list : (stage : InputStage S) (lists : PartLists) (told : Option StageEnd) → InputStands seen stage lists told → SomeList (MayGive seen stage lists)
  some_list stage lists told stands =
      let some = some_feed stage.feed (stuffing_of stage.stuffing) lists.source lists.read stands.holds.rows stage.ended stands.holds.feed in
      record {
        list = some.0;
        gives = some.1;
        each_ends = λ input gives. each_ends stage.feed (stuffing_of stage.stuffing) lists.read stage.ended input gives;
      }

  gives_fresh : (input_part : InputPart S) (feed : PacketFeed S) (stuffing : model.Stuffing) (input : StageList) → IsFeedOf input_part feed
      → FeedGives seen feed stuffing [] None input ↔ IsListOf seen input_part stuffing input
  gives_fresh (part.Stream source) (Stream stream) stuffing input is = (
    λ gives. (gives.0, gives.1, subst (λ (s : S). IfSome (seen s).left (λ left. left ≡ gives.0)) is.0 gives.2),
    λ list. (list.0, list.1, subst (λ (s : S). IfSome (seen s).left (λ left. left ≡ list.0)) (sym is.0) list.2, tt),
  )
  gives_fresh (part.Stream source) (Nulls nulls) stuffing input is = absurd is
  gives_fresh (part.Stream source) (Generated feed) stuffing input is = absurd is
  gives_fresh (part.Nulls count) (Stream stream) stuffing input is = absurd is
  gives_fresh (part.Nulls count) (Generated feed) stuffing input is = absurd is
  gives_fresh (part.Generated generator count) (Stream stream) stuffing input is = absurd is
  gives_fresh (part.Generated generator count) (Nulls nulls) stuffing input is = absurd is
  gives_fresh (part.Generated generator count) (Generated feed) stuffing input is =
      let same : stuffed stuffing (input_of_generated feed.generator.seed feed.all) ≡ stuffed stuffing (input_of_generated generator.seed count) =
      ap (λ (n : ℕ). stuffed stuffing (input_of_generated feed.generator.seed n)) is.1
      ∙ ap (λ (g : Generator). stuffed stuffing (input_of_generated g.seed count)) is.0 in
      (λ gives. gives ∙ same, λ list. list ∙ sym same)
  gives_fresh (part.Nulls count) (Nulls nulls) stuffing input is = (
    λ gives. gives ∙ ap (λ (n : ℕ). stuffed stuffing (input_of_nulls n)) is.0,
    λ list. list ∙ ap (λ (n : ℕ). stuffed stuffing (input_of_nulls n)) (sym is.0),
  )

  pub gives_list : (input_part : InputPart S) (stage : InputStage S) (source : SourceView) (sink : SinkView) (mark : ℕ) (input : StageList)
      → IsFeedOf input_part stage.feed → stage.ended ≡ None
      → MayGive seen stage (fresh_lists source sink mark) input ↔ IsListOf seen input_part (stuffing_of stage.stuffing) input
  gives_list input_part stage source sink mark input is none =
      subst (λ (e : Option InputEnd). FeedGives seen stage.feed (stuffing_of stage.stuffing) [] e input ↔ IsListOf seen input_part (stuffing_of stage.stuffing) input) (sym none)
      (gives_fresh input_part stage.feed (stuffing_of stage.stuffing) input is)

  feed_fresh : (input_part : InputPart S) (feed : PacketFeed S) (source : SourceView) → IsSourceOf seen input_part source → IsUnused input_part → IsFeedOf input_part feed
      → FeedStands seen feed source [] [] None
  feed_fresh (part.Stream s) (Stream stream) source view unused is =
      let hand : hand_of stream ≡ [] = ap (λ (n : ℕ). take n (drop stream.from stream.room.bytes.items)) is.2 in
      record {
        packets = λ k d few. absurd (omega arith);
        count = sym is.3;
        room = let from = is.1 in let have = is.2 in omega arith;
        read_is = sym hand;
        source = view ∙ ap seen (sym is.0) ∙ sym (unread-nil (seen stream.source));
      }
  feed_fresh (part.Stream s) (Nulls nulls) source view unused is = absurd is
  feed_fresh (part.Stream s) (Generated feed) source view unused is = absurd is
  feed_fresh (part.Nulls count) (Stream stream) source view unused is = absurd is
  feed_fresh (part.Nulls count) (Generated feed) source view unused is = absurd is
  feed_fresh (part.Generated generator count) (Stream stream) source view unused is = absurd is
  feed_fresh (part.Generated generator count) (Nulls nulls) source view unused is = absurd is
  feed_fresh (part.Generated generator count) (Generated feed) source view unused is =
      let none : feed.packets ≡ 0 = is.2 in (
        refl,
        ap (λ (n : ℕ). generated_from feed.generator.seed 0 n) (sym none),
        tt,
        (omega arith, ap (λ (g : Generator). g.given) is.0 ∙ unused ∙ sym none),
      )
  feed_fresh (part.Nulls count) (Nulls nulls) source view unused is = (refl, ap (λ (n : ℕ). replicate n null_packet) (sym is.1), tt)

  -- an input of which nothing was read or given stands for that
  pub stands_fresh : (input_part : InputPart S) (stage : InputStage S) (source : SourceView) (sink : SinkView) (mark : ℕ)
      → IsSourceOf seen input_part source → IsUnused input_part → IsFeedOf input_part stage.feed → stage.ended ≡ None → stage.nulls ≡ stage.stuffing.start → 1 ≤ stage.stuffing.every
      → InputStands seen stage (fresh_lists source sink mark) None
  stands_fresh input_part stage source sink mark view unused is none due every = record {
    holds = record {
      rows = [];
      feed = subst (λ (e : Option InputEnd). FeedStands seen stage.feed source [] [] e) (sym none) (feed_fresh input_part stage.feed source view unused is);
      cells = ap null_cells due
          ∙ sym (append-nil (null_cells stage.stuffing.start))
          ∙ ap (λ (e : Option InputEnd). stuffed_so_far (stuffing_of stage.stuffing) [] e) (sym none);
      put = omega arith;
      every = every;
    };
    fits = record { can = subst IsOpen (sym none) tt; reads = omega arith };
    within = omega arith;
  }
