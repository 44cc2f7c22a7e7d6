-- How the packets of an input follow from the bytes that were read. This project's own rule.
use Rattle.std.specs.Prelude.{◌≡◌, ℕ, ◌+◌, ◌*◌, ◌<◌, ◌≤◌, List, [], ◌∷◌, ◌++◌, length, take, drop, replicate, ◌==◌, if◌then◌else◌, Option, None, Some, IfSome, vec_len, Result, Ok, Err}
use Rattle.ts_outside.specs.declared.faults.Failed.{Failed}
use Rattle.std.specs.List.{All, concat}
use Rattle.ts_packet.specs.declared.numbers.TheConstants.{PACKET_SIZE}
use Rattle.ts_packet.specs.Packet.{IsPacket, null_packet}
use Rattle.ts_packet.specs.declared.cell.Cell.{Cell}
use Rattle.ts_packet.specs.Cells.{Live}
use Rattle.ts_packet.specs.Labels.{no_labels}
use Rattle.ts_outside.specs.Source.{SourceView, unread, read_failed}
use Rattle.chain_model.specs.declared.input_end.InputEnd.{InputEnd}
use Rattle.chain_model.specs.declared.input_end.InputEnd.TheVariants.{End, Sync, ReadFault, TooLong}
use Rattle.stage_run.specs.declared.input_part.InputPart.{InputPart}
use Rattle.stage_run.specs.declared.input_part.InputPart.TheVariants as part
use Rattle.stage_run.specs.declared.packet_stream.PacketStream.{PacketStream}
use Rattle.stage_run.specs.declared.packet_feed.PacketFeed.{PacketFeed}
use Rattle.stage_run.specs.declared.packet_feed.PacketFeed.TheVariants.{Stream, Nulls, Generated}
use Rattle.stage_run.specs.declared.generated_feed.GeneratedFeed.{GeneratedFeed}
use Rattle.stage_run.specs.GeneratedInput.{generated_from}
use Rattle.stage_run.specs.Rows.{IsUnfinished, IsOutOfSync, BeginsPacket}

-- the bytes that were read and are in no packet yet
abbrev pub hand_of : {S : Type 0} → PacketStream S → List ℕ
hand_of stream = take stream.have (drop stream.from stream.room.bytes.items)

-- how a stream relates to its source: `first` is the source as it was, `now` as it is, `read` was read from it, and the
-- bytes in hand come after `count` packets
abbrev pub StandsAtSource : SourceView → SourceView → List ℕ → List ℕ → ℕ → Option InputEnd → Type 0
StandsAtSource first now read hand count None = first ≡ unread read now
StandsAtSource first now read hand count (Some (End left)) =
    (first ≡ unread read now) × IsUnfinished hand × (length hand ≡ left) × IfSome now.left (λ more. more ≡ [])
StandsAtSource first now read hand count (Some (Sync packet)) =
    (first ≡ unread read now) × IsOutOfSync hand × (packet ≡ count)
StandsAtSource first now read hand count (Some ReadFault) =
    (read_failed first ≡ unread read now) × IsUnfinished hand
StandsAtSource first now read hand count (Some TooLong) = ⊥

-- the stream read `read` and put the packets `rows`, and that is how they ended
pub record StreamStands {S : Type 0} (seen : S → SourceView) (stream : PacketStream S) (first : SourceView)
    (read : List ℕ) (rows : List (List ℕ)) (ended : Option InputEnd) : Type 0 where
  pub packets : All IsPacket rows
  pub count : length rows ≡ stream.packets
  pub room : stream.from + stream.have ≤ vec_len stream.room.bytes
  pub read_is : read ≡ concat rows ++ hand_of stream
  pub source : StandsAtSource first (seen stream.source) read (hand_of stream) (length rows) ended

-- the bytes in hand lie within the buffer
abbrev pub HasRoom : {S : Type 0} → PacketStream S → Type 0
HasRoom stream = stream.from + stream.have ≤ vec_len stream.room.bytes

-- the bytes in hand are where they were or elsewhere in the room, and nothing else changed
pub record MovesHand {S : Type 0} (old new : PacketStream S) : Type 0 where
  pub hand : hand_of new ≡ hand_of old
  pub have : new.have ≡ old.have
  pub source : new.source ≡ old.source
  pub packets : new.packets ≡ old.packets
  pub size : vec_len new.room.bytes ≡ vec_len old.room.bytes

-- so many more bytes are in hand, and they were read from the source; where there are none, no byte was left of it, if that is known
pub record ReadsMore {S : Type 0} (seen : S → SourceView) (old new : PacketStream S)
    (count : ℕ) : Type 0 where
  pub bytes : List ℕ
  pub length_is : length bytes ≡ count
  pub hand : hand_of new ≡ hand_of old ++ bytes
  pub have : new.have ≡ old.have + count
  pub source : seen old.source ≡ unread bytes (seen new.source)
  pub at_end : count ≡ 0 → IfSome (seen old.source).left (λ left. left ≡ [])

-- the read failed, and the bytes in hand are as before
pub record FailsToRead {S : Type 0} (seen : S → SourceView) (old new : PacketStream S) : Type 0 where
  pub hand : hand_of new ≡ hand_of old
  pub have : new.have ≡ old.have
  pub source : seen new.source ≡ read_failed (seen old.source)

-- some bytes were read so that a packet is ready or the end is known; no more than `wanted` packets need
pub record StreamLooks {S : Type 0} (seen : S → SourceView) (new : PacketStream S) (wanted : ℕ)
    (first : SourceView) (read : List ℕ) (rows : List (List ℕ)) (ended : Option InputEnd) : Type 0 where
  pub bytes : List ℕ
  pub stands : StreamStands seen new first (read ++ bytes) rows ended
  pub reads : (most : ℕ) → length read ≤ PACKET_SIZE * most → length rows + wanted ≤ most
      → length (read ++ bytes) ≤ PACKET_SIZE * most

-- the next packet was put into a cell
pub record StreamPuts {S : Type 0} (seen : S → SourceView) (new : PacketStream S) (first : SourceView)
    (read : List ℕ) (rows : List (List ℕ)) (cell : Cell) : Type 0 where
  pub row : List ℕ
  pub is_put : cell ≡ Live row no_labels
  pub stands : StreamStands seen new first read (rows ++ row ∷ []) None

-- these packets, each in a cell without labels
abbrev pub live_cells : List (List ℕ) → List Cell
live_cells [] = []
live_cells (row ∷ rows) = Live row no_labels ∷ live_cells rows

-- the packets after them were put into cells, one after another
pub record StreamPutsAll {S : Type 0} (seen : S → SourceView) (new : PacketStream S) (first : SourceView)
    (read : List ℕ) (rows : List (List ℕ)) (cells : List Cell) : Type 0 where
  pub put : List (List ℕ)
  pub are_put : cells ≡ live_cells put
  pub stands : StreamStands seen new first read (rows ++ put) None

-- so many bytes were read straight into a window, with those in hand: these packets, and what is in hand then
pub record ReadsPackets {S : Type 0} (seen : S → SourceView) (old new : PacketStream S) (wanted : ℕ)
    (put : List (List ℕ)) (count : ℕ) : Type 0 where
  pub bytes : List ℕ
  pub length_is : length bytes ≡ count
  pub all : hand_of old ++ bytes ≡ concat put ++ hand_of new
  pub source : seen old.source ≡ unread bytes (seen new.source)
  pub at_end : count ≡ 0 → IfSome (seen old.source).left (λ left. left ≡ [])
  pub few : length (hand_of old ++ bytes) ≤ PACKET_SIZE * wanted

-- the same, or the read failed, and nothing was put
abbrev pub Fills : {S : Type 0} → (S → SourceView) → PacketStream S → PacketStream S → ℕ → List (List ℕ)
    → Result ℕ Failed → Type 0
Fills seen old new wanted put (Ok count) = ReadsPackets seen old new wanted put count
Fills seen old new wanted put (Err fault) = (put ≡ []) × FailsToRead seen old new

-- how the packets ended by a read, before which so many bytes were in hand
abbrev pub end_of_count : ℕ → ℕ → Option InputEnd
end_of_count count left = if count == 0 then Some (End left) else None

abbrev pub end_of_read : Result ℕ Failed → ℕ → Option InputEnd
end_of_read (Ok count) left = end_of_count count left
end_of_read (Err fault) left = Some ReadFault

-- packets were read straight into a window; no more was read than `wanted` packets need
pub record StreamReads {S : Type 0} (seen : S → SourceView) (new : PacketStream S) (wanted : ℕ)
    (first : SourceView) (read : List ℕ) (rows put : List (List ℕ)) (ended : Option InputEnd) : Type 0 where
  pub bytes : List ℕ
  pub stands : StreamStands seen new first (read ++ bytes) (rows ++ put) ended
  pub reads : (most : ℕ) → length read ≤ PACKET_SIZE * most → length rows + wanted ≤ most
      → length (read ++ bytes) ≤ PACKET_SIZE * most

-- an input of so many packets that are not read ends when it has put them all
abbrev pub EndsWhenPut : ℕ → ℕ → Option InputEnd → Type 0
EndsWhenPut all count None = Unit {0}
EndsWhenPut all count (Some (End left)) = (left ≡ 0) × (count ≡ all)
EndsWhenPut all count (Some (Sync packet)) = ⊥
EndsWhenPut all count (Some ReadFault) = ⊥
EndsWhenPut all count (Some TooLong) = ⊥

-- the input that a feed returns
abbrev pub part_of_feed : {S : Type 0} → PacketFeed S → InputPart S
part_of_feed (Stream stream) = part.Stream stream.source
part_of_feed (Nulls feed) = part.Nulls feed.all
part_of_feed (Generated feed) = part.Generated feed.generator feed.all

-- how many packets were put
abbrev pub packets_put : {S : Type 0} → PacketFeed S → ℕ
packets_put (Stream stream) = stream.packets
packets_put (Nulls feed) = feed.packets
packets_put (Generated feed) = feed.packets

-- a packet can be put
abbrev pub IsReady : {S : Type 0} → PacketFeed S → Type 0
IsReady (Stream stream) = BeginsPacket (hand_of stream)
IsReady (Nulls feed) = feed.packets < feed.all
IsReady (Generated feed) = feed.packets < feed.all

-- one more packet has to be read: a source has none in hand, and the bytes in hand do not decide the end either
abbrev pub WantsMore : {S : Type 0} → PacketFeed S → Type 0
WantsMore (Stream stream) = IsUnfinished (hand_of stream)
WantsMore (Nulls feed) = ⊥
WantsMore (Generated feed) = ⊥

-- a generator has given the packets that were put, and these are no more than all
abbrev pub IsCounted : GeneratedFeed → Type 0
IsCounted feed = (feed.packets ≤ feed.all) × (feed.generator.given ≡ feed.packets)

-- the numbers of a feed are in their ranges
abbrev pub FeedHasRoom : {S : Type 0} → PacketFeed S → Type 0
FeedHasRoom (Stream stream) = HasRoom stream
FeedHasRoom (Nulls feed) = Unit {0}
FeedHasRoom (Generated feed) = IsCounted feed

-- both are streams, or both are the same number of null packets, or of packets of one seed
abbrev pub SameFeed : {S : Type 0} → PacketFeed S → PacketFeed S → Type 0
SameFeed (Stream old) (Stream new) = Unit {0}
SameFeed (Nulls old) (Nulls new) = new.all ≡ old.all
SameFeed (Generated old) (Generated new) =
    (new.all ≡ old.all) × (new.generator.seed ≡ old.generator.seed)
SameFeed _ _ = ⊥

-- the packets of an input of which nothing was read or put yet
abbrev pub IsFeedOf : {S : Type 0} → InputPart S → PacketFeed S → Type 0
IsFeedOf (part.Stream source) (Stream stream) =
    (stream.source ≡ source) × (stream.from ≡ 0) × (stream.have ≡ 0) × (stream.packets ≡ 0)
IsFeedOf (part.Nulls count) (Nulls feed) = (feed.all ≡ count) × (feed.packets ≡ 0)
IsFeedOf (part.Generated generator count) (Generated feed) =
    (feed.generator ≡ generator) × (feed.all ≡ count) × (feed.packets ≡ 0)
IsFeedOf _ _ = ⊥

-- the packets of an input: it read `read` and put the packets `rows`, and that is how they ended
abbrev pub FeedStands : {S : Type 0} → (S → SourceView) → PacketFeed S → SourceView → List ℕ → List (List ℕ)
    → Option InputEnd → Type 0
FeedStands seen (Stream stream) first read rows ended = StreamStands seen stream first read rows ended
FeedStands seen (Nulls feed) first read rows ended =
    (read ≡ []) × (rows ≡ replicate feed.packets null_packet) × EndsWhenPut feed.all feed.packets ended
FeedStands seen (Generated feed) first read rows ended =
    (read ≡ []) × (rows ≡ generated_from feed.generator.seed 0 feed.packets)
    × EndsWhenPut feed.all feed.packets ended × IsCounted feed

-- a packet is ready or the end is known
pub record FeedLooks {S : Type 0} (seen : S → SourceView) (old new : PacketFeed S) (wanted : ℕ)
    (first : SourceView) (read : List ℕ) (rows : List (List ℕ)) (ended : Option InputEnd) : Type 0 where
  pub same : SameFeed old new
  pub bytes : List ℕ
  pub stands : FeedStands seen new first (read ++ bytes) rows ended
  pub reads : (most : ℕ) → length read ≤ PACKET_SIZE * most → length rows + wanted ≤ most
      → length (read ++ bytes) ≤ PACKET_SIZE * most

-- the next packet was put into a cell
pub record FeedPuts {S : Type 0} (seen : S → SourceView) (old new : PacketFeed S) (first : SourceView)
    (read : List ℕ) (rows : List (List ℕ)) (cell : Cell) : Type 0 where
  pub same : SameFeed old new
  pub row : List ℕ
  pub is_put : cell ≡ Live row no_labels
  pub stands : FeedStands seen new first read (rows ++ row ∷ []) None

-- the packets after them were put into cells, one after another
pub record FeedPutsAll {S : Type 0} (seen : S → SourceView) (old new : PacketFeed S) (first : SourceView)
    (read : List ℕ) (rows : List (List ℕ)) (cells : List Cell) : Type 0 where
  pub same : SameFeed old new
  pub put : List (List ℕ)
  pub are_put : cells ≡ live_cells put
  pub stands : FeedStands seen new first read (rows ++ put) None

-- packets were read straight into a window
pub record FeedReads {S : Type 0} (seen : S → SourceView) (old new : PacketFeed S) (wanted : ℕ)
    (first : SourceView) (read : List ℕ) (rows put : List (List ℕ)) (ended : Option InputEnd) : Type 0 where
  pub same : SameFeed old new
  pub bytes : List ℕ
  pub stands : FeedStands seen new first (read ++ bytes) (rows ++ put) ended
  pub reads : (most : ℕ) → length read ≤ PACKET_SIZE * most → length rows + wanted ≤ most
      → length (read ++ bytes) ≤ PACKET_SIZE * most
