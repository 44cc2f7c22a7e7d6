-- Bytes in hand: how they grow by a read, what is in front of them, and how a packet is put.
use Rattle.std.proofs.Common.{◌≡◌, ℕ, ◌+◌, ◌-◌, ◌*◌, ◌<◌, ◌≤◌, List, [], ◌∷◌, ◌++◌, length, take, drop, refl, ap, sym, ◌∙◌, arith, length-append, length-take, length-drop, append_assoc, append-nil, subst, Vec, None, Some, take-add, vec_len}
use Rattle.std.specs.Vec.{with_items}
use Rattle.std.specs.Option.{IfSome}
use Rattle.std.specs.List.{All, concat}
use Rattle.std.proofs.lemmas.List.{with_items_is, drop-drop, nil_from_length}
use Rattle.std.proofs.lemmas.Slice.{take-put_mid_below}
use Rattle.std.proofs.lemmas.List.Elements.{All-push, All-head, All-tail}
use Rattle.std.proofs.lemmas.Grind.{common_steps}
use borrow.Rule.Slice.PartMut.{put_mid}
use Rattle.ts_packet.specs.Packet.{IsPacket}
use Rattle.ts_packet.specs.declared.cell.Cell.{Cell}
use Rattle.ts_packet.specs.Cells.{Live}
use Rattle.ts_packet.specs.Labels.{no_labels}
use Rattle.ts_outside.specs.Source.{SourceView, unread, read_failed}
use Rattle.ts_outside.proofs.Views.{take-filled, unread-unread, unread-nil}
use Rattle.chain_model.specs.declared.input_end.InputEnd.TheVariants.{End, Sync, ReadFault}
use Rattle.stage_run.specs.declared.packet_stream.PacketStream.{PacketStream}
use Rattle.stage_run.specs.Rows.{IsUnfinished, IsInSync, IsOutOfSync}
use Rattle.stage_run.specs.Feeds.{hand_of, HasRoom, ReadsMore, FailsToRead, StreamStands, StreamLooks, StreamPuts, StreamPutsAll, live_cells}

pub length-put_mid : (have k : ℕ) (old got : List ℕ) → have + k ≤ length old → length got ≡ k → length (put_mid have k old got) ≡ length old
length-put_mid have k old got fits long = grind (arith, common_steps)

-- the bytes in hand after a read into the room after them
pub hand-more : {Z : Type 0} (v : Vec ℕ Z) (have k count from : ℕ) (old got : List ℕ)
    → have + k ≤ length old → length got ≡ k → count ≤ k → length old ≡ v.len → from ≡ 0
    → take (have + count) (drop from (with_items v (put_mid have k old got)).items) ≡ take have old ++ take count got
hand-more v have k count from old got fits long few size front =
    ap (λ (n : ℕ). take (have + count) (drop n (with_items v (put_mid have k old got)).items)) front
    ∙ ap (take (have + count)) (with_items_is v (put_mid have k old got) (length-put_mid have k old got fits long ∙ size))
    ∙ take-filled have k count old got (omega arith) (omega arith)

-- and after a read that failed
pub hand-kept : {Z : Type 0} (v : Vec ℕ Z) (have k from : ℕ) (old got : List ℕ)
    → have + k ≤ length old → length got ≡ k → length old ≡ v.len → from ≡ 0
    → take have (drop from (with_items v (put_mid have k old got)).items) ≡ take have old
hand-kept v have k from old got fits long size front =
    ap (λ (n : ℕ). take have (drop n (with_items v (put_mid have k old got)).items)) front
    ∙ ap (take have) (with_items_is v (put_mid have k old got) (length-put_mid have k old got fits long ∙ size))
    ∙ take-put_mid_below have k old got have (omega arith) (omega arith)

-- the packet in front, and the bytes after it
pub hand-split : (from have : ℕ) (bytes : List ℕ) → 188 ≤ have
    → take have (drop from bytes) ≡ take 188 (drop from bytes) ++ take (have - 188) (drop (from + 188) bytes)
hand-split from have bytes whole =
    let parts : have ≡ 188 + (have - 188) = omega arith in
    ap (λ (n : ℕ). take n (drop from bytes)) parts
    ∙ take-add 188 (have - 188) (drop from bytes)
    ∙ ap (λ (l : List ℕ). take 188 (drop from bytes) ++ take (have - 188) l) (drop-drop 188 from bytes)

pub concat-push : (rows : List (List ℕ)) (row : List ℕ) → concat (rows ++ row ∷ []) ≡ concat rows ++ row
concat-push [] row = append-nil row
concat-push (r ∷ rows) row = ap (λ (l : List ℕ). r ++ l) (concat-push rows row) ∙ sym (append_assoc r (concat rows) row)

module _ {S : Type 0} (seen : S → SourceView) where
  -- the packet in front is put
  pub StreamStands-put : (stream : PacketStream S) (first : SourceView) (read : List ℕ) (rows : List (List ℕ)) (row : List ℕ)
      → StreamStands seen stream first read rows None → 188 ≤ stream.have → IsPacket row → row ≡ take 188 (drop stream.from stream.room.bytes.items)
      → StreamStands seen (record { source = stream.source; room = stream.room; from = stream.from + 188; have = stream.have - 188; packets = stream.packets + 1 }) first read (rows ++ row ∷ []) None
  StreamStands-put stream first read rows row stands whole is front = record {
    packets = All-push IsPacket rows row stands.packets is;
    count = length-append rows (row ∷ []) ∙ ap (λ (n : ℕ). n + 1) stands.count;
    room = let room = stands.room in omega arith;
    read_is = stands.read_is
        ∙ ap (λ (l : List ℕ). concat rows ++ l) (hand-split stream.from stream.have stream.room.bytes.items whole)
        ∙ sym (append_assoc (concat rows) (take 188 (drop stream.from stream.room.bytes.items)) (take (stream.have - 188) (drop (stream.from + 188) stream.room.bytes.items)))
        ∙ ap (λ (l : List ℕ). (concat rows ++ l) ++ take (stream.have - 188) (drop (stream.from + 188) stream.room.bytes.items)) (sym front)
        ∙ ap (λ (l : List ℕ). l ++ take (stream.have - 188) (drop (stream.from + 188) stream.room.bytes.items)) (sym (concat-push rows row));
    source = stands.source;
  }

pub live_cells-push : (rows : List (List ℕ)) (row : List ℕ) → live_cells (rows ++ row ∷ []) ≡ live_cells rows ++ Live row no_labels ∷ []
live_cells-push [] row = refl
live_cells-push (r ∷ rows) row = ap (λ (l : List Cell). Live r no_labels ∷ l) (live_cells-push rows row)

module _ {S : Type 0} (seen : S → SourceView) where
  -- no packet was put yet
  pub StreamPutsAll-none : (stream : PacketStream S) (first : SourceView) (read : List ℕ) (rows : List (List ℕ))
      → StreamStands seen stream first read rows None → StreamPutsAll seen stream first read rows []
  StreamPutsAll-none stream first read rows stands = record {
    put = [];
    are_put = refl;
    stands = subst (λ (r : List (List ℕ)). StreamStands seen stream first read r None) (sym (append-nil rows)) stands;
  }

  -- and one more was put after those before
  pub StreamPutsAll-push : (mid new : PacketStream S) (first : SourceView) (read : List ℕ) (rows : List (List ℕ)) (cells : List Cell) (cell : Cell)
      → (puts : StreamPutsAll seen mid first read rows cells) → StreamPuts seen new first read (rows ++ puts.put) cell
      → StreamPutsAll seen new first read rows (cells ++ cell ∷ [])
  StreamPutsAll-push mid new first read rows cells cell puts one = record {
    put = puts.put ++ one.row ∷ [];
    are_put = ap (λ (l : List Cell). l ++ cell ∷ []) puts.are_put
        ∙ ap (λ (c : Cell). live_cells puts.put ++ c ∷ []) one.is_put
        ∙ sym (live_cells-push puts.put one.row);
    stands = subst (λ (r : List (List ℕ)). StreamStands seen new first read r None) (append_assoc rows puts.put (one.row ∷ [])) one.stands;
  }

-- packets have 188 bytes each
pub length-concat : (rows : List (List ℕ)) → All IsPacket rows → length (concat rows) ≡ 188 * length rows
length-concat [] are = refl
length-concat (row ∷ rows) are =
    let rest : length (concat rows) ≡ 188 * length rows = length-concat rows (All-tail IsPacket row rows are) in
    let here : length row ≡ 188 = (All-head IsPacket row rows are).whole in
    omega (arith, length-append row (concat rows))

-- bytes that begin in sync, and are fewer than a packet has
pub IsUnfinished-few : (hand : List ℕ) → IsInSync hand → length hand < 188 → IsUnfinished hand
IsUnfinished-few [] sync few = tt
IsUnfinished-few (first ∷ rest) sync few = (sync, few)

pub unfinished-few : (hand : List ℕ) → IsUnfinished hand → length hand < 188
unfinished-few [] is = omega arith
unfinished-few (first ∷ rest) is = is.1

pub length-hand : {S : Type 0} (stream : PacketStream S) → HasRoom stream → length (hand_of stream) ≡ stream.have
length-hand stream room =
    let size : vec_len stream.room.bytes ≡ length stream.room.bytes.items = stream.room.bytes.ok.0 in
    let within : stream.from + stream.have ≤ vec_len stream.room.bytes = room in
    omega (arith, length-take stream.have (drop stream.from stream.room.bytes.items), length-drop stream.from stream.room.bytes.items)

module _ {S : Type 0} (seen : S → SourceView) where
  -- nothing was read yet
  pub StreamLooks-start : (stream : PacketStream S) (wanted : ℕ) (first : SourceView) (read : List ℕ) (rows : List (List ℕ))
      → StreamStands seen stream first read rows None → StreamLooks seen stream wanted first read rows None
  StreamLooks-start stream wanted first read rows stands = record {
    bytes = [];
    stands = subst (λ (r : List ℕ). StreamStands seen stream first r rows None) (sym (append-nil read)) stands;
    reads = λ most before after. subst (λ (r : List ℕ). length r ≤ 188 * most) (sym (append-nil read)) before;
  }

  -- more was read
  pub StreamLooks-more : (mid new : PacketStream S) (wanted count : ℕ) (first : SourceView) (read : List ℕ) (rows : List (List ℕ))
      → StreamLooks seen mid wanted first read rows None → ReadsMore seen mid new count → HasRoom new → new.packets ≡ mid.packets → new.have ≤ 188 * wanted
      → StreamLooks seen new wanted first read rows None
  StreamLooks-more mid new wanted count first read rows looks more room same few =
      let is : read ++ (looks.bytes ++ more.bytes) ≡ concat rows ++ hand_of new =
      sym (append_assoc read looks.bytes more.bytes)
      ∙ ap (λ (l : List ℕ). l ++ more.bytes) looks.stands.read_is
      ∙ append_assoc (concat rows) (hand_of mid) more.bytes
      ∙ ap (λ (l : List ℕ). concat rows ++ l) (sym more.hand) in
      record {
        bytes = looks.bytes ++ more.bytes;
        stands = record {
          packets = looks.stands.packets;
          count = looks.stands.count ∙ sym same;
          room = room;
          read_is = is;
          source = looks.stands.source
              ∙ ap (λ (view : SourceView). unread (read ++ looks.bytes) view) more.source
              ∙ unread-unread (read ++ looks.bytes) more.bytes (seen new.source)
              ∙ ap (λ (l : List ℕ). unread l (seen new.source)) (append_assoc read looks.bytes more.bytes);
        };
        reads = λ most before after.
            let all : length (concat rows) ≡ 188 * length rows = length-concat rows looks.stands.packets in
            let hand : length (hand_of new) ≡ new.have = length-hand new room in
            omega (arith, ap length is, length-append (concat rows) (hand_of new));
      }

  -- the bytes in hand are no packet
  pub StreamLooks-lost : (stream : PacketStream S) (wanted : ℕ) (first : SourceView) (read : List ℕ) (rows : List (List ℕ))
      → StreamLooks seen stream wanted first read rows None → IsOutOfSync (hand_of stream)
      → StreamLooks seen stream wanted first read rows (Some (Sync stream.packets))
  StreamLooks-lost stream wanted first read rows looks lost = record {
    bytes = looks.bytes;
    stands = record {
      packets = looks.stands.packets;
      count = looks.stands.count;
      room = looks.stands.room;
      read_is = looks.stands.read_is;
      source = (looks.stands.source, lost, sym looks.stands.count);
    };
    reads = looks.reads;
  }

  -- the source is at its end
  pub StreamLooks-end : (mid new : PacketStream S) (wanted : ℕ) (first : SourceView) (read : List ℕ) (rows : List (List ℕ))
      → StreamLooks seen mid wanted first read rows None → ReadsMore seen mid new 0 → HasRoom new → new.packets ≡ mid.packets
      → IsInSync (hand_of mid) → mid.have < 188
      → StreamLooks seen new wanted first read rows (Some (End new.have))
  StreamLooks-end mid new wanted first read rows looks more room same sync few =
      let none : more.bytes ≡ [] = nil_from_length more.bytes more.length_is in
      let hand : hand_of new ≡ hand_of mid = more.hand ∙ ap (λ (l : List ℕ). hand_of mid ++ l) none ∙ append-nil (hand_of mid) in
      let source : seen mid.source ≡ seen new.source =
      more.source ∙ ap (λ (l : List ℕ). unread l (seen new.source)) none ∙ unread-nil (seen new.source) in
      let long : length (hand_of new) ≡ new.have = length-hand new room in
      let have : new.have ≡ mid.have + 0 = more.have in
      record {
        bytes = looks.bytes;
        stands = record {
          packets = looks.stands.packets;
          count = looks.stands.count ∙ sym same;
          room = room;
          read_is = looks.stands.read_is ∙ ap (λ (l : List ℕ). concat rows ++ l) (sym hand);
          source = (
            looks.stands.source ∙ ap (λ (view : SourceView). unread (read ++ looks.bytes) view) source,
            IsUnfinished-few (hand_of new) (subst IsInSync (sym hand) sync) (omega arith),
            long,
            subst (λ (view : SourceView). IfSome view.left (λ left. left ≡ [])) source (more.at_end refl),
          );
        };
        reads = looks.reads;
      }

  -- the read failed
  pub StreamLooks-failed : (mid new : PacketStream S) (wanted : ℕ) (first : SourceView) (read : List ℕ) (rows : List (List ℕ))
      → StreamLooks seen mid wanted first read rows None → FailsToRead seen mid new → HasRoom new → new.packets ≡ mid.packets
      → IsInSync (hand_of mid) → mid.have < 188
      → StreamLooks seen new wanted first read rows (Some ReadFault)
  StreamLooks-failed mid new wanted first read rows looks fails room same sync few =
      let long : length (hand_of new) ≡ new.have = length-hand new room in
      let have : new.have ≡ mid.have = fails.have in
      record {
        bytes = looks.bytes;
        stands = record {
          packets = looks.stands.packets;
          count = looks.stands.count ∙ sym same;
          room = room;
          read_is = looks.stands.read_is ∙ ap (λ (l : List ℕ). concat rows ++ l) (sym fails.hand);
          source = (
            ap read_failed looks.stands.source
                ∙ ap (λ (view : SourceView). unread (read ++ looks.bytes) view) (sym fails.source),
            IsUnfinished-few (hand_of new) (subst IsInSync (sym fails.hand) sync) (omega arith),
          );
        };
        reads = looks.reads;
      }
