-- Packets that were read straight into a window are the next ones of the stream.
use Rattle.std.proofs.Common.{◌≡◌, ℕ, zero, suc, ◌+◌, ◌*◌, ◌≤◌, List, [], ◌∷◌, ◌++◌, length, take, refl, ap, sym, ◌∙◌, arith, length-append, append_assoc, append-nil, subst, inl, inr, None, Some, Option, Result, Ok, Err}
use Rattle.std.specs.Option.{IfSome}
use Rattle.std.specs.Prelude.{IfOk}
use Rattle.std.specs.List.{All, concat}
use Rattle.std.proofs.lemmas.List.{nil_from_length}
use Rattle.std.proofs.lemmas.List.Elements.{All-append}
use Rattle.std.proofs.lemmas.Bool.{cases_eq, cond-true, cond-false, eq-eqb, ne_eqb}
use Rattle.ts_packet.specs.Packet.{IsPacket}
use Rattle.ts_outside.specs.Source.{SourceView, unread, read_failed}
use Rattle.ts_outside.specs.declared.faults.Failed.{Failed}
use Rattle.ts_outside.proofs.Views.{unread-unread, unread-nil}
use Rattle.ts_land.specs.Opening.{joined, AreRows}
use Rattle.in_place.specs.Reads.{ReadsInto}
use Rattle.chain_model.specs.declared.input_end.InputEnd.TheVariants.{End, ReadFault}
use Rattle.stage_run.specs.declared.packet_stream.PacketStream.{PacketStream}
use Rattle.stage_run.specs.Rows.{IsUnfinished}
use Rattle.stage_run.specs.Feeds.{hand_of, HasRoom, FailsToRead, StreamStands, StreamReads, Fills, ReadsPackets, end_of_read, end_of_count}
use Rattle.stage_run.proofs.StreamLemmas.{length-hand, length-concat, unfinished-few}

pub rows_taken : (k : ℕ) (xs : List (List ℕ)) → AreRows xs → AreRows (take k xs)
rows_taken zero xs are = tt
rows_taken (suc k) [] are = tt
rows_taken (suc k) (x ∷ xs) are = (are.0, rows_taken k xs are.1)

pub all_packets : (xs : List (List ℕ)) → AreRows xs → All IsPacket xs
all_packets [] are k d lt = absurd (omega (arith, lt))
all_packets (x ∷ xs) are zero d lt = are.0
all_packets (x ∷ xs) are (suc k) d lt = all_packets xs are.1 k d (omega (arith, lt))

concat-append : (xs ys : List (List ℕ)) → concat (xs ++ ys) ≡ concat xs ++ concat ys
concat-append [] ys = refl
concat-append (x ∷ xs) ys = ap (λ (l : List ℕ). x ++ l) (concat-append xs ys) ∙ sym (append_assoc x (concat xs) (concat ys))

joined_is : (xs : List (List ℕ)) → joined xs ≡ concat xs
joined_is [] = refl
joined_is (x ∷ xs) = ap (λ (l : List ℕ). x ++ l) (joined_is xs)

none_put : (put : List (List ℕ)) → AreRows put → concat put ≡ [] → put ≡ []
none_put [] are e = refl
none_put (x ∷ xs) are e =
    let l = are.0.whole in let n = length-append x (concat xs) in let m = ap length e in absurd (omega (arith, l, n, m))

pub as_reads : (a a' b : SourceView) (h h' p t t' : List ℕ) (r : Result ℕ Failed) → a' ≡ a → h' ≡ h → t' ≡ t → ReadsInto a b h p t r → ReadsInto a' b h' p t' r
as_reads a a' b h h' p t t' r ea eh et reads =
    subst (λ (x : SourceView). ReadsInto x b h' p t' r) (sym ea) (subst (λ (x : List ℕ). ReadsInto a b x p t' r) (sym eh) (subst (λ (x : List ℕ). ReadsInto a b h p x r) (sym et) reads))

-- no more was asked than the window has room for
pub as_asked : (have have' rows : ℕ) (r : Result ℕ Failed) → have ≡ have' → IfOk r (λ n. have + n ≤ rows * 188) → IfOk r (λ n. have' + n ≤ rows * 188)
as_asked have have' rows (Ok n) e asked = omega (arith, e, asked)
as_asked have have' rows (Err fault) e asked = asked

module _ {S : Type 0} (seen : S → SourceView) (old new : PacketStream S) (wanted : ℕ) (put : List (List ℕ)) (room_old : HasRoom old) (room : HasRoom new) where
  pub fills : (r : Result ℕ Failed) → IfOk r (λ n. old.have + n ≤ wanted * 188) → AreRows put
      → ReadsInto (seen old.source) (seen new.source) (hand_of old) (joined put) (hand_of new) r → Fills seen old new wanted put r
  fills (Ok n) asked are reads = record {
    bytes = reads.bytes;
    length_is = reads.moves.length_is;
    all = reads.all ∙ ap (λ (l : List ℕ). l ++ hand_of new) (joined_is put);
    source = reads.moves.source;
    at_end = reads.moves.at_end;
    few = let a = length-append (hand_of old) reads.bytes in let b = length-hand old room_old in let d = reads.moves.length_is in omega (arith, a, b, d, asked);
  }
  fills (Err fault) asked are reads = (
    none_put put are (sym (joined_is put) ∙ reads.1),
    record { hand = reads.2; have = sym (length-hand new room) ∙ ap length reads.2 ∙ length-hand old room_old; source = reads.0 },
  )

module _ {S : Type 0} (seen : S → SourceView) where
  -- nothing was read
  pub stream-none : (stream : PacketStream S) (wanted : ℕ) (first : SourceView) (read : List ℕ) (rows : List (List ℕ))
      → StreamStands seen stream first read rows None → StreamReads seen stream wanted first read rows [] None
  stream-none stream wanted first read rows stands = record {
    bytes = [];
    stands = subst (λ (r : List ℕ). StreamStands seen stream first r (rows ++ []) None) (sym (append-nil read))
        (subst (λ (l : List (List ℕ)). StreamStands seen stream first read l None) (sym (append-nil rows)) stands);
    reads = λ most before after. subst (λ (r : List ℕ). length r ≤ 188 * most) (sym (append-nil read)) before;
  }

  module _ (old new : PacketStream S) (wanted : ℕ) (put : List (List ℕ)) (are : AreRows put)
      (count : new.packets ≡ old.packets + length put) (room : HasRoom new) (room_old : HasRoom old) (unfinished : IsUnfinished (hand_of old))
      (first : SourceView) (read : List ℕ) (rows : List (List ℕ)) (stands : StreamStands seen old first read rows None) where
    -- so many bytes were read
    module _ (n : ℕ) (reads : ReadsPackets seen old new wanted put n) where
      read_is : read ++ reads.bytes ≡ concat (rows ++ put) ++ hand_of new
      read_is =
          ap (λ (l : List ℕ). l ++ reads.bytes) stands.read_is ∙ append_assoc (concat rows) (hand_of old) reads.bytes
          ∙ ap (λ (l : List ℕ). concat rows ++ l) reads.all
          ∙ sym (append_assoc (concat rows) (concat put) (hand_of new)) ∙ ap (λ (l : List ℕ). l ++ hand_of new) (sym (concat-append rows put))

      source_is : first ≡ unread (read ++ reads.bytes) (seen new.source)
      source_is = stands.source ∙ ap (λ (view : SourceView). unread read view) reads.source ∙ unread-unread read reads.bytes (seen new.source)

      bound : (most : ℕ) → length read ≤ 188 * most → length rows + wanted ≤ most → length (read ++ reads.bytes) ≤ 188 * most
      bound most within fits =
          let a = length-append read reads.bytes in let b = ap (λ (l : List ℕ). length l) stands.read_is in let d = length-append (concat rows) (hand_of old) in
          let e = length-concat rows stands.packets in let f = length-append (hand_of old) reads.bytes in let h = reads.few in omega (arith, a, b, d, e, f, h, fits)

      goes_on : StreamReads seen new wanted first read rows put None
      goes_on = record {
        bytes = reads.bytes;
        stands = record {
          packets = All-append IsPacket rows put stands.packets (all_packets put are);
          count = length-append rows put ∙ ap (λ (k : ℕ). k + length put) stands.count ∙ sym count;
          room = room;
          read_is = read_is;
          source = source_is;
        };
        reads = bound;
      }

      -- nothing came, so nothing was put
      module _ (zero_is : n ≡ 0) where
        no_bytes : reads.bytes ≡ []
        no_bytes = nil_from_length reads.bytes (reads.length_is ∙ zero_is)

        all_is : hand_of old ≡ concat put ++ hand_of new
        all_is = sym (append-nil (hand_of old)) ∙ ap (λ (l : List ℕ). hand_of old ++ l) (sym no_bytes) ∙ reads.all

        no_put : put ≡ []
        no_put = none_put put are (nil_from_length (concat put)
            (let a = ap (λ (l : List ℕ). length l) all_is in let b = length-append (concat put) (hand_of new) in let d = length-concat put (all_packets put are) in
            let e = unfinished-few (hand_of old) unfinished in omega (arith, a, b, d, e)))

        hand_is : hand_of new ≡ hand_of old
        hand_is = sym (all_is ∙ ap (λ (l : List (List ℕ)). concat l ++ hand_of new) no_put)

        view_is : seen old.source ≡ seen new.source
        view_is = reads.source ∙ ap (λ (l : List ℕ). unread l (seen new.source)) no_bytes ∙ unread-nil (seen new.source)

        ends : StreamReads seen new wanted first read rows put (Some (End old.have))
        ends = record {
          bytes = reads.bytes;
          stands = record {
            packets = All-append IsPacket rows put stands.packets (all_packets put are);
            count = length-append rows put ∙ ap (λ (k : ℕ). k + length put) stands.count ∙ sym count;
            room = room;
            read_is = read_is;
            source = (
              source_is,
              subst IsUnfinished (sym hand_is) unfinished,
              ap (λ (l : List ℕ). length l) hand_is ∙ length-hand old room_old,
              subst (λ (view : SourceView). IfSome view.left (λ left. left ≡ [])) view_is (reads.at_end zero_is),
            );
          };
          reads = bound;
        }

      by_count : StreamReads seen new wanted first read rows put (end_of_count n old.have)
      by_count =
          elim (cases_eq n 0) [
            | inl z ↦ subst (λ (e : Option _). StreamReads seen new wanted first read rows put e) (sym (cond-true _ _ _ (eq-eqb n 0 z))) (ends z)
            | inr some ↦ subst (λ (e : Option _). StreamReads seen new wanted first read rows put e) (sym (cond-false _ _ _ (ne_eqb n 0 some))) goes_on
          ]

    -- the read failed
    failed : put ≡ [] → FailsToRead seen old new → StreamReads seen new wanted first read rows put (Some ReadFault)
    failed none fails =
        let same : rows ++ put ≡ rows = ap (λ (l : List (List ℕ)). rows ++ l) none ∙ append-nil rows in
        let read_same : read ++ [] ≡ read = append-nil read in
        record {
          bytes = [];
          stands = record {
            packets = subst (All IsPacket) (sym same) stands.packets;
            count = length-append rows put ∙ ap (λ (k : ℕ). k + length put) stands.count ∙ sym count;
            room = room;
            read_is = read_same ∙ stands.read_is ∙ (λ i. concat (sym same i) ++ sym fails.hand i);
            source = (
              ap read_failed stands.source ∙ ap (λ (view : SourceView). unread read view) (sym fails.source) ∙ ap (λ (l : List ℕ). unread l (seen new.source)) (sym read_same),
              subst IsUnfinished (sym fails.hand) unfinished,
            );
          };
          reads = λ most within fits. subst (λ (r : List ℕ). length r ≤ 188 * most) (sym read_same) within;
        }

    pub stream-reads : (r : Result ℕ Failed) → Fills seen old new wanted put r → StreamReads seen new wanted first read rows put (end_of_read r old.have)
    stream-reads (Ok n) did = by_count n did
    stream-reads (Err fault) did = failed did.0 did.1
