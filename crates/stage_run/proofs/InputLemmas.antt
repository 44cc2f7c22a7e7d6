-- An input step by step: what was given, with the null packets that are due, stays the stuffed list of its packets.
use Rattle.std.proofs.Common.{◌≡◌, ℕ, ◌+◌, ◌*◌, ◌%◌, ◌==◌, ◌≤◌, Bool, true, false, if◌then◌else◌, List, [], ◌∷◌, ◌++◌, length, refl, ap, sym, ◌∙◌, arith, length-append, append_assoc, append-nil, add-one, subst, Option, None, Some, is_some}
use Rattle.std.specs.Option.{IfSome}
use Rattle.std.proofs.lemmas.List.{append_cancel_left, length-replicate}
use Rattle.ts_packet.specs.Packet.{null_packet}
use Rattle.ts_packet.specs.declared.cell.Cell.{Cell}
use Rattle.ts_packet.specs.Cells.{Live}
use Rattle.ts_packet.specs.Labels.{no_labels}
use Rattle.ts_outside.specs.Told.{before}
use Rattle.ts_outside.specs.Source.{SourceView}
use Rattle.chain_model.specs.declared.input_end.InputEnd.{InputEnd}
use Rattle.chain_model.specs.declared.input_end.InputEnd.TheVariants.{End, Sync, ReadFault, TooLong}
use Rattle.chain_model.specs.Apply.{StageList}
use Rattle.chain_model.specs.InputList.{input_of_bytes, input_of_nulls}
use Rattle.chain_model.specs.Stuffed.{null_cells, nulls_after, stuffed_after, stuffed}
use Rattle.chain_model.specs.Stuffed as model
use Rattle.stage_run.specs.declared.packet_feed.PacketFeed.{PacketFeed}
use Rattle.stage_run.specs.declared.packet_feed.PacketFeed.TheVariants.{Stream, Nulls, Generated}
use Rattle.stage_run.specs.declared.input_stage.InputStage.{InputStage}
use Rattle.stage_run.specs.PartLists.{PartLists}
use Rattle.stage_run.specs.GeneratedInput.{input_of_generated}
use Rattle.stage_run.proofs.GeneratedLemmas.{length-generated}
use Rattle.stage_run.specs.Feeds.{FeedStands, FeedLooks, FeedPuts, FeedPutsAll, FeedReads, SameFeed, StandsAtSource, packets_put, hand_of, live_cells}
use Rattle.stage_run.specs.InputStands.{InputHolds, FeedGives, MayGive, stuffing_of, stuffed_so_far}
use Rattle.stage_run.specs.InputSteps.{InputGoes, IsOver, IsFilled, cell_put, with_more, stop_count, null_count}

-- one packet more, with the null packets after it
pub stuffed_after-push : (stuffing : model.Stuffing) (n : ℕ) (rows : List (List ℕ)) (row : List ℕ)
    → stuffed_after stuffing n (rows ++ row ∷ []) ≡ stuffed_after stuffing n rows ++ (Live row no_labels ∷ nulls_after stuffing (n + length rows + 1))
stuffed_after-push stuffing n [] row =
    ap (λ (l : List Cell). Live row no_labels ∷ l) (append-nil (nulls_after stuffing (n + 1)))
    ∙ ap (λ (k : ℕ). Live row no_labels ∷ nulls_after stuffing k) (omega arith)
stuffed_after-push stuffing n (r ∷ rows) row =
    let at : n + 1 + length rows + 1 ≡ n + length (r ∷ rows) + 1 = omega arith in
    ap (λ (l : List Cell). Live r no_labels ∷ (nulls_after stuffing (n + 1) ++ l)) (stuffed_after-push stuffing (n + 1) rows row)
    ∙ ap (λ (l : List Cell). Live r no_labels ∷ l) (sym (append_assoc (nulls_after stuffing (n + 1)) (stuffed_after stuffing (n + 1) rows) (Live row no_labels ∷ nulls_after stuffing (n + 1 + length rows + 1))))
    ∙ ap (λ (k : ℕ). (Live r no_labels ∷ (nulls_after stuffing (n + 1) ++ stuffed_after stuffing (n + 1) rows)) ++ (Live row no_labels ∷ nulls_after stuffing k)) at

null_cells-if : (b : Bool) (n : ℕ) → null_cells (if b then n else 0) ≡ (if b then null_cells n else [])
null_cells-if true n = refl
null_cells-if false n = refl

-- no null packets stand between packets where none are asked for
no_cells-if : (b : Bool) (n : ℕ) → n ≡ 0 → (if b then null_cells n else []) ≡ []
no_cells-if true n none = ap null_cells none
no_cells-if false n none = refl

stuffed_after-plain : (stuffing : model.Stuffing) (n : ℕ) (rows : List (List ℕ)) → stuffing.null ≡ 0 → stuffed_after stuffing n rows ≡ live_cells rows
stuffed_after-plain stuffing n [] none = refl
stuffed_after-plain stuffing n (row ∷ rows) none =
    ap (λ (l : List Cell). Live row no_labels ∷ (l ++ stuffed_after stuffing (n + 1) rows)) (no_cells-if ((n + 1) % stuffing.every == 0) stuffing.null none)
    ∙ ap (λ (l : List Cell). Live row no_labels ∷ l) (stuffed_after-plain stuffing (n + 1) rows none)

stuffed_after-append : (stuffing : model.Stuffing) (n : ℕ) (rows more : List (List ℕ)) → stuffing.null ≡ 0
    → stuffed_after stuffing n (rows ++ more) ≡ stuffed_after stuffing n rows ++ live_cells more
stuffed_after-append stuffing n [] more none = stuffed_after-plain stuffing n more none
stuffed_after-append stuffing n (row ∷ rows) more none =
    ap (λ (l : List Cell). Live row no_labels ∷ (nulls_after stuffing (n + 1) ++ l)) (stuffed_after-append stuffing (n + 1) rows more none)
    ∙ ap (λ (l : List Cell). Live row no_labels ∷ l) (sym (append_assoc (nulls_after stuffing (n + 1)) (stuffed_after stuffing (n + 1) rows) (live_cells more)))

length-live_cells : (rows : List (List ℕ)) → length (live_cells rows) ≡ length rows
length-live_cells [] = refl
length-live_cells (row ∷ rows) = omega (arith, length-live_cells rows)

-- the null packets that are due after a packet
pub null_cells-due : (stuffing : model.Stuffing) (packet : ℕ) → null_cells (null_count stuffing packet) ≡ nulls_after stuffing packet
null_cells-due stuffing packet = null_cells-if (packet % stuffing.every == 0) stuffing.null

-- and those after the end
pub stuffed-stop : (stuffing : model.Stuffing) (rows : List (List ℕ)) (ended : Option InputEnd)
    → stuffed_so_far stuffing rows None ++ null_cells (stop_count ended stuffing.stop) ≡ stuffed_so_far stuffing rows ended
stuffed-stop stuffing rows None = append-nil (null_cells stuffing.start ++ stuffed_after stuffing 0 rows)
stuffed-stop stuffing rows (Some (End left)) = append_assoc (null_cells stuffing.start) (stuffed_after stuffing 0 rows) (null_cells stuffing.stop)
stuffed-stop stuffing rows (Some (Sync packet)) = append_assoc (null_cells stuffing.start) (stuffed_after stuffing 0 rows) []
stuffed-stop stuffing rows (Some ReadFault) = append_assoc (null_cells stuffing.start) (stuffed_after stuffing 0 rows) []
stuffed-stop stuffing rows (Some TooLong) = append_assoc (null_cells stuffing.start) (stuffed_after stuffing 0 rows) []

-- what was left of a source before is what was read since and what is left now
pub left-grows : (old new : Option (List ℕ)) (read bytes more : List ℕ) → before read old ≡ before (read ++ bytes) new
    → IfSome new (λ left. left ≡ more) → IfSome old (λ left. left ≡ bytes ++ more)
left-grows None new read bytes more same is = tt
left-grows (Some l) None read bytes more same is = cc
left-grows (Some l) (Some m) read bytes more same is =
    let all : read ++ l ≡ (read ++ bytes) ++ m = cc in
    append_cancel_left read l (bytes ++ m) (all ∙ append_assoc read bytes m) ∙ ap (λ (x : List ℕ). bytes ++ x) is

-- what was left at first, whatever is known of the end
pub StandsAtSource-left : (first now : SourceView) (read hand : List ℕ) (count : ℕ) (ended : Option InputEnd)
    → StandsAtSource first now read hand count ended → first.left ≡ before read now.left
StandsAtSource-left first now read hand count None stands = ap (λ (view : SourceView). view.left) stands
StandsAtSource-left first now read hand count (Some (End left)) stands = ap (λ (view : SourceView). view.left) stands.0
StandsAtSource-left first now read hand count (Some (Sync packet)) stands = ap (λ (view : SourceView). view.left) stands.0
StandsAtSource-left first now read hand count (Some ReadFault) stands = ap (λ (view : SourceView). view.left) stands.0
StandsAtSource-left first now read hand count (Some TooLong) stands = absurd stands

pub SameFeed-same : {S : Type 0} (feed : PacketFeed S) → SameFeed feed feed
SameFeed-same (Stream stream) = tt
SameFeed-same (Nulls nulls) = refl
SameFeed-same (Generated generated) = (refl, refl)

pub SameFeed-trans : {S : Type 0} (a b c : PacketFeed S) → SameFeed a b → SameFeed b c → SameFeed a c
SameFeed-trans (Stream a) (Stream b) (Stream c) one two = tt
SameFeed-trans (Stream a) (Stream b) (Nulls c) one two = absurd two
SameFeed-trans (Stream a) (Stream b) (Generated c) one two = absurd two
SameFeed-trans (Stream a) (Nulls b) c one two = absurd one
SameFeed-trans (Stream a) (Generated b) c one two = absurd one
SameFeed-trans (Nulls a) (Stream b) c one two = absurd one
SameFeed-trans (Nulls a) (Generated b) c one two = absurd one
SameFeed-trans (Nulls a) (Nulls b) (Stream c) one two = absurd two
SameFeed-trans (Nulls a) (Nulls b) (Generated c) one two = absurd two
SameFeed-trans (Nulls a) (Nulls b) (Nulls c) one two = two ∙ one
SameFeed-trans (Generated a) (Stream b) c one two = absurd one
SameFeed-trans (Generated a) (Nulls b) c one two = absurd one
SameFeed-trans (Generated a) (Generated b) (Stream c) one two = absurd two
SameFeed-trans (Generated a) (Generated b) (Nulls c) one two = absurd two
SameFeed-trans (Generated a) (Generated b) (Generated c) one two = (two.0 ∙ one.0, two.1 ∙ one.1)

module _ {S : Type 0} (seen : S → SourceView) where
  -- the packets that were put are those that are counted
  pub FeedStands-count : (feed : PacketFeed S) (first : SourceView) (read : List ℕ) (rows : List (List ℕ)) (ended : Option InputEnd)
      → FeedStands seen feed first read rows ended → length rows ≡ packets_put feed
  FeedStands-count (Stream stream) first read rows ended stands = stands.count
  FeedStands-count (Nulls feed) first read rows ended stands = ap length stands.1 ∙ length-replicate feed.packets null_packet
  FeedStands-count (Generated feed) first read rows ended stands = ap length stands.1 ∙ length-generated feed.generator.seed 0 feed.packets

  -- what may be the list now might have been it before more was read
  pub FeedGives-before : (old new : PacketFeed S) (stuffing : model.Stuffing) (first : SourceView) (read bytes : List ℕ) (rows rows' : List (List ℕ)) (ended : Option InputEnd)
      → SameFeed old new → FeedStands seen old first read rows None → FeedStands seen new first (read ++ bytes) rows' ended
      → (input : StageList) → FeedGives seen new stuffing (read ++ bytes) ended input → FeedGives seen old stuffing read None input
  FeedGives-before (Stream old) (Stream new) stuffing first read bytes rows rows' ended same was is input gives = (
    bytes ++ gives.0,
    gives.1 ∙ ap (λ (l : List ℕ). stuffed stuffing (input_of_bytes l)) (append_assoc read bytes gives.0),
    left-grows (seen old.source).left (seen new.source).left read bytes gives.0
        (sym (StandsAtSource-left first (seen old.source) read (hand_of old) (length rows) None was.source)
        ∙ StandsAtSource-left first (seen new.source) (read ++ bytes) (hand_of new) (length rows') ended is.source)
        gives.2,
    tt,
  )
  FeedGives-before (Stream old) (Nulls new) stuffing first read bytes rows rows' ended same was is input gives = absurd same
  FeedGives-before (Stream old) (Generated new) stuffing first read bytes rows rows' ended same was is input gives = absurd same
  FeedGives-before (Nulls old) (Stream new) stuffing first read bytes rows rows' ended same was is input gives = absurd same
  FeedGives-before (Nulls old) (Generated new) stuffing first read bytes rows rows' ended same was is input gives = absurd same
  FeedGives-before (Generated old) (Stream new) stuffing first read bytes rows rows' ended same was is input gives = absurd same
  FeedGives-before (Generated old) (Nulls new) stuffing first read bytes rows rows' ended same was is input gives = absurd same
  FeedGives-before (Generated old) (Generated new) stuffing first read bytes rows rows' ended same was is input gives =
      gives
      ∙ ap (λ (n : ℕ). stuffed stuffing (input_of_generated new.generator.seed n)) same.0
      ∙ ap (λ (n : ℕ). stuffed stuffing (input_of_generated n old.all)) same.1
  FeedGives-before (Nulls old) (Nulls new) stuffing first read bytes rows rows' ended same was is input gives =
      gives ∙ ap (λ (n : ℕ). stuffed stuffing (input_of_nulls n)) same

  -- an input of which it is now known what comes next
  pub InputGoes-look : (old : InputStage S) (feed : PacketFeed S) (nulls : ℕ) (ended : Option InputEnd) (lists : PartLists) (wanted : ℕ)
      → old.nulls ≡ 0 → old.ended ≡ None → nulls ≡ stop_count ended old.stuffing.stop → InputHolds seen old lists
      → ((first : SourceView) (read : List ℕ) (rows : List (List ℕ)) → FeedStands seen old.feed first read rows None → FeedLooks seen old.feed feed wanted first read rows ended)
      → InputGoes seen old (record { feed = feed; stuffing = old.stuffing; nulls = nulls; ended = ended }) lists wanted []
  InputGoes-look old feed nulls ended lists wanted no_nulls unknown due holds looks =
      let was : FeedStands seen old.feed lists.source lists.read holds.rows None =
      subst (λ (e : Option InputEnd). FeedStands seen old.feed lists.source lists.read holds.rows e) unknown holds.feed in
      let found = looks lists.source lists.read holds.rows was in
      let stuffing : model.Stuffing = stuffing_of old.stuffing in
      let given_is : lists.given ++ [] ≡ stuffed_so_far stuffing holds.rows None =
      ap (λ (n : ℕ). lists.given ++ null_cells n) (sym no_nulls)
      ∙ holds.cells
      ∙ ap (λ (e : Option InputEnd). stuffed_so_far stuffing holds.rows e) unknown in
      record {
        same = found.same;
        bytes = found.bytes;
        holds = record {
          rows = holds.rows;
          feed = found.stands;
          cells = ap (λ (l : List Cell). l ++ null_cells nulls) given_is
              ∙ ap (λ (n : ℕ). stuffed_so_far stuffing holds.rows None ++ null_cells n) due
              ∙ stuffed-stop stuffing holds.rows ended;
          put = subst (λ (l : List Cell). length holds.rows ≤ length l) (sym (append-nil lists.given)) holds.put;
          every = holds.every;
        };
        gives = λ input gives.
            subst (λ (e : Option InputEnd). FeedGives seen old.feed stuffing lists.read e input) (sym unknown)
            (FeedGives-before old.feed feed stuffing lists.source lists.read found.bytes holds.rows holds.rows ended found.same was found.stands input gives);
        reads = λ most within fits. let put = holds.put in found.reads most within (omega arith);
      }

  -- one null packet of those that are due
  pub InputGoes-null : (old : InputStage S) (nulls : ℕ) (lists : PartLists) (wanted : ℕ) → old.nulls ≡ nulls + 1 → InputHolds seen old lists
      → InputGoes seen old (record { feed = old.feed; stuffing = old.stuffing; nulls = nulls; ended = old.ended }) lists wanted (Live null_packet no_labels ∷ [])
  InputGoes-null old nulls lists wanted some holds =
      let read_same : lists.read ++ [] ≡ lists.read = append-nil lists.read in
      record {
        same = SameFeed-same old.feed;
        bytes = [];
        holds = record {
          rows = holds.rows;
          feed = subst (λ (r : List ℕ). FeedStands seen old.feed lists.source r holds.rows old.ended) (sym read_same) holds.feed;
          cells = append_assoc lists.given (Live null_packet no_labels ∷ []) (null_cells nulls)
              ∙ ap (λ (n : ℕ). lists.given ++ null_cells n) (sym (some ∙ add-one nulls))
              ∙ holds.cells;
          put = let put = holds.put in omega (arith, length-append lists.given (Live null_packet no_labels ∷ []));
          every = holds.every;
        };
        gives = λ input gives. subst (λ (r : List ℕ). FeedGives seen old.feed (stuffing_of old.stuffing) r old.ended input) read_same gives;
        reads = λ most within fits. subst (λ (r : List ℕ). length r ≤ 188 * most) (sym read_same) within;
      }

  -- packets that were put, with the null packets that are due after them
  InputGoes-behind : (old : InputStage S) (feed : PacketFeed S) (nulls : ℕ) (lists : PartLists) (wanted : ℕ) (cells : List Cell) (put : List (List ℕ))
      → old.nulls ≡ 0 → old.ended ≡ None → (holds : InputHolds seen old lists) → SameFeed old.feed feed
      → FeedStands seen feed lists.source lists.read (holds.rows ++ put) None
      → stuffed_after (stuffing_of old.stuffing) 0 (holds.rows ++ put) ≡ stuffed_after (stuffing_of old.stuffing) 0 holds.rows ++ (cells ++ null_cells nulls)
      → length put ≡ length cells
      → InputGoes seen old (record { feed = feed; stuffing = old.stuffing; nulls = nulls; ended = old.ended }) lists wanted cells
  InputGoes-behind old feed nulls lists wanted cells put no_nulls unknown holds same found more_is long =
      let was : FeedStands seen old.feed lists.source lists.read holds.rows None =
      subst (λ (e : Option InputEnd). FeedStands seen old.feed lists.source lists.read holds.rows e) unknown holds.feed in
      let stuffing : model.Stuffing = stuffing_of old.stuffing in
      let read_same : lists.read ++ [] ≡ lists.read = append-nil lists.read in
      let rows : List (List ℕ) = holds.rows ++ put in
      let stands : FeedStands seen feed lists.source (lists.read ++ []) rows None =
      subst (λ (r : List ℕ). FeedStands seen feed lists.source r rows None) (sym read_same) found in
      let given_is : lists.given ≡ stuffed_so_far stuffing holds.rows None =
      sym (append-nil lists.given)
      ∙ ap (λ (n : ℕ). lists.given ++ null_cells n) (sym no_nulls)
      ∙ holds.cells
      ∙ ap (λ (e : Option InputEnd). stuffed_so_far stuffing holds.rows e) unknown in
      let more : List Cell = cells ++ null_cells nulls in
      record {
        same = same;
        bytes = [];
        holds = record {
          rows = rows;
          feed = subst (λ (e : Option InputEnd). FeedStands seen feed lists.source (lists.read ++ []) rows e) (sym unknown) stands;
          cells = append_assoc lists.given cells (null_cells nulls)
              ∙ ap (λ (l : List Cell). l ++ more) given_is
              ∙ append_assoc (null_cells stuffing.start) (stuffed_after stuffing 0 holds.rows) more
              ∙ ap (λ (l : List Cell). null_cells stuffing.start ++ l) (sym more_is)
              ∙ ap (λ (e : Option InputEnd). stuffed_so_far stuffing rows e) (sym unknown);
          put = let put_before = holds.put in omega (arith, length-append lists.given cells, length-append holds.rows put);
          every = holds.every;
        };
        gives = λ input gives.
            subst (λ (e : Option InputEnd). FeedGives seen old.feed stuffing lists.read e input) (sym unknown)
            (FeedGives-before old.feed feed stuffing lists.source lists.read [] holds.rows rows None same was stands input
            (subst (λ (e : Option InputEnd). FeedGives seen feed stuffing (lists.read ++ []) e input) unknown gives));
        reads = λ most within fits. subst (λ (r : List ℕ). length r ≤ 188 * most) (sym read_same) within;
      }

  -- one packet, with which the null packets after it are due
  pub InputGoes-put : (old : InputStage S) (feed : PacketFeed S) (nulls : ℕ) (lists : PartLists) (wanted : ℕ) (cell : Cell)
      → old.nulls ≡ 0 → old.ended ≡ None → nulls ≡ null_count (stuffing_of old.stuffing) (packets_put feed) → InputHolds seen old lists
      → ((first : SourceView) (read : List ℕ) (rows : List (List ℕ)) → FeedStands seen old.feed first read rows None → FeedPuts seen old.feed feed first read rows cell)
      → InputGoes seen old (record { feed = feed; stuffing = old.stuffing; nulls = nulls; ended = old.ended }) lists wanted (cell ∷ [])
  InputGoes-put old feed nulls lists wanted cell no_nulls unknown due holds puts =
      let was : FeedStands seen old.feed lists.source lists.read holds.rows None =
      subst (λ (e : Option InputEnd). FeedStands seen old.feed lists.source lists.read holds.rows e) unknown holds.feed in
      let found = puts lists.source lists.read holds.rows was in
      let stuffing : model.Stuffing = stuffing_of old.stuffing in
      let before : List Cell = stuffed_after stuffing 0 holds.rows in
      let number : packets_put feed ≡ 0 + length holds.rows + 1 =
      sym (FeedStands-count feed lists.source lists.read (holds.rows ++ found.row ∷ []) None found.stands) ∙ length-append holds.rows (found.row ∷ []) ∙ omega arith in
      let behind : null_cells nulls ≡ nulls_after stuffing (0 + length holds.rows + 1) =
      ap null_cells due ∙ null_cells-due stuffing (packets_put feed) ∙ ap (λ (n : ℕ). nulls_after stuffing n) number in
      let more_is : stuffed_after stuffing 0 (holds.rows ++ found.row ∷ []) ≡ before ++ (cell ∷ null_cells nulls) =
      stuffed_after-push stuffing 0 holds.rows found.row
      ∙ ap (λ (l : List Cell). before ++ (Live found.row no_labels ∷ l)) (sym behind)
      ∙ ap (λ (c : Cell). before ++ (c ∷ null_cells nulls)) (sym found.is_put) in
      InputGoes-behind old feed nulls lists wanted (cell ∷ []) (found.row ∷ []) no_nulls unknown holds found.same found.stands more_is refl

  -- packets between which no null packets stand
  pub InputGoes-put_all : (old : InputStage S) (feed : PacketFeed S) (lists : PartLists) (wanted : ℕ) (cells : List Cell)
      → old.stuffing.null ≡ 0 → old.nulls ≡ 0 → old.ended ≡ None → InputHolds seen old lists
      → ((first : SourceView) (read : List ℕ) (rows : List (List ℕ)) → FeedStands seen old.feed first read rows None → FeedPutsAll seen old.feed feed first read rows cells)
      → InputGoes seen old (record { feed = feed; stuffing = old.stuffing; nulls = old.nulls; ended = old.ended }) lists wanted cells
  InputGoes-put_all old feed lists wanted cells no_null no_nulls unknown holds puts =
      let was : FeedStands seen old.feed lists.source lists.read holds.rows None =
      subst (λ (e : Option InputEnd). FeedStands seen old.feed lists.source lists.read holds.rows e) unknown holds.feed in
      let found = puts lists.source lists.read holds.rows was in
      let stuffing : model.Stuffing = stuffing_of old.stuffing in
      let before : List Cell = stuffed_after stuffing 0 holds.rows in
      let none : cells ++ null_cells old.nulls ≡ cells = ap (λ (n : ℕ). cells ++ null_cells n) no_nulls ∙ append-nil cells in
      let more_is : stuffed_after stuffing 0 (holds.rows ++ found.put) ≡ before ++ (cells ++ null_cells old.nulls) =
      stuffed_after-append stuffing 0 holds.rows found.put no_null
      ∙ ap (λ (l : List Cell). before ++ l) (sym found.are_put)
      ∙ ap (λ (l : List Cell). before ++ l) (sym none) in
      InputGoes-behind old feed old.nulls lists wanted cells found.put no_nulls unknown holds found.same found.stands more_is
      (sym (length-live_cells found.put) ∙ ap length (sym found.are_put))

  -- an input of which nothing was read
  pub FeedReads-none : (feed : PacketFeed S) (wanted : ℕ) (first : SourceView) (read : List ℕ) (rows : List (List ℕ))
      → FeedStands seen feed first read rows None → FeedReads seen feed feed wanted first read rows [] None
  FeedReads-none feed wanted first read rows stands = record {
    same = SameFeed-same feed;
    bytes = [];
    stands = subst (λ (r : List ℕ). FeedStands seen feed first r (rows ++ []) None) (sym (append-nil read))
        (subst (λ (l : List (List ℕ)). FeedStands seen feed first read l None) (sym (append-nil rows)) stands);
    reads = λ most within fits. subst (λ (r : List ℕ). length r ≤ 188 * most) (sym (append-nil read)) within;
  }

  -- packets that were read straight into a window, between which no null packets stand
  pub InputGoes-read : (old : InputStage S) (feed : PacketFeed S) (nulls : ℕ) (ended : Option InputEnd) (lists : PartLists) (wanted : ℕ) (put : List (List ℕ))
      → old.stuffing.null ≡ 0 → old.nulls ≡ 0 → old.ended ≡ None → nulls ≡ stop_count ended old.stuffing.stop → InputHolds seen old lists
      → ((first : SourceView) (read : List ℕ) (rows : List (List ℕ)) → FeedStands seen old.feed first read rows None → FeedReads seen old.feed feed wanted first read rows put ended)
      → InputGoes seen old (record { feed = feed; stuffing = old.stuffing; nulls = nulls; ended = ended }) lists wanted (live_cells put)
  InputGoes-read old feed nulls ended lists wanted put no_null no_nulls unknown due holds reads =
      let was : FeedStands seen old.feed lists.source lists.read holds.rows None =
      subst (λ (e : Option InputEnd). FeedStands seen old.feed lists.source lists.read holds.rows e) unknown holds.feed in
      let found = reads lists.source lists.read holds.rows was in
      let stuffing : model.Stuffing = stuffing_of old.stuffing in
      let rows : List (List ℕ) = holds.rows ++ put in
      let given_is : lists.given ≡ stuffed_so_far stuffing holds.rows None =
      sym (append-nil lists.given)
      ∙ ap (λ (n : ℕ). lists.given ++ null_cells n) (sym no_nulls)
      ∙ holds.cells
      ∙ ap (λ (e : Option InputEnd). stuffed_so_far stuffing holds.rows e) unknown in
      let put_is : lists.given ++ live_cells put ≡ stuffed_so_far stuffing rows None =
      ap (λ (l : List Cell). l ++ live_cells put) given_is
      ∙ append_assoc (null_cells stuffing.start) (stuffed_after stuffing 0 holds.rows) (live_cells put)
      ∙ ap (λ (l : List Cell). null_cells stuffing.start ++ l) (sym (stuffed_after-append stuffing 0 holds.rows put no_null)) in
      record {
        same = found.same;
        bytes = found.bytes;
        holds = record {
          rows = rows;
          feed = found.stands;
          cells = ap (λ (l : List Cell). l ++ null_cells nulls) put_is
              ∙ ap (λ (n : ℕ). stuffed_so_far stuffing rows None ++ null_cells n) due
              ∙ stuffed-stop stuffing rows ended;
          put = let before = holds.put in omega (arith, length-append lists.given (live_cells put), length-append holds.rows put, length-live_cells put);
          every = holds.every;
        };
        gives = λ input gives.
            subst (λ (e : Option InputEnd). FeedGives seen old.feed stuffing lists.read e input) (sym unknown)
            (FeedGives-before old.feed feed stuffing lists.source lists.read found.bytes holds.rows rows ended found.same was found.stands input gives);
        reads = λ most within fits. let before = holds.put in found.reads most within (omega arith);
      }

  -- an input as it was
  abbrev pub InputGoes-none : (old : InputStage S) (lists : PartLists) (wanted : ℕ) → InputHolds seen old lists → InputGoes seen old old lists wanted []
  InputGoes-none old lists wanted holds =
      let read_same : lists.read ++ [] ≡ lists.read = append-nil lists.read in
      let given_same : lists.given ++ [] ≡ lists.given = append-nil lists.given in
      record {
        same = SameFeed-same old.feed;
        bytes = [];
        holds = record {
          rows = holds.rows;
          feed = subst (λ (r : List ℕ). FeedStands seen old.feed lists.source r holds.rows old.ended) (sym read_same) holds.feed;
          cells = ap (λ (l : List Cell). l ++ null_cells old.nulls) given_same ∙ holds.cells;
          put = subst (λ (l : List Cell). length holds.rows ≤ length l) (sym given_same) holds.put;
          every = holds.every;
        };
        gives = λ input gives. subst (λ (r : List ℕ). FeedGives seen old.feed (stuffing_of old.stuffing) r old.ended input) read_same gives;
        reads = λ most within fits. subst (λ (r : List ℕ). length r ≤ 188 * most) (sym read_same) within;
      }

-- two steps read and gave what they did together
pub with_more-more : (lists : PartLists) (a b : List ℕ) (xs ys : List Cell) → with_more (with_more lists a xs) b ys ≡ with_more lists (a ++ b) (xs ++ ys)
with_more-more lists a b xs ys =
    ap (λ (r : List ℕ). record (with_more lists [] []) { read = r; given = (lists.given ++ xs) ++ ys }) (append_assoc lists.read a b)
    ∙ ap (λ (l : List Cell). record (with_more lists [] []) { read = lists.read ++ (a ++ b); given = l }) (append_assoc lists.given xs ys)

module _ {S : Type 0} (seen : S → SourceView) where
  -- one step after another
  pub InputGoes-trans : (a b c : InputStage S) (lists : PartLists) (wanted first second : ℕ) (xs ys : List Cell)
      → first ≤ wanted → length xs + second ≤ wanted → (one : InputGoes seen a b lists first xs)
      → InputGoes seen b c (with_more lists one.bytes xs) second ys → InputGoes seen a c lists wanted (xs ++ ys)
  InputGoes-trans a b c lists wanted first second xs ys few_first few_second one two =
      let same : with_more (with_more lists one.bytes xs) two.bytes ys ≡ with_more lists (one.bytes ++ two.bytes) (xs ++ ys) =
      with_more-more lists one.bytes two.bytes xs ys in
      record {
        same = SameFeed-trans a.feed b.feed c.feed one.same two.same;
        bytes = one.bytes ++ two.bytes;
        holds = subst (λ (l : PartLists). InputHolds seen c l) same two.holds;
        gives = λ input gives. one.gives input (two.gives input (subst (λ (l : PartLists). MayGive seen c l input) (sym same) gives));
        reads = λ most within fits.
            let before : length (lists.read ++ one.bytes) ≤ 188 * most = one.reads most within (omega arith) in
            let given : length (lists.given ++ xs) + second ≤ most = omega (arith, length-append lists.given xs) in
            subst (λ (r : List ℕ). length r ≤ 188 * most) (append_assoc lists.read one.bytes two.bytes) (two.reads most before given);
      }

  -- the list is over
  pub InputGoes-over : (old new : InputStage S) (lists : PartLists) (wanted : ℕ) (cell : Cell) (ended : Option InputEnd)
      → is_some ended ≡ true → InputGoes seen old new lists wanted [] → InputGoes seen old new lists wanted (cell_put ended cell)
  InputGoes-over old new lists wanted cell None some goes = cc
  InputGoes-over old new lists wanted cell (Some how) some goes = goes

  -- and of that nothing was put
  pub InputGoes-stop : (old new : InputStage S) (lists : PartLists) (wanted : ℕ) (cell : Cell) (ended : Option InputEnd)
      → is_some ended ≡ true → InputGoes seen old new lists wanted (cell_put ended cell) → InputGoes seen old new lists wanted []
  InputGoes-stop old new lists wanted cell None some goes = cc
  InputGoes-stop old new lists wanted cell (Some how) some goes = goes

-- the end of the packets is known, and no null packets are due after it
pub IsOver-some : {S : Type 0} (stage : InputStage S) (ended : Option InputEnd) → stage.ended ≡ ended → stage.nulls ≡ 0
    → IfSome ended (λ how. IsOver stage how)
IsOver-some stage None is none = tt
IsOver-some stage (Some how) is none = record { ended = is; nulls = none }

-- a window in which the list is over
pub IsFilled-over : {S : Type 0} (stage : InputStage S) (len done : ℕ) (ended : Option InputEnd) → is_some ended ≡ true
    → IfSome ended (λ how. IsOver stage how) → IsFilled stage len done ended
IsFilled-over stage len done None some over = cc
IsFilled-over stage len done (Some how) some over = over

-- what is not there
pub None-from_is_some : {T : Type 0} (o : Option T) → is_some o ≡ false → o ≡ None
None-from_is_some None no_value = refl
None-from_is_some (Some x) no_value = cc
