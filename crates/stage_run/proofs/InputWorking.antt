-- An input's work, put together from what it read and gave.
use Rattle.std.proofs.Common.{◌≡◌, ◌≢◌, ℕ, ◌+◌, ◌*◌, ◌^◌, ◌<◌, ◌≤◌, if◌then◌else◌, Bool, true, false, List, [], ◌++◌, length, take, refl, ap, sym, ◌∙◌, arith, append-nil, length-append, length-take, subst, Option, None, Some, ◌⊎◌, inl, inr, le_trans}
use Rattle.std.specs.List.{concat}
use Rattle.std.proofs.lemmas.Bool.{cond-true, cond-false, eq-eqb, ne_eqb, cases_eq}
use Rattle.std.proofs.Math.Nat.{mul-le-mul_left}
use Rattle.ts_packet.specs.declared.cell.Cell.{Cell}
use Rattle.ts_outside.specs.Count.{raised}
use Rattle.ts_outside.specs.Source.{SourceView, unread}
use Rattle.chain_model.specs.declared.input_end.InputEnd.{InputEnd}
use Rattle.chain_model.specs.declared.input_end.InputEnd.TheVariants.{End, Sync, ReadFault, TooLong}
use Rattle.chain_model.specs.Apply.{StageList}
use Rattle.chain_core.specs.declared.news.News.{News}
use Rattle.chain_core.specs.declared.stage_end.StageEnd.{StageEnd}
use Rattle.chain_core.specs.declared.stage_end.StageEnd.TheVariants.{Input, Last, Stop, Refuse, WriteFault, NoMemory, Followed}
use Rattle.stage_run.specs.declared.work.Work.{Work}
use Rattle.stage_run.specs.declared.packet_feed.PacketFeed.{PacketFeed}
use Rattle.stage_run.specs.declared.packet_feed.PacketFeed.TheVariants.{Stream, Nulls, Generated}
use Rattle.stage_run.specs.declared.input_stage.InputStage.{InputStage}
use Rattle.stage_run.specs.PartLists.{PartLists}
use Rattle.stage_run.specs.Feeds.{FeedStands, SameFeed, StandsAtSource, IsReady, WantsMore, hand_of}
use Rattle.stage_run.specs.InputStands.{InputHolds, InputStands, IsOpen, IsGoingOn, FitsTold, stuffing_of}
use Rattle.stage_run.specs.InputSteps.{InputGoes, IsOver, FillsWindow, EndsAtLimit}
use Rattle.stage_run.specs.Telling.{may_follow, followed}
use Rattle.stage_run.specs.Works.{Works, InputWorks, InputTells, FaultsTold, source_faults, read_for}
use Rattle.stage_run.specs.PartStands.{MayWork}
use Rattle.stage_run.proofs.StreamLemmas.{length-concat, unfinished-few}
use Rattle.stage_run.proofs.InputLemmas.{InputGoes-none}
use Rattle.stage_run.proofs.ContinuesLemmas.{Continues, continues-feed}
use Rattle.stage_run.proofs.KeepingLemmas.{IsLonger, keeps_list}

-- an end at the last position, by what is known
abbrev pub EndsSo : Option InputEnd → ℕ → Type 0 → InputEnd → Type 0
EndsSo ended nulls Ready TooLong = (0 < nulls) ⊎ (((ended ≡ None) × Ready) ⊎ (ended ≡ Some TooLong))
EndsSo ended nulls Ready how = (ended ≡ Some how) × (nulls ≡ 0)

-- the count of faults after an end
abbrev pub faults_by : Option InputEnd → ℕ → ℕ
faults_by (Some ReadFault) n = raised n
faults_by _ n = n

StandsAtSource-faults : (first now : SourceView) (read hand : List ℕ) (count : ℕ) (ended : Option InputEnd)
    → StandsAtSource first now read hand count ended → now.faults ≡ faults_by ended first.faults
StandsAtSource-faults first now read hand count None stands = sym (ap (λ (view : SourceView). view.faults) stands)
StandsAtSource-faults first now read hand count (Some (End left)) stands = sym (ap (λ (view : SourceView). view.faults) stands.0)
StandsAtSource-faults first now read hand count (Some (Sync packet)) stands = sym (ap (λ (view : SourceView). view.faults) stands.0)
StandsAtSource-faults first now read hand count (Some ReadFault) stands = sym (ap (λ (view : SourceView). view.faults) stands.0)
StandsAtSource-faults first now read hand count (Some TooLong) stands = absurd stands

faults_by-open : (ended : Option InputEnd) (n : ℕ) → IsOpen ended → faults_by ended n ≡ n
faults_by-open None n is = refl
faults_by-open (Some (End left)) n is = refl
faults_by-open (Some (Sync packet)) n is = absurd is
faults_by-open (Some ReadFault) n is = absurd is
faults_by-open (Some TooLong) n is = absurd is

faults_told : (ended : Option InputEnd) (nulls : ℕ) (lists : PartLists) (told : Option StageEnd) (old new : ℕ)
    → FitsTold ended nulls lists told → new ≡ faults_by ended old → FaultsTold old new told (Input ReadFault)
faults_told None nulls lists told old new fit is = (
  λ failed. let now = subst (λ (t : Option StageEnd). FitsTold None nulls lists t) failed fit in let e : None ≡ Some ReadFault = now.0 in cc,
  λ other. is,
)
faults_told (Some (End left)) nulls lists told old new fit is = (
  λ failed. let now = subst (λ (t : Option StageEnd). FitsTold (Some (End left)) nulls lists t) failed fit in let e : Some (End left) ≡ Some ReadFault = now.0 in cc,
  λ other. is,
)
faults_told (Some (Sync packet)) nulls lists told old new fit is = (
  λ failed. let now = subst (λ (t : Option StageEnd). FitsTold (Some (Sync packet)) nulls lists t) failed fit in let e : Some (Sync packet) ≡ Some ReadFault = now.0 in cc,
  λ other. is,
)
faults_told (Some TooLong) nulls lists told old new fit is = (
  λ failed. let now = subst (λ (t : Option StageEnd). FitsTold (Some TooLong) nulls lists t) failed fit in let e : Some TooLong ≡ Some ReadFault = now.0 in cc,
  λ other. is,
)
faults_told (Some ReadFault) nulls lists None old new fit is = absurd fit.can
faults_told (Some ReadFault) nulls lists (Some (Input (End left))) old new fit is = let e : Some ReadFault ≡ Some (End left) = fit.0 in cc
faults_told (Some ReadFault) nulls lists (Some (Input (Sync packet))) old new fit is = let e : Some ReadFault ≡ Some (Sync packet) = fit.0 in cc
faults_told (Some ReadFault) nulls lists (Some (Input ReadFault)) old new fit is = (λ failed. is, λ other. absurd (other refl))
faults_told (Some ReadFault) nulls lists (Some (Input TooLong)) old new fit is = absurd fit.1
faults_told (Some ReadFault) nulls lists (Some Last) old new fit is = absurd fit
faults_told (Some ReadFault) nulls lists (Some Stop) old new fit is = absurd fit
faults_told (Some ReadFault) nulls lists (Some (Refuse reason)) old new fit is = absurd fit
faults_told (Some ReadFault) nulls lists (Some WriteFault) old new fit is = absurd fit
faults_told (Some ReadFault) nulls lists (Some NoMemory) old new fit is = absurd fit
faults_told (Some ReadFault) nulls lists (Some Followed) old new fit is = absurd fit.can

-- a stage's room to read is no less than its place
pub read_for-least : (at len : ℕ) → at ≤ read_for at len
read_for-least at len =
    elim (cases_eq at (2 ^ 60)) [
      | inl full ↦ let e : read_for at len ≡ at + 1 = cond-true _ _ _ (eq-eqb at (2 ^ 60) full) in omega arith
      | inr free ↦ let e : read_for at len ≡ at + len = cond-false _ _ _ (ne_eqb at (2 ^ 60) free) in omega arith
    ]

pub read_for-full : (at len : ℕ) → at ≡ 2 ^ 60 → read_for at len ≡ at + 1
read_for-full at len full = cond-true _ _ _ (eq-eqb at (2 ^ 60) full)

pub read_for-free : (at len : ℕ) → at ≢ 2 ^ 60 → read_for at len ≡ at + len
read_for-free at len free = cond-false _ _ _ (ne_eqb at (2 ^ 60) free)

-- the work of a stage that agrees to nothing
abbrev pub plain_work : ℕ → Option StageEnd → Work
plain_work done told = record { done = done; word = record { agreed = None; ended = told } }

-- what an input stands for after its work
abbrev pub lists_after : PartLists → List ℕ → List Cell → List Cell → PartLists
lists_after lists bytes cells given = record {
  met = lists.met ++ cells;
  given = lists.given ++ given;
  read = lists.read ++ bytes;
  cut = lists.cut;
  source = lists.source;
  sink = lists.sink;
  mark = lists.mark;
  from = lists.from;
}

EndsSo-limit : {S : Type 0} (stage : InputStage S) (how : InputEnd) → EndsAtLimit stage how → EndsSo stage.ended stage.nulls (IsReady stage.feed) how
EndsSo-limit stage (End left) ends = (ends.ended, ends.nulls)
EndsSo-limit stage (Sync packet) ends = (ends.ended, ends.nulls)
EndsSo-limit stage ReadFault ends = (ends.ended, ends.nulls)
EndsSo-limit stage TooLong ends = ends

-- what is reported at the last position fits what is known
fits_at_limit : (how : InputEnd) (ended : Option InputEnd) (nulls : ℕ) (Ready : Type 0) (lists : PartLists)
    → length lists.given ≡ 2 ^ 60 → EndsSo ended nulls Ready how → (0 < nulls → IsOpen ended) → (ended ≡ Some TooLong → ⊥)
    → FitsTold ended nulls lists (Some (Input how))
fits_at_limit (End left) ended nulls Ready lists full ends stays lost = (ends.0, ends.1)
fits_at_limit (Sync packet) ended nulls Ready lists full ends stays lost = (ends.0, ends.1)
fits_at_limit ReadFault ended nulls Ready lists full ends stays lost = (ends.0, ends.1)
fits_at_limit TooLong ended nulls Ready lists full (inl some) stays lost = (full, stays some)
fits_at_limit TooLong ended nulls Ready lists full (inr (inl ready)) stays lost = (full, subst IsOpen (sym ready.0) tt)
fits_at_limit TooLong ended nulls Ready lists full (inr (inr is)) stays lost = absurd (lost is)

longer_at_limit : (how : InputEnd) (ended : Option InputEnd) (nulls : ℕ) (Ready : Type 0) (rest : ℕ)
    → EndsSo ended nulls Ready how → (ended ≡ None → Ready → 0 < rest) → (ended ≡ Some TooLong → ⊥)
    → IsLonger (Some (Input how)) nulls rest
longer_at_limit (End left) ended nulls Ready rest ends more lost = tt
longer_at_limit (Sync packet) ended nulls Ready rest ends more lost = tt
longer_at_limit ReadFault ended nulls Ready rest ends more lost = tt
longer_at_limit TooLong ended nulls Ready rest (inl some) more lost = omega arith
longer_at_limit TooLong ended nulls Ready rest (inr (inl ready)) more lost = let some : 0 < rest = more ready.0 ready.1 in omega arith
longer_at_limit TooLong ended nulls Ready rest (inr (inr is)) more lost = absurd (lost is)

-- what is reported where the list is over
fits_over : (how : InputEnd) (ended : Option InputEnd) (nulls : ℕ) (lists : PartLists) → ended ≡ Some how → nulls ≡ 0 → (ended ≡ Some TooLong → ⊥)
    → FitsTold ended nulls lists (Some (Input how))
fits_over (End left) ended nulls lists is none lost = (is, none)
fits_over (Sync packet) ended nulls lists is none lost = (is, none)
fits_over ReadFault ended nulls lists is none lost = (is, none)
fits_over TooLong ended nulls lists is none lost = absurd (lost is)

longer_over : (how : InputEnd) (nulls rest : ℕ) → (how ≡ TooLong → ⊥) → IsLonger (Some (Input how)) nulls rest
longer_over (End left) nulls rest lost = tt
longer_over (Sync packet) nulls rest lost = tt
longer_over ReadFault nulls rest lost = tt
longer_over TooLong nulls rest lost = absurd (lost refl)

-- what is reported where the window is full
fits_followed : (b : Bool) (ended : Option InputEnd) (nulls : ℕ) (lists : PartLists) → IsGoingOn ended lists
    → FitsTold ended nulls lists (if b then Some Followed else None)
fits_followed true ended nulls lists goes = goes
fits_followed false ended nulls lists goes = goes

longer_followed : (b : Bool) (nulls rest : ℕ) → IsLonger (if b then Some Followed else None) nulls rest
longer_followed true nulls rest = tt
longer_followed false nulls rest = tt

tells_followed : (b : Bool) (news : News) (at done : ℕ) (fills unread : Type 0) → fills → at < 2 ^ 60
    → InputTells news at done fills unread (if b then Some Followed else None)
tells_followed true news at done fills unread filled free = inl (filled, free)
tells_followed false news at done fills unread filled free = (filled, free)

-- of a packet that is not whole there are fewer bytes
-- no source and no null packets end so
no_too_long_ : {S : Type 0} (seen : S → SourceView) (feed : PacketFeed S) (first : SourceView) (read : List ℕ) (rows : List (List ℕ))
    → FeedStands seen feed first read rows (Some TooLong) → ⊥
no_too_long_ seen (Stream stream) first read rows stands = stands.source
no_too_long_ seen (Nulls nulls) first read rows stands = stands.2
no_too_long_ seen (Generated generated) first read rows stands = stands.2

module _ {S : Type 0} (seen : S → SourceView) where
  no_too_long : (feed : PacketFeed S) (first : SourceView) (read : List ℕ) (rows : List (List ℕ)) (ended : Option InputEnd)
      → ended ≡ Some TooLong → FeedStands seen feed first read rows ended → ⊥
  no_too_long feed first read rows ended lost stands =
      no_too_long_ seen feed first read rows (subst (λ (e : Option InputEnd). FeedStands seen feed first read rows e) lost stands)

  feed_faults : (old new : PacketFeed S) (first : SourceView) (read read' : List ℕ) (rows rows' : List (List ℕ)) (before ended : Option InputEnd)
      → SameFeed old new → FeedStands seen old first read rows before → IsOpen before → FeedStands seen new first read' rows' ended
      → source_faults seen new ≡ faults_by ended (source_faults seen old)
  feed_faults (Stream old) (Stream new) first read read' rows rows' before ended same was can is =
      let old_faults : (seen old.source).faults ≡ first.faults =
      StandsAtSource-faults first (seen old.source) read (hand_of old) (length rows) before was.source ∙ faults_by-open before first.faults can in
      StandsAtSource-faults first (seen new.source) read' (hand_of new) (length rows') ended is.source
      ∙ ap (faults_by ended) (sym old_faults)
  feed_faults (Stream old) (Nulls new) first read read' rows rows' before ended same was can is = absurd same
  feed_faults (Stream old) (Generated new) first read read' rows rows' before ended same was can is = absurd same
  feed_faults (Nulls old) (Generated new) first read read' rows rows' before ended same was can is = absurd same
  feed_faults (Generated old) (Stream new) first read read' rows rows' before ended same was can is = absurd same
  feed_faults (Generated old) (Nulls new) first read read' rows rows' before ended same was can is = absurd same
  feed_faults (Generated old) (Generated new) first read read' rows rows' before None same was can is = refl
  feed_faults (Generated old) (Generated new) first read read' rows rows' before (Some (End left)) same was can is = refl
  feed_faults (Generated old) (Generated new) first read read' rows rows' before (Some (Sync packet)) same was can is = refl
  feed_faults (Generated old) (Generated new) first read read' rows rows' before (Some ReadFault) same was can is = absurd is.2
  feed_faults (Generated old) (Generated new) first read read' rows rows' before (Some TooLong) same was can is = refl
  feed_faults (Nulls old) (Stream new) first read read' rows rows' before ended same was can is = absurd same
  feed_faults (Nulls old) (Nulls new) first read read' rows rows' before None same was can is = refl
  feed_faults (Nulls old) (Nulls new) first read read' rows rows' before (Some (End left)) same was can is = refl
  feed_faults (Nulls old) (Nulls new) first read read' rows rows' before (Some (Sync packet)) same was can is = refl
  feed_faults (Nulls old) (Nulls new) first read read' rows rows' before (Some ReadFault) same was can is = absurd is.2
  feed_faults (Nulls old) (Nulls new) first read read' rows rows' before (Some TooLong) same was can is = refl

  -- the work of an input, from what it read and gave
  pub works_of : (old new : InputStage S) (lists : PartLists) (news : News) (cells cells_new : List Cell) (written wanted done : ℕ) (told : Option StageEnd)
      → InputStands seen old lists None → lists.mark ≤ written
      → (goes : InputGoes seen old new lists wanted (take done cells_new))
      → length lists.given + wanted ≤ read_for (length lists.given) (length cells)
      → length (lists.given ++ take done cells_new) ≤ 2 ^ 60
      → FitsTold new.ended new.nulls (lists_after lists goes.bytes (take done cells) (take done cells_new)) told
      → ((input : StageList) (continues : Continues (stuffing_of new.stuffing) goes.holds.rows new.ended (IsReady new.feed) input) → IsLonger told new.nulls (length continues.rest))
      → InputTells news (length lists.given) done (FillsWindow new (length cells) done) (lists.read ++ goes.bytes ≡ lists.read) told
      → Works (InputStands seen new) (InputWorks seen old new lists news cells cells_new (plain_work done told)) lists written cells cells_new (plain_work done told)
  works_of old new lists news cells cells_new written wanted done told was mark goes room fits fit longer tells =
      let after : PartLists = lists_after lists goes.bytes (take done cells) (take done cells_new) in
      let holds : InputHolds seen new after = record {
        rows = goes.holds.rows;
        feed = goes.holds.feed;
        cells = goes.holds.cells;
        put = goes.holds.put;
        every = goes.holds.every;
      } in
      record {
        after = after;
        behind = record {
          met = refl;
          given = refl;
          read = (goes.bytes, refl);
          source = refl;
          sink = refl;
          mark = mark;
          from = refl;
        };
        stands = record { holds = holds; fits = fit; within = fits };
        does = record {
          tells = tells;
          agreed = refl;
          same = goes.same;
          faults = faults_told new.ended new.nulls after told (source_faults seen old.feed) (source_faults seen new.feed) fit
              (feed_faults old.feed new.feed lists.source lists.read (lists.read ++ goes.bytes) was.holds.rows goes.holds.rows old.ended new.ended goes.same was.holds.feed was.fits.can goes.holds.feed);
          reads = λ most within few. goes.reads most within (le_trans room few);
          keeps = λ input gives. (
            goes.gives input gives,
            λ rules plugins.
                let continues = continues-feed seen new.feed (stuffing_of new.stuffing) lists.source (lists.read ++ goes.bytes) goes.holds.rows new.ended input goes.holds.feed gives in
                record {
                  list = keeps_list (stuffing_of new.stuffing) goes.holds.rows new.ended (IsReady new.feed) input new.nulls after continues goes.holds.cells fits plugins told fit (longer input continues);
                  agreement = tt;
                },
          );
        };
      }

  -- an input that may follow already
  pub works_following : (old : InputStage S) (lists : PartLists) (news : News) (cells : List Cell) (at written : ℕ)
      → MayWork (InputStands seen old) at written lists → at ≤ 2 ^ 60 → may_follow news at ≡ true
      → Works (InputStands seen old) (InputWorks seen old old lists news cells cells (plain_work 0 (Some Followed))) lists written cells cells (plain_work 0 (Some Followed))
  works_following old lists news cells at written may within follows =
      let was : InputStands seen old lists None = may.goes_on in
      let given_is : length lists.given ≡ at = may.given in
      let goes = InputGoes-none seen old lists 0 was.holds in
      works_of old old lists news cells cells written 0 0 (Some Followed) was may.mark goes
      (let least = read_for-least (length lists.given) (length cells) in omega arith)
      (omega (arith, length-append lists.given []))
      (record { can = was.fits.can; reads = let reads : length lists.read ≤ 188 * (length lists.given + 1) = was.fits.reads in omega (arith, length-append lists.given [], length-append lists.read []) })
      (λ input continues. tt)
      (inr (refl, append-nil lists.read, ap (may_follow news) given_is ∙ follows))

  -- an input at the last position
  pub works_at_limit : (old new : InputStage S) (lists : PartLists) (news : News) (cells : List Cell) (at written : ℕ) (how : InputEnd)
      → MayWork (InputStands seen old) at written lists → at ≡ 2 ^ 60
      → ((lists : PartLists) → InputHolds seen old lists → InputGoes seen old new lists 1 []) → EndsAtLimit new how
      → (0 < new.nulls → IsOpen old.ended → IsOpen new.ended)
      → Works (InputStands seen new) (InputWorks seen old new lists news cells cells (plain_work 0 (Some (Input how)))) lists written cells cells (plain_work 0 (Some (Input how)))
  works_at_limit old new lists news cells at written how may full all_go ends stays_open =
      let was : InputStands seen old lists None = may.goes_on in
      let given_is : length lists.given ≡ at = may.given in
      let goes = all_go lists was.holds in
      let more : length (lists.given ++ []) ≡ length lists.given + 0 = length-append lists.given [] in
      works_of old new lists news cells cells written 1 0 (Some (Input how)) was may.mark goes
      (let room : read_for (length lists.given) (length cells) ≡ length lists.given + 1 = read_for-full (length lists.given) (length cells) (omega arith) in omega arith)
      (omega arith)
      (fits_at_limit how new.ended new.nulls (IsReady new.feed) (lists_after lists goes.bytes [] []) (omega arith) (EndsSo-limit new how ends) (λ some. stays_open some was.fits.can)
      (λ lost. no_too_long new.feed lists.source (lists.read ++ goes.bytes) goes.holds.rows new.ended lost goes.holds.feed))
      (λ input continues. longer_at_limit how new.ended new.nulls (IsReady new.feed) (length continues.rest) (EndsSo-limit new how ends) continues.ready
      (λ lost. no_too_long new.feed lists.source (lists.read ++ goes.bytes) goes.holds.rows new.ended lost goes.holds.feed))
      tt

  -- an input whose list is over in its window
  pub works_over : (old new : InputStage S) (lists : PartLists) (news : News) (cells cells_new : List Cell) (at written done : ℕ) (how : InputEnd)
      → MayWork (InputStands seen old) at written lists → at + length cells ≤ 2 ^ 60 → at ≢ 2 ^ 60 → length cells_new ≡ length cells
      → ((lists : PartLists) → InputHolds seen old lists → InputGoes seen old new lists (length cells) (take done cells_new)) → IsOver new how
      → Works (InputStands seen new) (InputWorks seen old new lists news cells cells_new (plain_work done (Some (Input how)))) lists written cells cells_new (plain_work done (Some (Input how)))
  works_over old new lists news cells cells_new at written done how may within free long all_go over =
      let was : InputStands seen old lists None = may.goes_on in
      let given_is : length lists.given ≡ at = may.given in
      let goes = all_go lists was.holds in
      let lost = λ (lost : new.ended ≡ Some TooLong). no_too_long new.feed lists.source (lists.read ++ goes.bytes) goes.holds.rows new.ended lost goes.holds.feed in
      works_of old new lists news cells cells_new written (length cells) done (Some (Input how)) was may.mark goes
      (let room : read_for (length lists.given) (length cells) ≡ length lists.given + length cells =
      read_for-free (length lists.given) (length cells) (λ full. free (sym given_is ∙ full)) in omega arith)
      (omega (arith, length-append lists.given (take done cells_new), length-take done cells_new))
      (fits_over how new.ended new.nulls (lists_after lists goes.bytes (take done cells) (take done cells_new)) over.ended over.nulls lost)
      (λ input continues. longer_over how new.nulls (length continues.rest) (λ is. lost (over.ended ∙ ap Some is)))
      tt

  -- an input that needs a read has read no whole packet that it did not put
  read-few : (feed : PacketFeed S) (first : SourceView) (read : List ℕ) (rows : List (List ℕ)) (ended : Option InputEnd) (n : ℕ)
      → FeedStands seen feed first read rows ended → WantsMore feed → length rows ≤ n → length read ≤ 188 * (n + 1)
  read-few (Stream stream) first read rows ended n stands wants put =
      omega (
        arith,
        ap (λ (l : List ℕ). length l) stands.read_is,
        length-append (concat rows) (hand_of stream),
        length-concat rows stands.packets,
        unfinished-few (hand_of stream) wants,
      )
  read-few (Nulls nulls) first read rows ended n stands wants put = absurd wants
  read-few (Generated generated) first read rows ended n stands wants put = absurd wants

  -- an input that filled its window, or gave some cells and needs a read
  pub works_filled : (old new : InputStage S) (lists : PartLists) (news : News) (cells cells_new : List Cell) (at written done : ℕ)
      → MayWork (InputStands seen old) at written lists → at + length cells ≤ 2 ^ 60 → at ≢ 2 ^ 60 → length cells_new ≡ length cells → done ≤ length cells → FillsWindow new (length cells) done
      → ((lists : PartLists) → InputHolds seen old lists → InputGoes seen old new lists (length cells) (take done cells_new))
      → (IsOpen old.ended → IsOpen new.ended)
      → Works (InputStands seen new) (InputWorks seen old new lists news cells cells_new (plain_work done (followed news (at + done)))) lists written cells cells_new (plain_work done (followed news (at + done)))
  works_filled old new lists news cells cells_new at written done may within free long few fills all_go stays_open =
      let was : InputStands seen old lists None = may.goes_on in
      let given_is : length lists.given ≡ at = may.given in
      let goes = all_go lists was.holds in
      let told : Option StageEnd = followed news (at + done) in
      let b : Bool = may_follow news (at + done) in
      let given_now : length (lists.given ++ take done cells_new) ≡ at + done = omega (arith, length-append lists.given (take done cells_new), length-take done cells_new) in
      let reads_now : length (lists.read ++ goes.bytes) ≤ 188 * (at + done + 1) =
      elim fills [
        | inl all ↦ goes.reads (at + done + 1) (le_trans was.fits.reads (mul-le-mul_left 188 (omega arith))) (omega arith)
        | inr some ↦ read-few new.feed lists.source (lists.read ++ goes.bytes) goes.holds.rows new.ended (at + done) goes.holds.feed some.1.2
            (subst (λ (n : ℕ). length goes.holds.rows ≤ n) given_now goes.holds.put)
      ] in
      works_of old new lists news cells cells_new written (length cells) done told was may.mark goes
      (let room : read_for (length lists.given) (length cells) ≡ length lists.given + length cells =
      read_for-free (length lists.given) (length cells) (λ full. free (sym given_is ∙ full)) in omega arith)
      (omega arith)
      (fits_followed b new.ended new.nulls (lists_after lists goes.bytes (take done cells) (take done cells_new))
      (record { can = stays_open was.fits.can; reads = subst (λ (n : ℕ). length (lists.read ++ goes.bytes) ≤ 188 * (n + 1)) (sym given_now) reads_now }))
      (λ input continues. longer_followed b new.nulls (length continues.rest))
      (tells_followed b news (length lists.given) done (FillsWindow new (length cells) done) (lists.read ++ goes.bytes ≡ lists.read) fills (omega arith))
