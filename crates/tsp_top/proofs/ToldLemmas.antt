-- The gaps that were told in the rounds of a run: those of its input before a position, and no others.
use Rattle.std.proofs.Common.{◌≡◌, ◌≢◌, ◌⊎◌, inl, inr, ℕ, ◌<◌, ◌≤◌, ◌^◌, List, [], ◌∷◌, ◌++◌, length, map, filter, Bool, true, false, not, ◌&&◌, cond, Option, None, Some, refl, ap, sym, ◌∙◌, subst, arith, length-append}
use Rattle.std.specs.Prelude.{fold, IfSome}
use Rattle.std.specs.List.{AllByRecursion}
use Rattle.std.proofs.lemmas.Bool.{le-ltb, lt-ltb, ltb-true}
use Rattle.std.proofs.lemmas.Grind.{fold-append}
use Rattle.std.proofs.lemmas.List.{map-append}
use Rattle.ts_outside.specs.Told.{before}
use Rattle.ts_outside.specs.Source.{SourceView, Origin, unread, read_failed}
use Rattle.ts_outside.specs.declared.sources.Source.{Ghosts}
use Rattle.packet_forms.proofs.Through.{same-origin}
use Rattle.packet_forms.specs.declared.forms.Form.{Form}
use Rattle.packet_forms.specs.declared.forms.Form.TheVariants.{Ts}
use Rattle.packet_search.specs.Rule.{deciding_bytes}
use Rattle.chain_model.specs.InputRead.{list_at_fault}
use Rattle.chain_model.specs.Stuffed as model
use Rattle.chain_live.specs.LiveReports.{LiveLine, is_before}
use Rattle.chain_tells.specs.Rounds.{Round, ReadsUpTo, RoundStands, SourceReaches}
use Rattle.chain_run.specs.Runs.{RunStart}
use Rattle.stage_run.specs.Seeing.{Seeing}
use Rattle.stage_run.specs.PartStands.{source_kind, a_stream, null_packets, generated_packets}
use Rattle.stage_run.specs.Parts.{IsSourceOf}
use Rattle.stage_run.specs.declared.input_part.InputPart.{InputPart}
use Rattle.stage_run.specs.declared.input_part.InputPart.TheVariants.{Stream, Nulls, Generated}
use Rattle.search_source.specs.Coming.{found_in}
use Rattle.search_source.specs.Gaps.{no_gaps, with_gap}
use Rattle.search_source.specs.Since.{NotedOf}
use Rattle.search_source.proofs.Kept.{gaps-rise}
use Rattle.search_source.proofs.Through.{same-units}
use Rattle.search_source.specs.declared.file_source.FileSource.{FileSource}
use Rattle.search_source.specs.declared.file_source.FileSource.TheVariants.{Placed, Found}
use Rattle.search_source.specs.declared.gap.Gap.{Gap}
use Rattle.search_source.specs.declared.gap_counts.GapCounts.{GapCounts}
use Rattle.search_source.specs.declared.noted_source.NotedSource.{NotedSource}
use Rattle.tsp_top.specs.InputRounds.{HasAll, IsPlaced, ToldGaps, counts_after, is_between, lines_at, noted_gaps}
use Rattle.tsp_top.specs.LeftOut.{is_below, position_of, with_below}
use Rattle.tsp_top.specs.Printed.{gap_line}
use Rattle.tsp_top.proofs.GapRounds.{below, filter-none, in-two, round-gaps}

-- the form in which packets are found again in an input; where they are not, any
abbrev pub form_of : {P S : Type 0} {ghosts : Ghosts S} → InputPart (FileSource P (NotedSource S ghosts)) → Form
form_of (Stream (Found source)) = source.source.finder.form
form_of (Stream (Placed source)) = Ts
form_of (Nulls count) = Ts
form_of (Generated generator count) = Ts

module _ {P S K Pl : Type 0} {ghosts : Ghosts S} (see : Seeing (FileSource P (NotedSource S ghosts)) K Pl) (begun : RunStart (FileSource P (NotedSource S ghosts)) K) (stuffing : model.Stuffing)
    (some : 1 ≤ stuffing.every) (same_stuffing : begun.stuffing ≡ stuffing)
    (found : (source : NotedSource S ghosts) → (see.source (Found source)).origin.unit ≡ deciding_bytes source.source.finder.form)
    (placed : (source : P) (form : Form) → (see.source (Placed source)).origin.unit ≢ deciding_bytes form)
    (law : (source : NotedSource S ghosts) (form : Form) (file given : List ℕ) (old : SourceView)
    → old.left ≡ Some (found_in form file).bytes → old.origin ≡ record { unit = deciding_bytes form; bytes = Some file }
    → old.left ≡ before given (see.source (Found source)).left → old.origin ≡ (see.source (Found source)).origin → length file < 2 ^ 63 → source.lost ≡ false
    → NotedOf form file given source.from (noted_gaps source)) where
  abbrev pub Src : Type 0
  Src = FileSource P (NotedSource S ghosts)

  abbrev pub Well : Round Src → Type 0
  Well round = RoundStands see begun round × HasAll stuffing round.from round.source

  -- the gaps that were told in a round, and in rounds of which the last one comes first
  abbrev pub gaps_at : ℕ → ℕ → Option Src → List Gap
  gaps_at from to None = []
  gaps_at from to (Some (Placed source)) = []
  gaps_at from to (Some (Found source)) = filter (is_between stuffing from to) (noted_gaps source)

  abbrev pub told : List (Round Src) → List Gap
  told [] = []
  told (round ∷ earlier) = told earlier ++ gaps_at round.from round.to round.source

  -- rounds one behind another
  abbrev pub Goes : ℕ → List (Round Src) → Type 0
  Goes w [] = w ≡ 0
  Goes w (round ∷ earlier) = (round.to ≡ w) × (round.from ≤ round.to) × Goes round.from earlier

  -- ---- what source it is

  abbrev FoundFrom : InputPart Src → Form → Type 0
  FoundFrom (Stream (Found source)) own = own ≡ source.source.finder.form
  FoundFrom (Stream (Placed source)) own = ⊥
  FoundFrom (Nulls count) own = ⊥
  FoundFrom (Generated generator count) own = ⊥

  found-from : (from : InputPart Src) (first now : SourceView) (read : List ℕ) (own : Form) → source_kind from ≡ a_stream → IsSourceOf see.source from first
      → (first ≡ unread read now) ⊎ (read_failed first ≡ unread read now) → now.origin.unit ≡ deciding_bytes own → FoundFrom from own
  found-from (Stream (Found source)) first now read own kind is moved units =
      same-units own source.source.finder.form
      (sym units ∙ ap (λ (o : Origin). o.unit) (sym (same-origin first now read moved).1) ∙ ap (λ (v : SourceView). v.origin.unit) is ∙ found source)
  found-from (Stream (Placed source)) first now read own kind is moved units =
      absurd (placed source own (ap (λ (v : SourceView). v.origin.unit) (sym is) ∙ ap (λ (o : Origin). o.unit) (same-origin first now read moved).1 ∙ units))
  found-from (Nulls count) first now read own kind is moved units = absurd (let e : null_packets ≡ a_stream = kind in cc)
  found-from (Generated generator count) first now read own kind is moved units = absurd (let e : generated_packets ≡ a_stream = kind in cc)

  form-is : (from : InputPart Src) (own : Form) → FoundFrom from own → own ≡ form_of from
  form-is (Stream (Found source)) own is = is
  form-is (Stream (Placed source)) own is = absurd is
  form-is (Nulls count) own is = absurd is
  form-is (Generated generator count) own is = absurd is

  reads-found : (source : NotedSource S ghosts) (to : ℕ) → ReadsUpTo see begun (Found source) to → FoundFrom begun.from source.source.finder.form
  reads-found source to reads = found-from begun.from reads.first (see.source (Found source)) reads.read source.source.finder.form reads.stream reads.first_is reads.read_is (found source)

  not-placed : (from : InputPart Src) (own : Form) → FoundFrom from own → IsPlaced see.source from → ⊥
  not-placed (Stream (Found source)) own is none = none source.source.finder.form (found source)
  not-placed (Stream (Placed source)) own is none = absurd is
  not-placed (Nulls count) own is none = absurd is
  not-placed (Generated generator count) own is none = absurd is

  -- ---- lines, counts and places of what was told

  row-is : (from to : ℕ) (source : Option Src) → SourceReaches see begun source to → lines_at stuffing from to source ≡ map (gap_line stuffing (form_of begun.from)) (gaps_at from to source)
  row-is from to None reads = refl
  row-is from to (Some (Placed source)) reads = refl
  row-is from to (Some (Found source)) reads =
      ap (λ (f : Form). map (gap_line stuffing f) (filter (is_between stuffing from to) (noted_gaps source))) (form-is begun.from source.source.finder.form (reads-found source to reads))

  abbrev pub rows : List (Round Src) → List LiveLine
  rows [] = []
  rows (round ∷ earlier) = rows earlier ++ lines_at stuffing round.from round.to round.source

  pub rows-are : (rounds : List (Round Src)) → AllByRecursion Well rounds → rows rounds ≡ map (gap_line stuffing (form_of begun.from)) (told rounds)
  rows-are [] well = refl
  rows-are (round ∷ earlier) well =
      ap (λ (l : List LiveLine). l ++ lines_at stuffing round.from round.to round.source) (rows-are earlier well.1)
      ∙ ap (λ (l : List LiveLine). map (gap_line stuffing (form_of begun.from)) (told earlier) ++ l) (row-is round.from round.to round.source well.0.0.source)
      ∙ sym (map-append (gap_line stuffing (form_of begun.from)) (told earlier) (gaps_at round.from round.to round.source))

  count-is : (from to : ℕ) (source : Option Src) (counts : GapCounts) → SourceReaches see begun source to
      → counts_after stuffing from to counts source ≡ fold (with_gap (form_of begun.from)) counts (gaps_at from to source)
  count-is from to None counts reads = refl
  count-is from to (Some (Placed source)) counts reads = refl
  count-is from to (Some (Found source)) counts reads =
      ap (λ (f : Form). fold (with_gap f) counts (filter (is_between stuffing from to) (noted_gaps source))) (form-is begun.from source.source.finder.form (reads-found source to reads))

  abbrev pub counts : List (Round Src) → GapCounts
  counts [] = no_gaps
  counts (round ∷ earlier) = counts_after stuffing round.from round.to (counts earlier) round.source

  pub counts-are : (rounds : List (Round Src)) → AllByRecursion Well rounds → counts rounds ≡ fold (with_gap (form_of begun.from)) no_gaps (told rounds)
  counts-are [] well = refl
  counts-are (round ∷ earlier) well =
      count-is round.from round.to round.source (counts earlier) well.0.0.source
      ∙ ap (λ (c : GapCounts). fold (with_gap (form_of begun.from)) c (gaps_at round.from round.to round.source)) (counts-are earlier well.1)
      ∙ sym (fold-append (with_gap (form_of begun.from)) no_gaps (told earlier) (gaps_at round.from round.to round.source))

  abbrev pub AllBelow : ℕ → List Gap → Type 0
  AllBelow m = AllByRecursion (λ (gap : Gap). is_below stuffing m gap.before ≡ true)

  all-both : (m : ℕ) (xs ys : List Gap) → AllBelow m xs → AllBelow m ys → AllBelow m (xs ++ ys)
  all-both m [] ys a b = b
  all-both m (x ∷ xs) ys a b = (a.0, all-both m xs ys a.1 b)

  all-more : (m n : ℕ) (xs : List Gap) → m ≤ n → AllBelow m xs → AllBelow n xs
  all-more m n [] le all = tt
  all-more m n (x ∷ xs) le all = (lt-ltb (position_of stuffing x.before) n (omega (arith, le, ltb-true (position_of stuffing x.before) m all.0)), all-more m n xs le all.1)

  all-between : (from to : ℕ) (gaps : List Gap) → AllBelow to (filter (is_between stuffing from to) gaps)
  all-between from to [] = tt
  all-between from to (gap ∷ gaps) = by (all-between from to gaps) (is_below stuffing to gap.before) (is_below stuffing from gap.before) refl
    where
      by : AllBelow to (filter (is_between stuffing from to) gaps) → (a b : Bool) → is_below stuffing to gap.before ≡ a
          → AllBelow to (cond (a && not b) (gap ∷ filter (is_between stuffing from to) gaps) (filter (is_between stuffing from to) gaps))
      by rest true true is = rest
      by rest true false is = (is, rest)
      by rest false b is = rest

  at-below : (from to : ℕ) (source : Option Src) → AllBelow to (gaps_at from to source)
  at-below from to None = tt
  at-below from to (Some (Placed source)) = tt
  at-below from to (Some (Found source)) = all-between from to (noted_gaps source)

  pub told-below : (w : ℕ) (rounds : List (Round Src)) → Goes w rounds → AllBelow w (told rounds)
  told-below w [] goes = tt
  told-below w (round ∷ earlier) goes =
      subst (λ (n : ℕ). AllBelow n (told earlier ++ gaps_at round.from round.to round.source)) goes.0
      (all-both round.to (told earlier) (gaps_at round.from round.to round.source)
      (all-more round.from round.to (told earlier) goes.1 (told-below round.from earlier goes.2)) (at-below round.from round.to round.source))

  -- ---- where packets are at their places nothing was told

  none-at : (from to : ℕ) (source : Option Src) → SourceReaches see begun source to → IsPlaced see.source begun.from → gaps_at from to source ≡ []
  none-at from to None reads none = refl
  none-at from to (Some (Placed source)) reads none = refl
  none-at from to (Some (Found source)) reads none = absurd (not-placed begun.from source.source.finder.form (reads-found source to reads) none)

  none-told : (rounds : List (Round Src)) → AllByRecursion Well rounds → IsPlaced see.source begun.from → told rounds ≡ []
  none-told [] well none = refl
  none-told (round ∷ earlier) well none =
      ap (λ (l : List Gap). l ++ gaps_at round.from round.to round.source) (none-told earlier well.1 none) ∙ none-at round.from round.to round.source well.0.0.source none

  -- ---- a file that is known

  none-first : (gaps : List Gap) → filter (below stuffing 0) gaps ≡ []
  none-first gaps = filter-none (below stuffing 0) gaps (all-late gaps)
    where
      all-late : (gaps : List Gap) → AllByRecursion (λ (gap : Gap). below stuffing 0 gap ≡ false) gaps
      all-late [] = tt
      all-late (gap ∷ gaps) = (le-ltb (position_of stuffing gap.before) 0 (omega arith), all-late gaps)

  -- all bytes were read where none is left
  all-read : (bytes read : List ℕ) (left : Option (List ℕ)) → Some bytes ≡ before read left → IfSome left (λ l. l ≡ []) → length bytes ≤ length read
  all-read bytes read None is none = absurd cc
  all-read bytes read (Some rest) is none =
      let same : bytes ≡ read ++ rest = cc in
      let nothing : length rest ≡ 0 = ap (λ (l : List ℕ). length l) none in
      omega (arith, ap (λ (l : List ℕ). length l) same, length-append read rest, nothing)

  module _ (first : Src) (own : Form) (file : List ℕ) (is_from : begun.from ≡ Stream first) (left_is : (see.source first).left ≡ Some (found_in own file).bytes)
      (origin_is : (see.source first).origin ≡ record { unit = deciding_bytes own; bytes = Some file }) (small : length file < 2 ^ 63) where
    first-same : (view : SourceView) → IsSourceOf see.source begun.from view → view ≡ see.source first
    first-same view is = subst (λ (p : InputPart Src). IsSourceOf see.source p view) is_from is

    kind-is : source_kind begun.from ≡ a_stream
    kind-is = ap (λ (p : InputPart Src). source_kind p) is_from

    known-found : (from to : ℕ) (source : NotedSource S ghosts) → ReadsUpTo see begun (Found source) to → HasAll {P = P} stuffing from (Some (Found source))
        → filter (is_between stuffing from to) (noted_gaps source) ≡ filter (is_between stuffing from to) (found_in own file).gaps
    known-found from to source reads has =
        let same = first-same reads.first reads.first_is in
        let moved = same-origin reads.first (see.source (Found source)) reads.read reads.read_is in
        let left : reads.first.left ≡ Some (found_in own file).bytes = ap (λ (v : SourceView). v.left) same ∙ left_is in
        round-gaps stuffing from to source.from own file reads.read (noted_gaps source) some
        (law source own file reads.read reads.first left (ap (λ (v : SourceView). v.origin) same ∙ origin_is) moved.0 moved.1 small has.0)
        has.1 (reach reads.read (see.source (Found source)).left reads.reach (sym left ∙ moved.0))
      where
        reach : (read : List ℕ) (now : Option (List ℕ)) → IfSome now (λ l. l ≡ []) ⊎ (to ≤ length (list_at_fault begun.stuffing read).cells) → Some (found_in own file).bytes ≡ before read now
            → (length (found_in own file).bytes ≤ length read) ⊎ (to ≤ length (list_at_fault stuffing read).cells)
        reach read now (inl none) is = inl (all-read (found_in own file).bytes read now is none)
        reach read now (inr far) is = inr (subst (λ (s : model.Stuffing). to ≤ length (list_at_fault s read).cells) same_stuffing far)

    known-at : (from to : ℕ) (source : Option Src) → SourceReaches see begun source to → HasAll stuffing from source
        → gaps_at from to source ≡ filter (is_between stuffing from to) (found_in own file).gaps
    known-at from to None none has = absurd (none kind-is)
    known-at from to (Some (Placed source)) reads has =
        absurd (placed source own (ap (λ (o : Origin). o.unit) (sym (same-origin reads.first (see.source (Placed source)) reads.read reads.read_is).1)
        ∙ ap (λ (v : SourceView). v.origin.unit) (first-same reads.first reads.first_is) ∙ ap (λ (o : Origin). o.unit) origin_is))
    known-at from to (Some (Found source)) reads has = known-found from to source reads has

    pub known-told : (w : ℕ) (rounds : List (Round Src)) → Goes w rounds → AllByRecursion Well rounds → told rounds ≡ filter (below stuffing w) (found_in own file).gaps
    known-told w [] goes well = sym (ap (λ (n : ℕ). filter (below stuffing n) (found_in own file).gaps) goes ∙ none-first (found_in own file).gaps)
    known-told w (round ∷ earlier) goes well =
        let all : List Gap = (found_in own file).gaps in
        ap (λ (l : List Gap). l ++ gaps_at round.from round.to round.source) (known-told round.from earlier goes.2 well.1)
        ∙ ap (λ (l : List Gap). filter (below stuffing round.from) all ++ l) (known-at round.from round.to round.source well.0.0.source well.0.1)
        ∙ sym (in-two stuffing round.from round.to 0 all some goes.1 (gaps-rise own file))
        ∙ ap (λ (n : ℕ). filter (below stuffing n) all) goes.0

  pub told-gaps : (w : ℕ) (rounds : List (Round Src)) → Goes w rounds → AllByRecursion Well rounds → ToldGaps see.source stuffing begun.from w (form_of begun.from) (told rounds)
  told-gaps w rounds goes well = record {
    placed = none-told rounds well;
    form_is = λ source own is units. by source own is units;
    below = told-below w rounds goes;
    known = λ source own file is left origin small. known-told source own file is left origin small w rounds goes well;
  }
    where
      by : (source : Src) (own : Form) → begun.from ≡ Stream source → (see.source source).origin.unit ≡ deciding_bytes own → form_of begun.from ≡ own
      by (Found source) own is units =
          ap (λ (p : InputPart Src). form_of p) is ∙ sym (same-units own source.source.finder.form (sym units ∙ found source))
      by (Placed source) own is units = absurd (placed source own units)

-- gaps before a position, counted
pub all-counted : (stuffing : model.Stuffing) (m : ℕ) (form : Form) (counts : GapCounts) (gaps : List Gap) → AllByRecursion (λ (gap : Gap). is_below stuffing m gap.before ≡ true) gaps
    → fold (with_below stuffing m form) counts gaps ≡ fold (with_gap form) counts gaps
all-counted stuffing m form counts [] all = refl
all-counted stuffing m form counts (gap ∷ gaps) all =
    ap (λ (b : Bool). fold (with_below stuffing m form) (cond b (with_gap form counts gap) counts) gaps) all.0
    ∙ all-counted stuffing m form (with_gap form counts gap) gaps all.1

-- lines of gaps before a position
pub all-before-lines : (stuffing : model.Stuffing) (form : Form) (m : ℕ) (gaps : List Gap) → AllByRecursion (λ (gap : Gap). is_below stuffing m gap.before ≡ true) gaps
    → AllByRecursion (λ (line : LiveLine). is_before m line ≡ true) (map (gap_line stuffing form) gaps)
all-before-lines stuffing form m [] all = tt
all-before-lines stuffing form m (gap ∷ gaps) all = (all.0, all-before-lines stuffing form m gaps all.1)
