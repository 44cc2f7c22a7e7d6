-- What was printed of the rounds of a run, with the gaps of its input.
use Rattle.std.proofs.Common.{◌≡◌, inl, inr, ℕ, ◌≤◌, List, [], ◌∷◌, ◌++◌, map, Bool, true, false, Option, None, Some, refl, ap, sym, ◌∙◌, subst, arith, append_assoc, append-nil}
use Rattle.std.specs.List.{AllByRecursion}
use Rattle.std.proofs.lemmas.Grind.{flat_map-append}
use Rattle.std.proofs.lemmas.List.{map-append}
use Rattle.ts_outside.specs.Desk.{DeskView}
use Rattle.ts_outside.specs.declared.sources.Source.{Ghosts}
use Rattle.ts_outside.specs.Saying.{Says}
use Rattle.ts_outside.proofs.Views.{reports-nil}
use Rattle.chain_live.specs.LiveReports.{LiveLine}
use Rattle.chain_rounds.specs.Merged.{merged}
use Rattle.chain_rounds.specs.Round.{place}
use Rattle.chain_rounds.specs.Told.{shown}
use Rattle.chain_tells.specs.InputLines.{AreBefore, AreFrom}
use Rattle.chain_tells.specs.PrintingRounds.{PrintsOne, PrintsRound}
use Rattle.chain_tells.specs.Rounds.{Round, HeardRounds, IsWithin, lines_of_rounds}
use Rattle.chain_tells.specs.declared.printing.Printing.{Printing}
use Rattle.chain_tells.proofs.InputLemmas.{in-parts}
use Rattle.search_source.specs.declared.file_source.FileSource.{FileSource}
use Rattle.search_source.specs.declared.file_source.FileSource.TheVariants.{Placed, Found}
use Rattle.search_source.specs.declared.gap_counts.GapCounts.{GapCounts}
use Rattle.search_source.specs.declared.noted_source.NotedSource.{NotedSource}
use Rattle.stage_run.specs.InputStands as stage
use Rattle.chain_model.specs.Stuffed as model
use Rattle.tsp_top.specs.InputRounds.{WritesRound, HasAll, counts_after, lines_at, noted_gaps, round_text}
use Rattle.tsp_top.specs.Printed.{live_line, live_text}
use Rattle.tsp_top.specs.Printing.{name_at}
use Rattle.tsp_top.specs.declared.input_texts.InputTexts.{InputTexts}
use Rattle.tsp_top.proofs.Pieces.{one_more}
use Rattle.tsp_top.proofs.RoundRows.{both-before, both-from, before-more, from-less, rows-between, shown-before, shown-from}

abbrev pub Src : (P S : Type 0) → Ghosts S → Type 0
Src P S ghosts = FileSource P (NotedSource S ghosts)

module _ {D : Type 0} (old : InputTexts × Printing × D) where
  abbrev pub stuffing : model.Stuffing
  stuffing = stage.stuffing_of old.0.stuffing

  abbrev pub names : ℕ → List ℕ
  names = name_at old.0.items.now

module _ {P S D : Type 0} {ghosts : Ghosts S} (seen : D → DeskView) (old : InputTexts × Printing × D) where
  -- the lines of the input in a round, and of rounds of which the last one comes first
  abbrev pub row : Round (Src P S ghosts) → List LiveLine
  row round = lines_at (stuffing old) round.from round.to round.source

  abbrev pub rows : List (Round (Src P S ghosts)) → List LiveLine
  rows [] = []
  rows (round ∷ earlier) = rows earlier ++ row round

  -- and those of the plugins
  abbrev pub plug : List (Round (Src P S ghosts)) → List LiveLine
  plug rounds = map (shown (names old)) (lines_of_rounds rounds)

  abbrev pub both : List (Round (Src P S ghosts)) → List LiveLine
  both rounds = merged place (rows rounds) (plug rounds)

  abbrev pub counts : List (Round (Src P S ghosts)) → GapCounts
  counts [] = old.0.counts
  counts (round ∷ earlier) = counts_after (stuffing old) round.from round.to (counts earlier) round.source

  -- rounds one behind another, up to a position
  abbrev pub Ordered : ℕ → List (Round (Src P S ghosts)) → Type 0
  Ordered w [] = w ≡ 0
  Ordered w (round ∷ earlier) = (round.to ≡ w) × (round.from ≤ round.to) × AllByRecursion (IsWithin round.from round.to) round.lines × Ordered round.from earlier

  row-between : (from to : ℕ) (source : Option (Src P S ghosts)) → AreFrom from (lines_at (stuffing old) from to source) × AreBefore to (lines_at (stuffing old) from to source)
  row-between from to None = (tt, tt)
  row-between from to (Some (Placed source)) = (tt, tt)
  row-between from to (Some (Found source)) = rows-between (stuffing old) source.source.finder.form from to (noted_gaps source)

  rows-before : (w : ℕ) (rounds : List (Round (Src P S ghosts))) → Ordered w rounds → AreBefore w (rows rounds)
  rows-before w [] order = tt
  rows-before w (round ∷ earlier) order =
      subst (λ (n : ℕ). AreBefore n (rows earlier ++ row round)) order.0
      (both-before round.to (rows earlier) (row round) (before-more round.from round.to (rows earlier) order.1 (rows-before round.from earlier order.3))
      (row-between round.from round.to round.source).1)

  plug-more : (round : Round (Src P S ghosts)) (earlier : List (Round (Src P S ghosts))) → plug (round ∷ earlier) ≡ plug earlier ++ map (shown (names old)) round.lines
  plug-more round earlier = map-append (shown (names old)) (lines_of_rounds earlier) round.lines

  pub plug-before : (w : ℕ) (rounds : List (Round (Src P S ghosts))) → Ordered w rounds → AreBefore w (plug rounds)
  plug-before w [] order = tt
  plug-before w (round ∷ earlier) order =
      subst (λ (l : List LiveLine). AreBefore w l) (sym (plug-more round earlier))
      (subst (λ (n : ℕ). AreBefore n (plug earlier ++ map (shown (names old)) round.lines)) order.0
      (both-before round.to (plug earlier) (map (shown (names old)) round.lines) (before-more round.from round.to (plug earlier) order.1 (plug-before round.from earlier order.3))
      (shown-before (names old) round.from round.to round.lines order.2)))

  -- the lines of one round more come behind those of the rounds before it
  both-more : (w : ℕ) (round : Round (Src P S ghosts)) (earlier : List (Round (Src P S ghosts))) → Ordered w (round ∷ earlier)
      → both (round ∷ earlier) ≡ both earlier ++ merged place (row round) (map (shown (names old)) round.lines)
  both-more w round earlier order =
      ap (merged place (rows earlier ++ row round)) (plug-more round earlier)
      ∙ in-parts round.from (rows earlier) (plug earlier) (row round) (map (shown (names old)) round.lines)
      (rows-before round.from earlier order.3) (plug-before round.from earlier order.3)
      (row-between round.from round.to round.source).0 (shown-from (names old) round.from round.to round.lines order.2)

  -- ---- what was printed

  -- the writer after these rounds
  pub record Writer (texts : InputTexts) (rounds : List (Round (Src P S ghosts))) : Type 0 where
    pub bare_is : texts.bare ≡ old.0.bare
    pub stuffing_is : texts.stuffing ≡ old.0.stuffing
    pub items_are : texts.items ≡ old.0.items
    pub counts_are : texts.counts ≡ counts rounds

  abbrev pub ToldWell : (Round (Src P S ghosts) → Type 0) → Round (Src P S ghosts) → Type 0
  ToldWell Stands round = Stands round × HasAll (stuffing old) round.from round.source

  -- of these rounds the first were printed, all of them where nothing failed
  pub record Printed (Stands : Round (Src P S ghosts) → Type 0) (texts : InputTexts) (desk : DeskView) (wants failed : Bool) (w : ℕ) (rounds : List (Round (Src P S ghosts))) : Type 0 where
    pub done : List (Round (Src P S ghosts))
    pub at : ℕ
    pub order : Ordered at done
    pub le : at ≤ w
    pub rest : List LiveLine
    pub plug_is : plug rounds ≡ plug done ++ rest
    pub rest_from : AreFrom at rest
    pub said : Says (seen old.2) desk (live_text old.0.bare (both done)) failed
    pub stand : AllByRecursion (ToldWell Stands) done
    pub going : wants ≡ false → failed ≡ false → (done ≡ rounds) × (at ≡ w) × Writer texts rounds

  module _ (Stands : Round (Src P S ghosts) → Type 0) where
    -- one round more was not printed
    stays : (texts new : InputTexts) (desk now : DeskView) (wanted failed wants fails : Bool) (round : Round (Src P S ghosts)) (rounds : List (Round (Src P S ghosts)))
        → Ordered round.to (round ∷ rounds) → Printed Stands texts desk wanted failed round.from rounds
        → (wants ≡ false → fails ≡ false → ⊥) → fails ≡ failed → now ≡ desk → Printed Stands new now wants fails round.to (round ∷ rounds)
    stays texts new desk now wanted failed wants fails round rounds order p over same is =
        let F : Bool → Type 0 = λ b. Says (seen old.2) desk (live_text old.0.bare (both p.done)) b in
        let N : DeskView → Type 0 = λ d. Says (seen old.2) d (live_text old.0.bare (both p.done)) fails in
        record {
          done = p.done;
          at = p.at;
          order = p.order;
          le = omega (arith, p.le, order.1);
          rest = p.rest ++ map (shown (names old)) round.lines;
          plug_is = plug-more round rounds ∙ ap (λ (l : List LiveLine). l ++ map (shown (names old)) round.lines) p.plug_is ∙ append_assoc (plug p.done) p.rest (map (shown (names old)) round.lines);
          rest_from = both-from p.at p.rest (map (shown (names old)) round.lines) p.rest_from (from-less p.at round.from (map (shown (names old)) round.lines) p.le (shown-from (names old) round.from round.to round.lines order.2));
          said = subst N (sym is) (subst F (sym same) p.said);
          stand = p.stand;
          going = λ a b. absurd (over a b);
        }

    -- the text of a round is that of its lines
    round-text : (texts new : InputTexts) (round : Round (Src P S ghosts)) (text : List ℕ) (rounds : List (Round (Src P S ghosts))) → Writer texts rounds → WritesRound texts new round text
        → text ≡ live_text old.0.bare (merged place (row round) (map (shown (names old)) round.lines))
    round-text texts new round text rounds writer writes =
        writes.text_is
        ∙ ap (λ (b : Bool). round_text b texts.items.now (lines_at (stage.stuffing_of texts.stuffing) round.from round.to round.source) round.lines) writer.bare_is
        ∙ ap (λ items. round_text old.0.bare items.now (lines_at (stage.stuffing_of texts.stuffing) round.from round.to round.source) round.lines) writer.items_are
        ∙ ap (λ s. round_text old.0.bare old.0.items.now (lines_at (stage.stuffing_of s) round.from round.to round.source) round.lines) writer.stuffing_is

    -- one round more was printed, or a first part of its text
    goes-on : (texts new : InputTexts) (desk now : DeskView) (fails : Bool) (round : Round (Src P S ghosts)) (rounds : List (Round (Src P S ghosts))) (text : List ℕ)
        → Ordered round.to (round ∷ rounds) → Stands round → Printed Stands texts desk false false round.from rounds
        → WritesRound texts new round text → Says desk now text fails → Printed Stands new now false fails round.to (round ∷ rounds)
    goes-on texts new desk now fails round rounds text order stands p writes said =
        let all = p.going refl refl in
        let writer = all.2 in
        let before : Says (seen old.2) desk (live_text old.0.bare (both rounds)) false =
        subst (λ (l : List (Round (Src P S ghosts))). Says (seen old.2) desk (live_text old.0.bare (both l)) false) all.0 p.said in
        let text_is : live_text old.0.bare (both rounds) ++ text ≡ live_text old.0.bare (both (round ∷ rounds)) =
        ap (λ (t : List ℕ). live_text old.0.bare (both rounds) ++ t) (round-text texts new round text rounds writer writes)
        ∙ sym (flat_map-append (live_line old.0.bare) (both rounds) (merged place (row round) (map (shown (names old)) round.lines)))
        ∙ ap (live_text old.0.bare) (sym (both-more round.to round rounds order)) in
        let has : HasAll (stuffing old) round.from round.source = subst (λ s. HasAll (stage.stuffing_of s) round.from round.source) writer.stuffing_is writes.has_all in
        record {
          done = round ∷ rounds;
          at = round.to;
          order = order;
          le = omega arith;
          rest = [];
          plug_is = sym (append-nil (plug (round ∷ rounds)));
          rest_from = tt;
          said = subst (λ (t : List ℕ). Says (seen old.2) now t fails) text_is (one_more (seen old.2) desk now (live_text old.0.bare (both rounds)) text fails before said);
          stand = ((stands, has), subst (AllByRecursion (ToldWell Stands)) all.0 p.stand);
          going = λ a b. (
            refl,
            refl,
            record {
              bare_is = writes.bare_same ∙ writer.bare_is;
              stuffing_is = writes.stuffing_same ∙ writer.stuffing_is;
              items_are = writes.items_same ∙ writer.items_are;
              counts_are = writes.counts_are
                  ∙ ap (λ s. counts_after (stage.stuffing_of s) round.from round.to texts.counts round.source) writer.stuffing_is
                  ∙ ap (λ (c : GapCounts). counts_after (stuffing old) round.from round.to c round.source) writer.counts_are;
            },
          );
        }

    prints-step : (texts new : InputTexts) (desk now : DeskView) (wanted failed wants fails : Bool) (round : Round (Src P S ghosts)) (rounds : List (Round (Src P S ghosts)))
        → Ordered round.to (round ∷ rounds) → Stands round → Printed Stands texts desk wanted failed round.from rounds
        → PrintsOne wanted failed wants fails desk now (WritesRound texts new round) → Printed Stands new now wants fails round.to (round ∷ rounds)
    prints-step texts new desk now true failed wants fails round rounds order stands p on =
        stays texts new desk now true failed wants fails round rounds order p (λ none _. absurd (let e : true ≡ false = sym on.0 ∙ none in cc)) on.1 on.2
    prints-step texts new desk now false true wants fails round rounds order stands p on =
        stays texts new desk now false true wants fails round rounds order p (λ _ none. absurd (let e : true ≡ false = sym on.1 ∙ none in cc)) on.1 on.2
    prints-step texts new desk now false false wants fails round rounds order stands p (inl out) =
        stays texts new desk now false false wants fails round rounds order p (λ none _. absurd (let e : true ≡ false = sym out.0 ∙ none in cc)) out.1 out.2
    prints-step texts new desk now false false wants fails round rounds order stands p (inr said) =
        let W : Bool → Type 0 = λ w. Printed Stands new now w fails round.to (round ∷ rounds) in
        subst W (sym said.0) (goes-on texts new desk now fails round rounds said.1.0 order stands p said.1.1 said.1.2)

    -- ---- all rounds

    module _ (wants_not : old.1.wants ≡ false) (failed_not : old.1.failed ≡ false) (goes_on : (round : Round (Src P S ghosts)) → Stands round → (round.from ≤ round.to) × AllByRecursion (IsWithin round.from round.to) round.lines) where
      abbrev pub Since : InputTexts × Printing × D → ℕ → List (Round (Src P S ghosts)) → Type 0
      Since now w rounds = Printed Stands now.0 (seen now.2) now.1.wants now.1.failed w rounds

      ordered : (now : InputTexts × Printing × D) (w : ℕ) (rounds : List (Round (Src P S ghosts))) → HeardRounds (PrintsRound seen WritesRound) old now w rounds → AllByRecursion Stands rounds → Ordered w rounds
      ordered now w [] heard stand = heard.1
      ordered now w (round ∷ rounds) heard stand =
          let own = goes_on round stand.0 in
          (heard.2, own.0, own.1, ordered heard.0 round.from rounds heard.1 stand.1)

      nothing-yet : (w : ℕ) → w ≡ 0 → Since old w []
      nothing-yet w none =
          let F : Bool → Type 0 = λ b. Says (seen old.2) (seen old.2) [] b in
          record {
            done = [];
            at = 0;
            order = refl;
            le = omega arith;
            rest = [];
            plug_is = refl;
            rest_from = tt;
            said = subst F (sym failed_not) (sym (reports-nil (seen old.2)));
            stand = tt;
            going = λ a b. (refl, sym none, record { bare_is = refl; stuffing_is = refl; items_are = refl; counts_are = refl });
          }

      pub since-first : (now : InputTexts × Printing × D) (w : ℕ) (rounds : List (Round (Src P S ghosts))) → HeardRounds (PrintsRound seen WritesRound) old now w rounds → AllByRecursion Stands rounds → Since now w rounds
      since-first now w [] heard stand =
          let M : InputTexts × Printing × D → Type 0 = λ n. Since n w [] in
          subst M (sym heard.0) (nothing-yet w heard.1)
      since-first now w (round ∷ rounds) heard stand =
          let own = goes_on round stand.0 in
          let to : round.to ≡ w = heard.2 in
          let order : Ordered round.to (round ∷ rounds) = (refl, own.0, own.1, ordered heard.0 round.from rounds heard.1 stand.1) in
          subst (λ (n : ℕ). Since now n (round ∷ rounds)) to
          (prints-step heard.0.0 now.0 (seen heard.0.2) (seen now.2) heard.0.1.wants heard.0.1.failed now.1.wants now.1.failed round rounds order stand.0
          (since-first heard.0 round.from rounds heard.1 stand.1) heard.3)
