-- What is printed while a run goes, round by round.
use Rattle.std.proofs.Common.{◌≡◌, inl, inr, ℕ, ◌≤◌, List, [], ◌∷◌, ◌++◌, map, Bool, true, false, not, ◌&&◌, refl, ap, sym, ◌∙◌, subst, append_assoc, append-nil}
use Rattle.std.specs.List.{flat_map}
use Rattle.std.proofs.lemmas.Grind.{flat_map-append}
use Rattle.std.proofs.lemmas.List.{map-append}
use Rattle.ts_outside.specs.Desk.{DeskView}
use Rattle.ts_outside.specs.Saying.{Says}
use Rattle.ts_outside.proofs.Views.{reports-nil}
use Rattle.chain_model.specs.Prefix.{IsPrefix}
use Rattle.chain_model.specs.PureRun.{Chain}
use Rattle.chain_live.specs.LiveReports.{LiveLine, lines_below}
use Rattle.chain_live.proofs.LineLaws.{grows}
use Rattle.chain_rounds.specs.Told.{shown}
use Rattle.chain_rounds.specs.declared.told_line.ToldLine.{ToldLine}
use Rattle.chain_tells.specs.Live.{HeardRows, lines_of_rows}
use Rattle.plugin_settings.specs.declared.plugin_item.PluginItem.{PluginItem}
use Rattle.tsp_top.specs.Printed.{live_line}
use Rattle.chain_tells.specs.Printing.{PrintsLines, PrintsOn}
use Rattle.chain_tells.specs.declared.printing.Printing.{Printing}
use Rattle.tsp_top.specs.Printing.{HasPrinted, name_at, told_text}
use Rattle.tsp_top.proofs.Pieces.{one_more, stays_failed}

-- ---- texts of lines

pub told_text-append : (bare : Bool) (items : List PluginItem) (xs ys : List ToldLine) → told_text bare items (xs ++ ys) ≡ told_text bare items xs ++ told_text bare items ys
told_text-append bare items xs ys =
    ap (λ (l : List LiveLine). flat_map (live_line bare) l) (map-append (shown (name_at items)) xs ys)
    ∙ flat_map-append (live_line bare) (map (shown (name_at items)) xs) (map (shown (name_at items)) ys)

-- ---- one round

-- of these lines the first were printed, all of them where memory did not run out
pub record Printed (bare : Bool) (items : List PluginItem) (old new : DeskView) (wants failed : Bool) (lines : List ToldLine) : Type 0 where
  pub first : List ToldLine
  pub begins : IsPrefix first lines
  pub said : Says old new (told_text bare items first) failed
  pub all : wants ≡ false → first ≡ lines

stays : (bare : Bool) (items : List PluginItem) (old was now : DeskView) (failed fails wants : Bool) (lines row : List ToldLine) (first : List ToldLine)
    → IsPrefix first lines → Says old was (told_text bare items first) failed → wants ≡ true → fails ≡ failed → now ≡ was
    → Printed bare items old now wants fails (lines ++ row)
stays bare items old was now failed fails wants lines row first begins said wanting same desk =
    let F : Bool → Type 0 = λ b. Says old was (told_text bare items first) b in
    let N : DeskView → Type 0 = λ d. Says old d (told_text bare items first) fails in
    record {
      first = first;
      begins = (begins.0 ++ row, ap (λ (l : List ToldLine). l ++ row) begins.1 ∙ append_assoc first begins.0 row);
      said = subst N (sym desk) (subst F (sym same) said);
      all = λ is. absurd (let bad : true ≡ false = sym wanting ∙ is in cc);
    }

whole-row : (bare : Bool) (items : List PluginItem) (old now : DeskView) (wants fails : Bool) (lines row : List ToldLine)
    → Says old now (told_text bare items lines ++ told_text bare items row) fails → Printed bare items old now wants fails (lines ++ row)
whole-row bare items old now wants fails lines row said =
    let T : List ℕ → Type 0 = λ t. Says old now t fails in
    record {
      first = lines ++ row;
      begins = ([], sym (append-nil (lines ++ row)));
      said = subst T (sym (told_text-append bare items lines row)) said;
      all = λ is. refl;
    }

-- all that came before was printed
said-all : (bare : Bool) (items : List PluginItem) (old was : DeskView) (failed : Bool) (lines : List ToldLine) (printed : Printed bare items old was false failed lines)
    → Says old was (told_text bare items lines) failed
said-all bare items old was failed lines printed =
    let T : List ToldLine → Type 0 = λ l. Says old was (told_text bare items l) failed in
    subst T (printed.all refl) printed.said

prints-step : (bare : Bool) (items : List PluginItem) (old was now : DeskView) (wanted failed wants fails : Bool) (lines row : List ToldLine)
    → Printed bare items old was wanted failed lines → PrintsOn wanted failed wants fails was now (told_text bare items row)
    → Printed bare items old now wants fails (lines ++ row)
prints-step bare items old was now true failed wants fails lines row printed on =
    stays bare items old was now failed fails wants lines row printed.first printed.begins printed.said on.0 on.1 on.2
prints-step bare items old was now false true wants fails lines row printed on =
    let F : Bool → Type 0 = λ b. Says old was (told_text bare items lines ++ told_text bare items row) b in
    let N : DeskView → Type 0 = λ d. Says old d (told_text bare items lines ++ told_text bare items row) fails in
    whole-row bare items old now wants fails lines row
    (subst N (sym on.2) (subst F (sym on.1) (stays_failed old was (told_text bare items lines) (told_text bare items row) (said-all bare items old was true lines printed))))
prints-step bare items old was now false false wants fails lines row printed (inl out) =
    stays bare items old was now false fails wants lines row printed.first printed.begins printed.said out.0 out.1 out.2
prints-step bare items old was now false false wants fails lines row printed (inr said) =
    whole-row bare items old now wants fails lines row
    (one_more old was now (told_text bare items lines) (told_text bare items row) fails (said-all bare items old was false lines printed) said.1)

-- ---- all rounds

module _ {D : Type 0} (seen : D → DeskView) (bare : Bool) (items : List PluginItem) (old : Printing × D) (wants_not : old.0.wants ≡ false) (failed_not : old.0.failed ≡ false) where
  abbrev texts : List ToldLine → List ℕ
  texts lines = told_text bare items lines

  abbrev PrintedSince : Printing × D → List (List ToldLine) → Type 0
  PrintedSince now rows = Printed bare items (seen old.1) (seen now.1) now.0.wants now.0.failed (lines_of_rows rows)

  nothing-yet : PrintedSince old []
  nothing-yet =
      let F : Bool → Type 0 = λ b. Says (seen old.1) (seen old.1) [] b in
      record { first = []; begins = ([], refl); said = subst F (sym failed_not) (sym (reports-nil (seen old.1))); all = λ is. refl }

  at-first : (now : Printing × D) → now ≡ old → PrintedSince now []
  at-first now e =
      let M : Printing × D → Type 0 = λ n. PrintedSince n [] in
      subst M (sym e) nothing-yet

  since-first : (now : Printing × D) (rows : List (List ToldLine)) → HeardRows (PrintsLines seen texts) old now rows → PrintedSince now rows
  since-first now [] heard = at-first now heard
  since-first now (row ∷ rows) heard =
      prints-step bare items (seen old.1) (seen heard.0.1) (seen now.1) heard.0.0.wants heard.0.0.failed now.0.wants now.0.failed (lines_of_rows rows) row
      (since-first heard.0 rows heard.1) heard.3

  -- what was printed of a run whose lines below `w` were told
  pub has-printed : (chain : Chain) (w cut : ℕ) (now : Printing × D) (rows : List (List ToldLine)) (told whole : Bool) → HeardRows (PrintsLines seen texts) old now rows
      → map (shown (name_at items)) (lines_of_rows rows) ≡ lines_below chain w → w ≤ cut → (told ≡ true → w ≡ cut) → whole ≡ (told && not now.0.wants)
      → HasPrinted bare (lines_below chain cut) (seen old.1) (seen now.1) now.0.failed whole
  has-printed chain w cut now rows told whole heard lines within all is =
      let p = since-first now rows heard in
      let show : List ToldLine → List LiveLine = map (shown (name_at items)) in
      let longer = grows chain w cut within in
      record {
        first = show p.first;
        begins = (
          show p.begins.0 ++ longer.0,
          longer.1 ∙ (ap (λ (l : List LiveLine). l ++ longer.0) (sym lines ∙ (ap show p.begins.1 ∙ map-append (shown (name_at items)) p.first p.begins.0))
              ∙ append_assoc (show p.first) (show p.begins.0) longer.0),
        );
        said = p.said;
        all = λ yes.
            let both = both-true told now.0.wants (sym is ∙ yes) in
            ap show (p.all both.1) ∙ (lines ∙ ap (λ (m : ℕ). lines_below chain m) (all both.0));
      }
    where
      both-true : (a b : Bool) → (a && not b) ≡ true → (a ≡ true) × (b ≡ false)
      both-true true false e = (refl, refl)
      both-true true true e = absurd cc
      both-true false b e = absurd cc
