-- The text of a round, line by line.
use Rattle.std.proofs.Common.{◌≡◌, ◌+◌, ◌<◌, ◌≤◌, ℕ, length, take, drop, subst, List, [], ◌∷◌, ◌++◌, Bool, true, false, map, filter, cond, nat_lt, if◌then◌else◌, refl, ap, sym, ◌∙◌, append_assoc, append-nil, None, Some}
use Rattle.std.specs.Prelude.{fold, get_or, slice_get}
use Rattle.std.specs.Option.{option_map}
use Rattle.std.proofs.lemmas.Grind.{fold-append}
use Rattle.std.proofs.lemmas.List.{drop_all, drop_more, map-append, take_all, take_more}
use Rattle.std.proofs.lemmas.List.Elements.{filter-append}
use Rattle.chain_live.specs.LiveReports.{LiveLine}
use Rattle.chain_model.specs.Stuffed.{Stuffing}
use Rattle.chain_rounds.specs.Merged.{into, merged}
use Rattle.chain_rounds.specs.Round.{place}
use Rattle.chain_rounds.specs.Told.{place_of, shown}
use Rattle.chain_rounds.specs.declared.told_line.ToldLine.{ToldLine}
use Rattle.packet_forms.specs.declared.forms.Form.{Form}
use Rattle.plugin_settings.specs.declared.plugin_item.PluginItem.{PluginItem}
use Rattle.search_source.specs.Gaps.{with_gap}
use Rattle.search_source.specs.declared.gap.Gap.{Gap}
use Rattle.search_source.specs.declared.gap_counts.GapCounts.{GapCounts}
use Rattle.tsp_top.specs.InputRounds.{gap_rows, is_between, round_text}
use Rattle.tsp_top.specs.Printed.{gap_line, live_line, live_text}
use Rattle.tsp_top.specs.Printing.{name_at, told_text}

module _ (bare : Bool) (items : List PluginItem) where
  -- a line of a plugin comes first where it is at a position before that of the input's line
  pub text-next : (line : LiveLine) (later : List LiveLine) (told : ToldLine) (rest : List ToldLine) → nat_lt told.line.at line.at ≡ true
      → round_text bare items (line ∷ later) (told ∷ rest) ≡ live_line bare (shown (name_at items) told) ++ round_text bare items (line ∷ later) rest
  text-next line later told rest is =
      let one : LiveLine = shown (name_at items) told in
      let ys : List LiveLine = map (shown (name_at items)) rest in
      ap (λ (b : Bool). live_text bare (if b then one ∷ into place line (merged place later) ys else line ∷ merged place later (one ∷ ys))) is

  -- else the input's line does
  pub text-here : (line : LiveLine) (later : List LiveLine) (told : ToldLine) (rest : List ToldLine) → nat_lt told.line.at line.at ≡ false
      → round_text bare items (line ∷ later) (told ∷ rest) ≡ live_line bare line ++ round_text bare items later (told ∷ rest)
  text-here line later told rest is =
      let one : LiveLine = shown (name_at items) told in
      let ys : List LiveLine = map (shown (name_at items)) rest in
      ap (λ (b : Bool). live_text bare (if b then one ∷ into place line (merged place later) ys else line ∷ merged place later (one ∷ ys))) is

  pub text-last : (line : LiveLine) (later : List LiveLine) → round_text bare items (line ∷ later) [] ≡ live_line bare line ++ round_text bare items later []
  text-last line later = refl

-- the line of a gap that is in the round, or none
pub rows-with : (stuffing : Stuffing) (form : Form) (from to : ℕ) (gap : Gap) (gaps : List Gap) → is_between stuffing from to gap ≡ true
    → gap_rows stuffing form from to (gap ∷ gaps) ≡ gap_line stuffing form gap ∷ gap_rows stuffing form from to gaps
rows-with stuffing form from to gap gaps is =
    ap (λ (b : Bool). map (gap_line stuffing form) (cond b (gap ∷ filter (is_between stuffing from to) gaps) (filter (is_between stuffing from to) gaps))) is

pub rows-without : (stuffing : Stuffing) (form : Form) (from to : ℕ) (gap : Gap) (gaps : List Gap) → is_between stuffing from to gap ≡ false
    → gap_rows stuffing form from to (gap ∷ gaps) ≡ gap_rows stuffing form from to gaps
rows-without stuffing form from to gap gaps is =
    ap (λ (b : Bool). map (gap_line stuffing form) (cond b (gap ∷ filter (is_between stuffing from to) gaps) (filter (is_between stuffing from to) gaps))) is

-- ---- a step of the text: what stands written, and all that is still to be written

module _ (bare : Bool) (items : List PluginItem) (line : LiveLine) (later : List LiveLine) where
  -- a line of a plugin was written that comes before the input's
  pub before-step : (first text : List ℕ) (told : ToldLine) (lines rest : List ToldLine) → lines ≡ told ∷ rest → nat_lt told.line.at line.at ≡ true
      → text ≡ first ++ live_line bare (shown (name_at items) told)
      → text ++ round_text bare items (line ∷ later) rest ≡ first ++ round_text bare items (line ∷ later) lines
  before-step first text told lines rest are is written =
      ap (λ (t : List ℕ). t ++ round_text bare items (line ∷ later) rest) written
      ∙ append_assoc first (live_line bare (shown (name_at items) told)) (round_text bare items (line ∷ later) rest)
      ∙ ap (λ (t : List ℕ). first ++ t) (sym (text-next bare items line later told rest is) ∙ ap (round_text bare items (line ∷ later)) (sym are))

  one-line : live_line bare line ≡ round_text bare items (line ∷ []) []
  one-line = sym (append-nil (live_line bare line))

  -- no such line is left: the next one is at the input's position or behind it, or there is none
  pub before-here : (text : List ℕ) (told : ToldLine) (lines rest : List ToldLine) → lines ≡ told ∷ rest → nat_lt told.line.at line.at ≡ false
      → text ++ round_text bare items (line ∷ []) [] ++ round_text bare items later lines ≡ text ++ round_text bare items (line ∷ later) lines
  before-here text told lines rest are is =
      append_assoc text (round_text bare items (line ∷ []) []) (round_text bare items later lines)
      ∙ ap (λ (t : List ℕ). text ++ t)
      (ap (λ (t : List ℕ). t ++ round_text bare items later lines) (sym one-line)
      ∙ ap (λ (l : List ToldLine). live_line bare line ++ round_text bare items later l) are
      ∙ sym (text-here bare items line later told rest is)
      ∙ ap (round_text bare items (line ∷ later)) (sym are))

  pub before-none : (text : List ℕ) (lines : List ToldLine) → lines ≡ []
      → text ++ round_text bare items (line ∷ []) [] ++ round_text bare items later lines ≡ text ++ round_text bare items (line ∷ later) lines
  before-none text lines none =
      append_assoc text (round_text bare items (line ∷ []) []) (round_text bare items later lines)
      ∙ ap (λ (t : List ℕ). text ++ t)
      (ap (λ (t : List ℕ). t ++ round_text bare items later lines) (sym one-line)
      ∙ ap (λ (l : List ToldLine). live_line bare line ++ round_text bare items later l) none
      ∙ ap (round_text bare items (line ∷ later)) (sym none))

module _ (bare : Bool) (items : List PluginItem) (stuffing : Stuffing) (form : Form) (from to : ℕ) (gap : Gap) (later : List LiveLine) where
  -- the line of a gap was written behind the lines before it
  pub gap-said : (first text now : List ℕ) (lines rest : List ToldLine) → is_between stuffing from to gap ≡ true
      → text ++ round_text bare items (gap_line stuffing form gap ∷ []) [] ++ round_text bare items later rest ≡ first ++ round_text bare items (gap_line stuffing form gap ∷ later) lines
      → now ≡ text ++ live_line bare (gap_line stuffing form gap)
      → now ++ round_text bare items later rest ≡ first ++ round_text bare items (gap_rows stuffing form from to (gap ∷ []) ++ later) lines
  gap-said first text now lines rest is before written =
      let line : LiveLine = gap_line stuffing form gap in
      ap (λ (t : List ℕ). t ++ round_text bare items later rest) (written ∙ ap (λ (t : List ℕ). text ++ t) (sym (append-nil (live_line bare line))))
      ∙ before
      ∙ ap (λ (l : List LiveLine). first ++ round_text bare items (l ++ later) lines) (sym (rows-with stuffing form from to gap [] is))

  -- or it is not in the round
  pub gap-passed : (first : List ℕ) (lines : List ToldLine) → is_between stuffing from to gap ≡ false
      → first ++ round_text bare items later lines ≡ first ++ round_text bare items (gap_rows stuffing form from to (gap ∷ []) ++ later) lines
  gap-passed first lines is = ap (λ (l : List LiveLine). first ++ round_text bare items (l ++ later) lines) (sym (rows-without stuffing form from to gap [] is))

-- the count of one gap
pub one-counted : (stuffing : Stuffing) (form : Form) (from to : ℕ) (gap : Gap) (counts : GapCounts) → is_between stuffing from to gap ≡ true
    → with_gap form counts gap ≡ fold (with_gap form) counts (filter (is_between stuffing from to) (gap ∷ []))
one-counted stuffing form from to gap counts is =
    sym (ap (λ (b : Bool). fold (with_gap form) counts (cond b (gap ∷ []) [])) is)

pub none-more : (stuffing : Stuffing) (form : Form) (from to : ℕ) (gap : Gap) (counts : GapCounts) → is_between stuffing from to gap ≡ false
    → counts ≡ fold (with_gap form) counts (filter (is_between stuffing from to) (gap ∷ []))
none-more stuffing form from to gap counts is =
    sym (ap (λ (b : Bool). fold (with_gap form) counts (cond b (gap ∷ []) [])) is)

-- ---- the next line that waits

pub record IsNext (lines : List ToldLine) (at : ℕ) : Type 0 where
  pub told : ToldLine
  pub rest : List ToldLine
  pub are : lines ≡ told ∷ rest
  pub at_is : told.line.at ≡ at

pub next-is : (lines : List ToldLine) (at : ℕ) → Some at ≡ option_map place_of (slice_get lines 0) → IsNext lines at
next-is [] at is = absurd cc
next-is (told ∷ rest) at is = record { told = told; rest = rest; are = refl; at_is = let e : at ≡ told.line.at = cc in sym e }

pub none-waits : (lines : List ToldLine) → None ≡ option_map place_of (slice_get lines 0) → lines ≡ []
none-waits [] is = refl
none-waits (told ∷ rest) is = absurd cc

-- ---- several gaps

pub rows-more : (stuffing : Stuffing) (form : Form) (from to : ℕ) (gap : Gap) (gaps : List Gap)
    → gap_rows stuffing form from to (gap ∷ gaps) ≡ gap_rows stuffing form from to (gap ∷ []) ++ gap_rows stuffing form from to gaps
rows-more stuffing form from to gap gaps = by (is_between stuffing from to gap)
  where
    by : (b : Bool) → map (gap_line stuffing form) (cond b (gap ∷ filter (is_between stuffing from to) gaps) (filter (is_between stuffing from to) gaps))
        ≡ map (gap_line stuffing form) (cond b (gap ∷ []) []) ++ map (gap_line stuffing form) (filter (is_between stuffing from to) gaps)
    by true = refl
    by false = refl

rows-both : (stuffing : Stuffing) (form : Form) (from to : ℕ) (xs ys : List Gap)
    → gap_rows stuffing form from to (xs ++ ys) ≡ gap_rows stuffing form from to xs ++ gap_rows stuffing form from to ys
rows-both stuffing form from to xs ys =
    ap (map (gap_line stuffing form)) (filter-append (is_between stuffing from to) xs ys)
    ∙ map-append (gap_line stuffing form) (filter (is_between stuffing from to) xs) (filter (is_between stuffing from to) ys)

pub counts-both : (stuffing : Stuffing) (form : Form) (from to : ℕ) (counts : GapCounts) (xs ys : List Gap)
    → fold (with_gap form) (fold (with_gap form) counts (filter (is_between stuffing from to) xs)) (filter (is_between stuffing from to) ys)
    ≡ fold (with_gap form) counts (filter (is_between stuffing from to) (xs ++ ys))
counts-both stuffing form from to counts xs ys =
    sym (ap (fold (with_gap form) counts) (filter-append (is_between stuffing from to) xs ys)
    ∙ fold-append (with_gap form) counts (filter (is_between stuffing from to) xs) (filter (is_between stuffing from to) ys))

module _ (bare : Bool) (items : List PluginItem) (stuffing : Stuffing) (form : Form) (from to : ℕ) where
  -- the gaps but the last one were written, and then that one
  pub last-said : (first text now : List ℕ) (lines rest left : List ToldLine) (gaps : List Gap) (gap : Gap)
      → text ++ round_text bare items (gap_rows stuffing form from to (gap ∷ []) ++ []) rest
      ≡ first ++ round_text bare items (gap_rows stuffing form from to gaps ++ (gap_rows stuffing form from to (gap ∷ []) ++ [])) lines
      → now ++ round_text bare items [] left ≡ text ++ round_text bare items (gap_rows stuffing form from to (gap ∷ []) ++ []) rest
      → now ++ round_text bare items [] left ≡ first ++ round_text bare items (gap_rows stuffing form from to (gaps ++ (gap ∷ []))) lines
  last-said first text now lines rest left gaps gap before last =
      last ∙ before
      ∙ ap (λ (l : List LiveLine). first ++ round_text bare items l lines)
      (ap (λ (l : List LiveLine). gap_rows stuffing form from to gaps ++ l) (append-nil (gap_rows stuffing form from to (gap ∷ [])))
      ∙ sym (rows-both stuffing form from to gaps (gap ∷ [])))

  -- or there is no last one
  pub all-said : (first text : List ℕ) (lines rest : List ToldLine) (gaps : List Gap)
      → text ++ round_text bare items [] rest ≡ first ++ round_text bare items (gap_rows stuffing form from to gaps ++ []) lines
      → text ++ round_text bare items [] rest ≡ first ++ round_text bare items (gap_rows stuffing form from to (gaps ++ [])) lines
  all-said first text lines rest gaps before =
      before
      ∙ ap (λ (l : List LiveLine). first ++ round_text bare items l lines)
      (append-nil (gap_rows stuffing form from to gaps) ∙ ap (gap_rows stuffing form from to) (sym (append-nil gaps)))

-- ---- the loop over the lines before that of a gap

next-at : (lines rest : List ToldLine) (told : ToldLine) (at : ℕ) → Some at ≡ option_map place_of (slice_get lines 0) → lines ≡ told ∷ rest → at ≡ told.line.at
next-at lines rest told at is are =
    let same : Some at ≡ Some told.line.at = is ∙ ap (λ (l : List ToldLine). option_map place_of (slice_get l 0)) are in
    cc

module _ (bare : Bool) (items : List PluginItem) (line : LiveLine) (later : List LiveLine) (at spot : ℕ) (after : Bool) (line_at : line.at ≡ spot) (after_is : after ≡ nat_lt at spot) where
  -- a line comes before the gap's and was written
  pub step-before : (first text : List ℕ) (told : ToldLine) (lines rest : List ToldLine) → after ≡ true → Some at ≡ option_map place_of (slice_get lines 0) → lines ≡ told ∷ rest
      → text ≡ first ++ live_line bare (shown (name_at items) told)
      → text ++ round_text bare items (line ∷ later) rest ≡ first ++ round_text bare items (line ∷ later) lines
  step-before first text told lines rest is waits are written =
      before-step bare items line later first text told lines rest are
      (ap (λ (n : ℕ). nat_lt n line.at) (sym (next-at lines rest told at waits are)) ∙ ap (nat_lt at) line_at ∙ sym after_is ∙ is) written

  -- the next one does not
  pub stop-before : (text : List ℕ) (lines : List ToldLine) → after ≡ false → Some at ≡ option_map place_of (slice_get lines 0)
      → text ++ round_text bare items (line ∷ []) [] ++ round_text bare items later lines ≡ text ++ round_text bare items (line ∷ later) lines
  stop-before text lines is waits =
      let next = next-is lines at waits in
      before-here bare items line later text next.told lines next.rest next.are
      (ap (λ (n : ℕ). nat_lt n line.at) next.at_is ∙ ap (nat_lt at) line_at ∙ sym after_is ∙ is)

-- ---- the loop over gaps

module _ (bare b : Bool) (items its : List PluginItem) (stuffing own : Stuffing) (form : Form) (from to : ℕ) (same_bare : b ≡ bare) (same_items : its ≡ items) (same_stuffing : own ≡ stuffing) where
  -- what one gap's step says of a writer that is as it was at first
  one-said : (text now : List ℕ) (lines rest : List ToldLine) (gap : Gap)
      → ((later : List LiveLine) → now ++ round_text b its later rest ≡ text ++ round_text b its (gap_rows own form from to (gap ∷ []) ++ later) lines)
      → (later : List LiveLine) → now ++ round_text bare items later rest ≡ text ++ round_text bare items (gap_rows stuffing form from to (gap ∷ []) ++ later) lines
  one-said text now lines rest gap said later =
      subst (λ (s : Stuffing). now ++ round_text bare items later rest ≡ text ++ round_text bare items (gap_rows s form from to (gap ∷ []) ++ later) lines) same_stuffing
      (subst (λ (i : List PluginItem). now ++ round_text bare i later rest ≡ text ++ round_text bare i (gap_rows own form from to (gap ∷ []) ++ later) lines) same_items
      (subst (λ (x : Bool). now ++ round_text x its later rest ≡ text ++ round_text x its (gap_rows own form from to (gap ∷ []) ++ later) lines) same_bare (said later)))

  pub more-said : (gaps : List Gap) (i : ℕ) (gap d : Gap) (whole text now : List ℕ) (lines rest : List ToldLine) (later : List LiveLine) → i < length gaps → gap ≡ get_or gaps i d
      → ((later : List LiveLine) → now ++ round_text b its later rest ≡ text ++ round_text b its (gap_rows own form from to (gap ∷ []) ++ later) lines)
      → text ++ round_text bare items (gap_rows stuffing form from to (drop i gaps) ++ later) lines ≡ whole
      → now ++ round_text bare items (gap_rows stuffing form from to (drop (i + 1) gaps) ++ later) rest ≡ whole
  more-said gaps i gap d whole text now lines rest later inside at said before =
      let left : List Gap = drop (i + 1) gaps in
      let step : drop i gaps ≡ gap ∷ left = drop_more gaps i d inside ∙ ap (λ (g : Gap). g ∷ left) (sym at) in
      one-said text now lines rest gap said (gap_rows stuffing form from to left ++ later)
      ∙ ap (λ (l : List LiveLine). text ++ round_text bare items l lines)
      (sym (ap (λ (g : List Gap). gap_rows stuffing form from to g ++ later) step
      ∙ ap (λ (l : List LiveLine). l ++ later) (rows-more stuffing form from to gap left)
      ∙ append_assoc (gap_rows stuffing form from to (gap ∷ [])) (gap_rows stuffing form from to left) later))
      ∙ before

  pub more-counted : (gaps : List Gap) (i : ℕ) (gap d : Gap) (first counts now : GapCounts) → i < length gaps → gap ≡ get_or gaps i d
      → counts ≡ fold (with_gap form) first (filter (is_between stuffing from to) (take i gaps))
      → now ≡ fold (with_gap form) counts (filter (is_between own from to) (gap ∷ []))
      → now ≡ fold (with_gap form) first (filter (is_between stuffing from to) (take (i + 1) gaps))
  more-counted gaps i gap d first counts now inside at before one =
      let step : take (i + 1) gaps ≡ take i gaps ++ gap ∷ [] = take_more gaps i d inside ∙ ap (λ (g : Gap). take i gaps ++ g ∷ []) (sym at) in
      one
      ∙ ap (λ (s : Stuffing). fold (with_gap form) counts (filter (is_between s from to) (gap ∷ []))) same_stuffing
      ∙ ap (λ (c : GapCounts). fold (with_gap form) c (filter (is_between stuffing from to) (gap ∷ []))) before
      ∙ counts-both stuffing form from to first (take i gaps) (gap ∷ [])
      ∙ ap (λ (l : List Gap). fold (with_gap form) first (filter (is_between stuffing from to) l)) (sym step)

  -- the gap that comes last
  pub noted-said : (first text now : List ℕ) (lines rest left : List ToldLine) (gaps : List Gap) (gap : Gap)
      → ((later : List LiveLine) → text ++ round_text bare items later rest ≡ first ++ round_text bare items (gap_rows stuffing form from to gaps ++ later) lines)
      → ((later : List LiveLine) → now ++ round_text b its later left ≡ text ++ round_text b its (gap_rows own form from to (gap ∷ []) ++ later) rest)
      → now ++ round_text bare items [] left ≡ first ++ round_text bare items (gap_rows stuffing form from to (gaps ++ (gap ∷ []))) lines
  noted-said first text now lines rest left gaps gap before last =
      last-said bare items stuffing form from to first text now lines rest left gaps gap (before (gap_rows stuffing form from to (gap ∷ []) ++ []))
      (one-said text now rest left gap last [])

  pub noted-counted : (first counts now : GapCounts) (gaps : List Gap) (gap : Gap)
      → counts ≡ fold (with_gap form) first (filter (is_between stuffing from to) gaps)
      → now ≡ fold (with_gap form) counts (filter (is_between own from to) (gap ∷ []))
      → now ≡ fold (with_gap form) first (filter (is_between stuffing from to) (gaps ++ (gap ∷ [])))
  noted-counted first counts now gaps gap before one =
      one
      ∙ ap (λ (s : Stuffing). fold (with_gap form) counts (filter (is_between s from to) (gap ∷ []))) same_stuffing
      ∙ ap (λ (c : GapCounts). fold (with_gap form) c (filter (is_between stuffing from to) (gap ∷ []))) before
      ∙ counts-both stuffing form from to first gaps (gap ∷ [])

-- behind the last gap of the loop
pub all-gaps : (bare : Bool) (items : List PluginItem) (stuffing : Stuffing) (form : Form) (from to : ℕ) (gaps : List Gap) (i : ℕ) (whole text : List ℕ) (lines : List ToldLine) (later : List LiveLine) → length gaps ≤ i
    → text ++ round_text bare items (gap_rows stuffing form from to (drop i gaps) ++ later) lines ≡ whole → text ++ round_text bare items later lines ≡ whole
all-gaps bare items stuffing form from to gaps i whole text lines later over before =
    ap (λ (l : List Gap). text ++ round_text bare items (gap_rows stuffing form from to l ++ later) lines) (sym (drop_all i gaps over)) ∙ before

pub all-gaps-counted : (stuffing : Stuffing) (form : Form) (from to : ℕ) (gaps : List Gap) (i : ℕ) (first counts : GapCounts) → length gaps ≤ i
    → counts ≡ fold (with_gap form) first (filter (is_between stuffing from to) (take i gaps)) → counts ≡ fold (with_gap form) first (filter (is_between stuffing from to) gaps)
all-gaps-counted stuffing form from to gaps i first counts over before = before ∙ ap (λ (l : List Gap). fold (with_gap form) first (filter (is_between stuffing from to) l)) (take_all i gaps over)

-- ---- the lines that wait behind the input's

pub round-said : (bare b : Bool) (items its : List PluginItem) (first text now : List ℕ) (rows : List LiveLine) (lines rest : List ToldLine) → b ≡ bare → its ≡ items
    → text ++ round_text bare items [] rest ≡ first ++ round_text bare items rows lines → now ≡ text ++ told_text b its rest → now ≡ first ++ round_text bare items rows lines
round-said bare b items its first text now rows lines rest same_bare same_items before written =
    written ∙ ap (λ (x : Bool). text ++ told_text x its rest) same_bare ∙ ap (λ (i : List PluginItem). text ++ told_text bare i rest) same_items ∙ before
