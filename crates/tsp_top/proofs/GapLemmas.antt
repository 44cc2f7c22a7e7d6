-- What is said of what is left out of a file: the same of the gaps that were kept and of all gaps of the file.
use Rattle.std.proofs.Common.{◌≡◌, ◌⊎◌, inl, inr, ℕ, zero, suc, ◌*◌, ◌/◌, ◌≤◌, ◌++◌, List, [], ◌∷◌, Bool, true, false, if◌then◌else◌, Option, None, Some, refl, ap, sym, ◌∙◌, subst, arith, append-nil}
use Rattle.std.specs.Prelude.{codes, fold}
use Rattle.std.specs.List.{flat_map, AllByRecursion}
use Rattle.std.proofs.lemmas.Bool.{le-ltb}
use Rattle.std.proofs.lemmas.Grind.{flat_map-append, fold-append}
use Rattle.std.proofs.lemmas.Nat.{le-div}
use Rattle.std.proofs.Math.Nat.{mul-div-le}
use Rattle.chain_model.specs.declared.input_end.InputEnd.TheVariants as ending
use Rattle.chain_model.specs.declared.cause.Cause.{Cause}
use Rattle.chain_model.specs.declared.cause.Cause.TheVariants.{Input, Joint, Until, Stop, Refuse, WriteFault, NoMemory}
use Rattle.chain_model.specs.Stuffed.{Stuffing}
use Rattle.packet_forms.specs.declared.forms.Form.{Form}
use Rattle.search_source.specs.Coming.{found_in}
use Rattle.search_source.specs.Gaps.{no_gaps, with_gap, with_end}
use Rattle.search_source.specs.Kept.{GapsTo}
use Rattle.search_source.specs.declared.gap.Gap.{Gap}
use Rattle.search_source.specs.declared.gap_counts.GapCounts.{GapCounts}
use Rattle.search_source.specs.declared.file_source.KeptGaps.{KeptGaps}
use Rattle.tsp_top.specs.LeftOut.{LeftOut, KnowsAll, counts_below, counts_text, gap_text, has_gaps, input_faulty, is_at_end, is_below, kept_out, left_behind, position_of, with_below}
use Rattle.tsp_top.specs.PlannedChain.{left_out_of}
use Rattle.tsp_top.specs.Printed.{end_printed, gap_printed, input_printed, printed_line}

-- the same is said of the gaps that were kept and of what is left out, where all that counts was kept
abbrev pub SameSaid : Stuffing → Option KeptGaps → Option LeftOut → Type 0
SameSaid stuffing kept left_out = (bare : Bool) (m : ℕ) (why : Cause) → KnowsAll stuffing kept m why
    → (input_printed bare stuffing (kept_out kept) m why ≡ input_printed bare stuffing left_out m why)
    × (input_faulty stuffing (kept_out kept) m why ≡ input_faulty stuffing left_out m why)

-- ---- positions

pub times-more : (n a b : ℕ) → a ≤ b → n * a ≤ n * b
times-more zero a b few = omega arith
times-more (suc n) a b few = let rest : n * a ≤ n * b = times-more n a b few in omega arith

pub groups-more : (k a b : ℕ) → 1 ≤ k → a ≤ b → a / k ≤ b / k
groups-more k a b some few =
    let within : k * (a / k) ≤ a = mul-div-le a k in
    let swapped : (a / k) * k ≡ k * (a / k) = omega arith in
    le-div (a / k) b k some (omega arith)

pub position-more : (stuffing : Stuffing) (a b : ℕ) → 1 ≤ stuffing.every → a ≤ b → position_of stuffing a ≤ position_of stuffing b
position-more stuffing a b some few =
    let nulls : stuffing.null * (a / stuffing.every) ≤ stuffing.null * (b / stuffing.every) =
    times-more stuffing.null (a / stuffing.every) (b / stuffing.every) (groups-more stuffing.every a b some few) in
    omega arith

-- ---- gaps behind the cut

all-behind : (stuffing : Stuffing) (m number : ℕ) (gaps : List Gap) → 1 ≤ stuffing.every → m ≤ position_of stuffing number
    → AllByRecursion (λ (gap : Gap). number ≤ gap.before) gaps → AllByRecursion (λ (gap : Gap). is_below stuffing m gap.before ≡ false) gaps
all-behind stuffing m number [] some reach all = tt
all-behind stuffing m number (gap ∷ gaps) some reach all =
    let more : position_of stuffing number ≤ position_of stuffing gap.before = position-more stuffing number gap.before some all.0 in (
      le-ltb (position_of stuffing gap.before) m (omega arith),
      all-behind stuffing m number gaps some reach all.1,
    )

none-printed : (bare : Bool) (stuffing : Stuffing) (m : ℕ) (form : Form) (gaps : List Gap) → AllByRecursion (λ (gap : Gap). is_below stuffing m gap.before ≡ false) gaps
    → flat_map (gap_printed bare stuffing m form) gaps ≡ []
none-printed bare stuffing m form [] all = refl
none-printed bare stuffing m form (gap ∷ gaps) all =
    ap (λ (b : Bool). (if b then printed_line bare 0 (codes "file") (gap_text form gap) else []) ++ flat_map (gap_printed bare stuffing m form) gaps) all.0
    ∙ none-printed bare stuffing m form gaps all.1

pub none-counted : (stuffing : Stuffing) (m : ℕ) (form : Form) (counts : GapCounts) (gaps : List Gap) → AllByRecursion (λ (gap : Gap). is_below stuffing m gap.before ≡ false) gaps
    → fold (with_below stuffing m form) counts gaps ≡ counts
none-counted stuffing m form counts [] all = refl
none-counted stuffing m form counts (gap ∷ gaps) all =
    ap (λ (b : Bool). fold (with_below stuffing m form) (if b then with_gap form counts gap else counts) gaps) all.0
    ∙ none-counted stuffing m form counts gaps all.1

-- ---- a file whose gaps are known

pub same-left : (why : Cause) (one other : ℕ) → (is_at_end why ≡ true → one ≡ other) → left_behind why one ≡ left_behind why other
same-left (Input (ending.End left)) one other same = same refl
same-left (Input (ending.Sync packet)) one other same = refl
same-left (Input ending.ReadFault) one other same = refl
same-left (Input ending.TooLong) one other same = refl
same-left Joint one other same = refl
same-left (Until j) one other same = refl
same-left (Stop j) one other same = refl
same-left (Refuse j reason) one other same = refl
same-left WriteFault one other same = refl
same-left (NoMemory k) one other same = refl

later-behind : (stuffing : Stuffing) (m : ℕ) (form : Form) (file : List ℕ) (kept : KeptGaps) → 1 ≤ stuffing.every → (kept.over ≡ true) ⊎ (m ≤ position_of stuffing kept.number)
    → (known : GapsTo form file kept.gaps.items kept.number kept.behind kept.over) → AllByRecursion (λ (gap : Gap). is_below stuffing m gap.before ≡ false) known.later
later-behind stuffing m form file kept some (inl over) known =
    subst (λ (gaps : List Gap). AllByRecursion (λ (gap : Gap). is_below stuffing m gap.before ≡ false) gaps) (sym (known.over_is over).0) tt
later-behind stuffing m form file kept some (inr reach) known = all-behind stuffing m kept.number known.later some reach known.not_begun

pub same-said : (stuffing : Stuffing) (form : Form) (file : List ℕ) (kept : KeptGaps) → 1 ≤ stuffing.every → kept.form ≡ form
    → (kept.lost ≡ false → GapsTo form file kept.gaps.items kept.number kept.behind kept.over) → SameSaid stuffing (Some kept) (left_out_of true form file)
same-said stuffing form file kept some form_is knows bare m why all =
    let known = knows all.0 in
    let own : List Gap = kept.gaps.items in
    let behind_cut = later-behind stuffing m form file kept some all.1 known in
    let texts : flat_map (gap_printed bare stuffing m form) (found_in form file).gaps ≡ flat_map (gap_printed bare stuffing m form) own =
    ap (flat_map (gap_printed bare stuffing m form)) known.all_are
    ∙ flat_map-append (gap_printed bare stuffing m form) own known.later
    ∙ ap (λ (l : List ℕ). flat_map (gap_printed bare stuffing m form) own ++ l) (none-printed bare stuffing m form known.later behind_cut)
    ∙ append-nil (flat_map (gap_printed bare stuffing m form) own) in
    let counts : counts_below stuffing m form (found_in form file).gaps ≡ counts_below stuffing m form own =
    ap (fold (with_below stuffing m form) no_gaps) known.all_are
    ∙ fold-append (with_below stuffing m form) no_gaps own known.later
    ∙ none-counted stuffing m form (counts_below stuffing m form own) known.later behind_cut in
    let left : left_behind why (found_in form file).behind ≡ left_behind why kept.behind =
    same-left why (found_in form file).behind kept.behind (λ at_end. (known.over_is (all.2 at_end)).1) in
    let both : with_end (counts_below stuffing m form (found_in form file).gaps) (left_behind why (found_in form file).behind) ≡ with_end (counts_below stuffing m form own) (left_behind why kept.behind) =
    ap (λ (c : GapCounts). with_end c (left_behind why (found_in form file).behind)) counts ∙ ap (with_end (counts_below stuffing m form own)) left in
    let line : GapCounts → List ℕ = λ c. printed_line bare 0 (codes "file") (counts_text c) in (
      ap (λ (f : Form). flat_map (gap_printed bare stuffing m f) own ++ (end_printed bare (left_behind why kept.behind) ++ line (with_end (counts_below stuffing m f own) (left_behind why kept.behind)))) form_is
          ∙ sym (ap (λ (l : List ℕ). l ++ (end_printed bare (left_behind why (found_in form file).behind) ++ line (with_end (counts_below stuffing m form (found_in form file).gaps) (left_behind why (found_in form file).behind)))) texts
          ∙ ap (λ (n : ℕ). flat_map (gap_printed bare stuffing m form) own ++ (end_printed bare n ++ line (with_end (counts_below stuffing m form (found_in form file).gaps) (left_behind why (found_in form file).behind)))) left
          ∙ ap (λ (c : GapCounts). flat_map (gap_printed bare stuffing m form) own ++ (end_printed bare (left_behind why kept.behind) ++ line c)) both),
      ap (λ (f : Form). has_gaps (with_end (counts_below stuffing m f own) (left_behind why kept.behind))) form_is ∙ sym (ap has_gaps both),
    )

-- of a file whose packets are at their places nothing is said
pub nothing-said : (stuffing : Stuffing) (kept : Option KeptGaps) → kept ≡ None → SameSaid stuffing kept None
nothing-said stuffing kept none =
    subst (λ (k : Option KeptGaps). SameSaid stuffing k None) (sym none) (λ bare m why all. (refl, refl))
