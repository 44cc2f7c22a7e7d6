-- The laws of a report that is printed while the run goes.
use Rattle.std.proofs.Common.{◌≡◌, ◌≢◌, ℕ, zero, suc, ◌+◌, ◌-◌, ◌<◌, ◌≤◌, List, [], ◌∷◌, ◌++◌, length, map, take, drop, filter, flat_map, Bool, cond, refl, ap, sym, ◌∙◌, arith, append_assoc, append-nil, eq-eqb, lt-ltb, le-ltb}
use Rattle.std.proofs.lemmas.Bool.{ne_eqb}
use Rattle.std.proofs.lemmas.Grind.{flat_map-append}
use Rattle.std.proofs.lemmas.List.{map-append}
use Rattle.std.proofs.lemmas.List.Elements.{filter-append}
use Rattle.ts_packet.specs.declared.cell.Cell.{Cell}
use Rattle.ts_packet.specs.Cells.{Live, Dropped}
use Rattle.chain_model.specs.declared.cause.Cause.{Cause}
use Rattle.chain_model.specs.Prefix.{IsPrefix}
use Rattle.chain_model.specs.PluginRule.{PluginRule}
use Rattle.chain_model.specs.Apply.{StageList}
use Rattle.chain_model.specs.StageLists.{rule_after, stage_list}
use Rattle.chain_model.specs.Reports.{NamedRule, rules_of, lines_after, plugin_line, plugin_report, reports_from, end_line}
use Rattle.chain_model.specs.PureRun.{Chain, chain_rules, reported_at}
use Rattle.chain_live.specs.LiveReports.{LiveLine, lines_on, lines_at, told_at, lines_from, lines_to, list_met, lines_below, line_bytes, printed_below, summaries_from, live_reported, is_of, is_before, texts_of, sorted_from}

-- a sum that is computed by its first number
abbrev more : ℕ → ℕ → ℕ
more zero w = w
more (suc n) w = suc (more n w)

more-sum : (n w : ℕ) → more n w ≡ n + w
more-sum zero w = omega arith
more-sum (suc n) w = let e : more n w ≡ n + w = more-sum n w in omega arith

-- ---- the lines of one rule, position by position

lines_after-append : (rule : PluginRule) (history xs ys : List Cell) → lines_after rule history (xs ++ ys) ≡ lines_after rule history xs ++ lines_after rule (history ++ xs) ys
lines_after-append rule history [] ys = ap (λ (h : List Cell). lines_after rule h ys) (sym (append-nil history))
lines_after-append rule history (Live packet labels ∷ xs) ys =
    ap (λ (rest : List (List ℕ)). rule.lines_of history packet labels ++ rest) (lines_after-append rule (history ++ Live packet labels ∷ []) xs ys)
    ∙ (sym (append_assoc (rule.lines_of history packet labels) (lines_after rule (history ++ Live packet labels ∷ []) xs) (lines_after rule ((history ++ Live packet labels ∷ []) ++ xs) ys))
    ∙ ap (λ (h : List Cell). (rule.lines_of history packet labels ++ lines_after rule (history ++ Live packet labels ∷ []) xs) ++ lines_after rule h ys) (append_assoc history (Live packet labels ∷ []) xs))
lines_after-append rule history (Dropped ∷ xs) ys =
    lines_after-append rule (history ++ Dropped ∷ []) xs ys
    ∙ ap (λ (h : List Cell). lines_after rule (history ++ Dropped ∷ []) xs ++ lines_after rule h ys) (append_assoc history (Dropped ∷ []) xs)

pub take_next : (cells : List Cell) (p : ℕ) → take (suc p) cells ≡ take p cells ++ take 1 (drop p cells)
take_next [] zero = refl
take_next [] (suc p) = refl
take_next (x ∷ xs) zero = refl
take_next (x ∷ xs) (suc p) = ap (λ (rest : List Cell). x ∷ rest) (take_next xs p)

lines_on-first : (rule : PluginRule) (history cells : List Cell) → lines_after rule history (take 1 cells) ≡ flat_map (lines_on rule history) (take 1 cells)
lines_on-first rule history [] = refl
lines_on-first rule history (Live packet labels ∷ cells) = refl
lines_on-first rule history (Dropped ∷ cells) = refl

lines-next : (rule : PluginRule) (cells : List Cell) (p : ℕ) → lines_after rule [] (take (suc p) cells) ≡ lines_after rule [] (take p cells) ++ lines_at rule cells p
lines-next rule cells p =
    ap (λ (xs : List Cell). lines_after rule [] xs) (take_next cells p)
    ∙ (lines_after-append rule [] (take p cells) (take 1 (drop p cells))
    ∙ ap (λ (rest : List (List ℕ)). lines_after rule [] (take p cells) ++ rest) (lines_on-first rule (take p cells) (drop p cells)))

-- ---- one plugin's lines among all

texts_of-append : (j : ℕ) (xs ys : List LiveLine) → texts_of j (xs ++ ys) ≡ texts_of j xs ++ texts_of j ys
texts_of-append j xs ys =
    ap (λ (l : List LiveLine). map (λ line. line.text) l) (filter-append (is_of j) xs ys)
    ∙ map-append (λ line. line.text) (filter (is_of j) xs) (filter (is_of j) ys)

texts_of-own : (p j : ℕ) (name : List ℕ) (texts : List (List ℕ)) → texts_of (suc j) (told_at p j name texts) ≡ texts
texts_of-own p j name [] = refl
texts_of-own p j name (text ∷ texts) =
    let line : LiveLine = record { at = p; plugin = suc j; name = name; text = text } in
    ap (λ (b : Bool). map (λ (l : LiveLine). l.text) (cond b (line ∷ filter (is_of (suc j)) (told_at p j name texts)) (filter (is_of (suc j)) (told_at p j name texts)))) (eq-eqb (suc j) (suc j) refl)
    ∙ ap (λ (rest : List (List ℕ)). text ∷ rest) (texts_of-own p j name texts)

texts_of-other : (i p j : ℕ) (name : List ℕ) (texts : List (List ℕ)) → suc j ≢ suc i → texts_of (suc i) (told_at p j name texts) ≡ []
texts_of-other i p j name [] apart = refl
texts_of-other i p j name (text ∷ texts) apart =
    let line : LiveLine = record { at = p; plugin = suc j; name = name; text = text } in
    ap (λ (b : Bool). map (λ (l : LiveLine). l.text) (cond b (line ∷ filter (is_of (suc i)) (told_at p j name texts)) (filter (is_of (suc i)) (told_at p j name texts)))) (ne_eqb (suc j) (suc i) apart)
    ∙ texts_of-other i p j name texts apart

module _ (met : ℕ → List Cell) where
  -- none of the plugins from `k` on is plugin `i`
  later-none : (p i k : ℕ) (plugins : List NamedRule) → i < k → texts_of (suc i) (lines_from met p k plugins) ≡ []
  later-none p i k [] lt = refl
  later-none p i k (plugin ∷ rest) lt =
      texts_of-append (suc i) (told_at p k plugin.name (lines_at plugin.rule (met k) p)) (lines_from met p (suc k) rest)
      ∙ (ap (λ (xs : List (List ℕ)). xs ++ texts_of (suc i) (lines_from met p (suc k) rest)) (texts_of-other i p k plugin.name (lines_at plugin.rule (met k) p) (λ e. absurd (omega arith)))
      ∙ later-none p i (suc k) rest (omega arith))

  picked : (p i k j : ℕ) (plugins : List NamedRule) → i ≡ k + j → j < length plugins → texts_of (suc i) (lines_from met p k plugins) ≡ lines_at (rule_after (rules_of plugins) j) (met i) p
  picked p i k j [] e lt = absurd (omega arith)
  picked p i k zero (plugin ∷ rest) e lt =
      let same : k ≡ i = omega arith in
      texts_of-append (suc i) (told_at p k plugin.name (lines_at plugin.rule (met k) p)) (lines_from met p (suc k) rest)
      ∙ (ap (λ (xs : List (List ℕ)). texts_of (suc i) (told_at p k plugin.name (lines_at plugin.rule (met k) p)) ++ xs) (later-none p i (suc k) rest (omega arith))
      ∙ (append-nil (texts_of (suc i) (told_at p k plugin.name (lines_at plugin.rule (met k) p)))
      ∙ (ap (λ (n : ℕ). texts_of (suc i) (told_at p n plugin.name (lines_at plugin.rule (met n) p))) same
      ∙ texts_of-own p i plugin.name (lines_at plugin.rule (met i) p))))
  picked p i k (suc j) (plugin ∷ rest) e lt =
      texts_of-append (suc i) (told_at p k plugin.name (lines_at plugin.rule (met k) p)) (lines_from met p (suc k) rest)
      ∙ (ap (λ (xs : List (List ℕ)). xs ++ texts_of (suc i) (lines_from met p (suc k) rest)) (texts_of-other i p k plugin.name (lines_at plugin.rule (met k) p) (λ f. absurd (omega arith)))
      ∙ picked p i (suc k) j rest (omega arith) (omega arith))

module _ (rules : List PluginRule) (input : StageList) where
  -- the report after the end from these lines, where each plugin's lines among them are those that it reports
  sorted-same : (lines : List LiveLine) (m k : ℕ) (plugins : List NamedRule) → ((i j : ℕ) → i ≡ k + j → j < length plugins → texts_of (suc i) lines ≡ lines_after (rule_after (rules_of plugins) j) [] (take m (stage_list rules input i).cells)) → reports_from rules input m k plugins ≡ sorted_from lines (λ i. (stage_list rules input i).cells) m k plugins
  sorted-same lines m k [] each = refl
  sorted-same lines m k (plugin ∷ rest) each =
      let first : texts_of (suc k) lines ≡ lines_after plugin.rule [] (take m (stage_list rules input k).cells) = each k 0 (omega arith) (omega arith) in
      ap (λ (texts : List (List ℕ)). plugin_report (suc k) plugin.name (texts ++ plugin.rule.summary_of (take m (stage_list rules input k).cells)) ++ reports_from rules input m (suc k) rest) (sym first)
      ∙ ap (λ (others : List ℕ). plugin_report (suc k) plugin.name (texts_of (suc k) lines ++ plugin.rule.summary_of (take m (stage_list rules input k).cells)) ++ others)
      (sorted-same lines m (suc k) rest (λ i j e lt. each i (suc j) (omega arith) (omega arith)))

module _ (chain : Chain) where
  pub one-lines : (m j : ℕ) → j < length chain.plugins → texts_of (suc j) (lines_below chain m) ≡ lines_after (rule_after (chain_rules chain) j) [] (take m (stage_list (chain_rules chain) chain.input j).cells)
  one-lines zero j lt = refl
  one-lines (suc p) j lt =
      texts_of-append (suc j) (lines_below chain p) (lines_from (list_met chain) p 0 chain.plugins)
      ∙ (ap (λ (xs : List (List ℕ)). xs ++ texts_of (suc j) (lines_from (list_met chain) p 0 chain.plugins)) (one-lines p j lt)
      ∙ (ap (λ (xs : List (List ℕ)). lines_after (rule_after (chain_rules chain) j) [] (take p (stage_list (chain_rules chain) chain.input j).cells) ++ xs) (picked (list_met chain) p j 0 j chain.plugins (omega arith) lt)
      ∙ sym (lines-next (rule_after (chain_rules chain) j) (stage_list (chain_rules chain) chain.input j).cells p)))

  pub one-sorted : (m : ℕ) (why : Cause) → reported_at chain m why ≡ sorted_from (lines_below chain m) (list_met chain) m 0 chain.plugins ++ end_line why m
  one-sorted m why =
      ap (λ (text : List ℕ). text ++ end_line why m)
      (sorted-same (chain_rules chain) chain.input (lines_below chain m) m 0 chain.plugins
      (λ i j e lt. let same : j ≡ i = omega arith in
      ap (λ (n : ℕ). texts_of (suc n) (lines_below chain m)) (sym same)
      ∙ (one-lines m j lt
      ∙ ap (λ (n : ℕ). lines_after (rule_after (chain_rules chain) j) [] (take m (stage_list (chain_rules chain) chain.input n).cells)) same)))

  -- ---- what is printed grows

  behind : (w n : ℕ) → IsPrefix (lines_below chain w) (lines_below chain (more n w))
  behind w zero = ([], sym (append-nil (lines_below chain w)))
  behind w (suc n) =
      let before = behind w n in (
        before.0 ++ lines_from (list_met chain) (more n w) 0 chain.plugins,
        ap (λ (xs : List LiveLine). xs ++ lines_from (list_met chain) (more n w) 0 chain.plugins) before.1
            ∙ append_assoc (lines_below chain w) before.0 (lines_from (list_met chain) (more n w) 0 chain.plugins),
      )

  pub grows : (w m : ℕ) → w ≤ m → IsPrefix (lines_below chain w) (lines_below chain m)
  grows w m le =
      let s : more (m - w) w ≡ (m - w) + w = more-sum (m - w) w in
      let e : m ≡ more (m - w) w = omega arith in
      let before = behind w (m - w) in
      (before.0, ap (λ (n : ℕ). lines_below chain n) e ∙ before.1)

  pub grows-bytes : (w m : ℕ) (why : Cause) → w ≤ m → IsPrefix (printed_below chain w) (live_reported chain m why)
  grows-bytes w m why le =
      let longer = grows w m le in
      let tail : List ℕ = summaries_from (list_met chain) m 0 chain.plugins ++ end_line why m in (
        flat_map line_bytes longer.0 ++ tail,
        ap (λ (xs : List LiveLine). flat_map line_bytes xs ++ tail) longer.1
            ∙ (ap (λ (text : List ℕ). text ++ tail) (flat_map-append line_bytes (lines_below chain w) longer.0)
            ∙ append_assoc (printed_below chain w) (flat_map line_bytes longer.0) tail),
      )

-- ---- the lines before a position

before-told : (v p j : ℕ) (name : List ℕ) (texts : List (List ℕ)) → p < v → filter (is_before v) (told_at p j name texts) ≡ told_at p j name texts
before-told v p j name [] lt = refl
before-told v p j name (text ∷ texts) lt =
    let line : LiveLine = record { at = p; plugin = suc j; name = name; text = text } in
    ap (λ (b : Bool). cond b (line ∷ filter (is_before v) (told_at p j name texts)) (filter (is_before v) (told_at p j name texts))) (lt-ltb p v lt)
    ∙ ap (λ (rest : List LiveLine). line ∷ rest) (before-told v p j name texts lt)

past-told : (v p j : ℕ) (name : List ℕ) (texts : List (List ℕ)) → v ≤ p → filter (is_before v) (told_at p j name texts) ≡ []
past-told v p j name [] le = refl
past-told v p j name (text ∷ texts) le =
    let line : LiveLine = record { at = p; plugin = suc j; name = name; text = text } in
    ap (λ (b : Bool). cond b (line ∷ filter (is_before v) (told_at p j name texts)) (filter (is_before v) (told_at p j name texts))) (le-ltb p v le)
    ∙ past-told v p j name texts le

module _ (met : ℕ → List Cell) (v p : ℕ) where
  before-from : (k : ℕ) (plugins : List NamedRule) → p < v → filter (is_before v) (lines_from met p k plugins) ≡ lines_from met p k plugins
  before-from k [] lt = refl
  before-from k (plugin ∷ rest) lt =
      filter-append (is_before v) (told_at p k plugin.name (lines_at plugin.rule (met k) p)) (lines_from met p (suc k) rest)
      ∙ (ap (λ (xs : List LiveLine). xs ++ filter (is_before v) (lines_from met p (suc k) rest)) (before-told v p k plugin.name (lines_at plugin.rule (met k) p) lt)
      ∙ ap (λ (xs : List LiveLine). told_at p k plugin.name (lines_at plugin.rule (met k) p) ++ xs) (before-from (suc k) rest lt))

  past-from : (k : ℕ) (plugins : List NamedRule) → v ≤ p → filter (is_before v) (lines_from met p k plugins) ≡ []
  past-from k [] le = refl
  past-from k (plugin ∷ rest) le =
      filter-append (is_before v) (told_at p k plugin.name (lines_at plugin.rule (met k) p)) (lines_from met p (suc k) rest)
      ∙ (ap (λ (xs : List LiveLine). xs ++ filter (is_before v) (lines_from met p (suc k) rest)) (past-told v p k plugin.name (lines_at plugin.rule (met k) p) le)
      ∙ past-from (suc k) rest le)

module _ (chain : Chain) where
  before-all : (v w : ℕ) → w ≤ v → filter (is_before v) (lines_below chain w) ≡ lines_below chain w
  before-all v zero le = refl
  before-all v (suc p) le =
      filter-append (is_before v) (lines_below chain p) (lines_from (list_met chain) p 0 chain.plugins)
      ∙ (ap (λ (xs : List LiveLine). xs ++ filter (is_before v) (lines_from (list_met chain) p 0 chain.plugins)) (before-all v p (omega arith))
      ∙ ap (λ (xs : List LiveLine). lines_below chain p ++ xs) (before-from (list_met chain) v p 0 chain.plugins (omega arith)))

  just-behind : (w n : ℕ) → filter (is_before w) (lines_below chain (more n w)) ≡ lines_below chain w
  just-behind w zero = before-all w w (omega arith)
  just-behind w (suc n) =
      filter-append (is_before w) (lines_below chain (more n w)) (lines_from (list_met chain) (more n w) 0 chain.plugins)
      ∙ (ap (λ (xs : List LiveLine). filter (is_before w) (lines_below chain (more n w)) ++ xs) (past-from (list_met chain) w (more n w) 0 chain.plugins (let s : more n w ≡ n + w = more-sum n w in omega arith))
      ∙ (append-nil (filter (is_before w) (lines_below chain (more n w)))
      ∙ just-behind w n))

  pub just : (w m : ℕ) → w ≤ m → filter (is_before w) (lines_below chain m) ≡ lines_below chain w
  just w m le =
      let s : more (m - w) w ≡ (m - w) + w = more-sum (m - w) w in
      let e : m ≡ more (m - w) w = omega arith in
      ap (λ (n : ℕ). filter (is_before w) (lines_below chain n)) e ∙ just-behind w (m - w)

-- ---- a chain of one plugin

told-bytes : (p j : ℕ) (name : List ℕ) (texts : List (List ℕ)) → flat_map line_bytes (told_at p j name texts) ≡ flat_map (plugin_line (suc j) name) texts
told-bytes p j name [] = refl
told-bytes p j name (text ∷ texts) = ap (λ (rest : List ℕ). plugin_line (suc j) name text ++ rest) (told-bytes p j name texts)

module _ (input : StageList) (users : List ℕ) (plugin : NamedRule) where
  abbrev alone : Chain
  alone = record { input = input; plugins = plugin ∷ []; users = users }

  alone-lines : (m : ℕ) → printed_below alone m ≡ plugin_report 1 plugin.name (lines_after plugin.rule [] (take m input.cells))
  alone-lines zero = refl
  alone-lines (suc p) =
      flat_map-append line_bytes (lines_below alone p) (told_at p 0 plugin.name (lines_at plugin.rule input.cells p) ++ [])
      ∙ (ap (λ (text : List ℕ). text ++ flat_map line_bytes (told_at p 0 plugin.name (lines_at plugin.rule input.cells p) ++ [])) (alone-lines p)
      ∙ (ap (λ (xs : List LiveLine). plugin_report 1 plugin.name (lines_after plugin.rule [] (take p input.cells)) ++ flat_map line_bytes xs) (append-nil (told_at p 0 plugin.name (lines_at plugin.rule input.cells p)))
      ∙ (ap (λ (text : List ℕ). plugin_report 1 plugin.name (lines_after plugin.rule [] (take p input.cells)) ++ text) (told-bytes p 0 plugin.name (lines_at plugin.rule input.cells p))
      ∙ (sym (flat_map-append (plugin_line 1 plugin.name) (lines_after plugin.rule [] (take p input.cells)) (lines_at plugin.rule input.cells p))
      ∙ ap (λ (texts : List (List ℕ)). plugin_report 1 plugin.name texts) (sym (lines-next plugin.rule input.cells p))))))

  alone-same : (m : ℕ) (why : Cause) → live_reported alone m why ≡ reported_at alone m why
  alone-same m why =
      let summary : List (List ℕ) = plugin.rule.summary_of (take m input.cells) in
      let lines : List (List ℕ) = lines_after plugin.rule [] (take m input.cells) in
      ap (λ (text : List ℕ). text ++ ((plugin_report 1 plugin.name summary ++ []) ++ end_line why m)) (alone-lines m)
      ∙ (sym (append_assoc (plugin_report 1 plugin.name lines) (plugin_report 1 plugin.name summary ++ []) (end_line why m))
      ∙ (ap (λ (text : List ℕ). text ++ end_line why m) (sym (append_assoc (plugin_report 1 plugin.name lines) (plugin_report 1 plugin.name summary) []))
      ∙ ap (λ (text : List ℕ). (text ++ []) ++ end_line why m) (sym (flat_map-append (plugin_line 1 plugin.name) lines summary))))

pub one-alone : (chain : Chain) (plugin : NamedRule) (m : ℕ) (why : Cause) → chain.plugins ≡ plugin ∷ [] → live_reported chain m why ≡ reported_at chain m why
one-alone chain plugin m why e =
    let same : chain ≡ record { input = chain.input; plugins = plugin ∷ []; users = chain.users } = ap (λ (ps : List NamedRule). record { input = chain.input; plugins = ps; users = chain.users }) e in
    ap (λ (c : Chain). live_reported c m why) same
    ∙ (alone-same chain.input chain.users plugin m why
    ∙ sym (ap (λ (c : Chain). reported_at c m why) same))

-- ---- what was met

take-first : (f : List Cell → Cell → List (List ℕ)) (done cells : List Cell) (p m : ℕ) → p < m → flat_map (f (done ++ take p (take m cells))) (take 1 (drop p (take m cells))) ≡ flat_map (f (done ++ take p cells)) (take 1 (drop p cells))
take-first f done cells p zero lt = absurd (omega arith)
take-first f done [] zero (suc m) lt = refl
take-first f done [] (suc p) (suc m) lt = refl
take-first f done (x ∷ xs) zero (suc m) lt = refl
take-first f done (x ∷ xs) (suc p) (suc m) lt =
    ap (λ (h : List Cell). flat_map (f h) (take 1 (drop p (take m xs)))) (sym (append_assoc done (x ∷ []) (take p (take m xs))))
    ∙ (take-first f (done ++ x ∷ []) xs p m (omega arith)
    ∙ ap (λ (h : List Cell). flat_map (f h) (take 1 (drop p xs))) (append_assoc done (x ∷ []) (take p xs)))

lines_at-first : (rule : PluginRule) (cells : List Cell) (p m : ℕ) → p < m → lines_at rule (take m cells) p ≡ lines_at rule cells p
lines_at-first rule cells p m lt = take-first (lines_on rule) [] cells p m lt

module _ (one other : ℕ → List Cell) (p m : ℕ) (lt : p < m) where
  from-met : (k : ℕ) (plugins : List NamedRule) → ((i j : ℕ) → i ≡ k + j → j < length plugins → take m (one i) ≡ take m (other i)) → lines_from one p k plugins ≡ lines_from other p k plugins
  from-met k [] each = refl
  from-met k (plugin ∷ rest) each =
      let same : take m (one k) ≡ take m (other k) = each k 0 (omega arith) (omega arith) in
      let first : lines_at plugin.rule (one k) p ≡ lines_at plugin.rule (other k) p = sym (lines_at-first plugin.rule (one k) p m lt) ∙ (ap (λ (cells : List Cell). lines_at plugin.rule cells p) same ∙ lines_at-first plugin.rule (other k) p m lt) in
      ap (λ (texts : List (List ℕ)). told_at p k plugin.name texts ++ lines_from one p (suc k) rest) first
      ∙ ap (λ (others : List LiveLine). told_at p k plugin.name (lines_at plugin.rule (other k) p) ++ others) (from-met (suc k) rest (λ i j e below. each i (suc j) (omega arith) (omega arith)))

to-met : (plugins : List NamedRule) (one other : ℕ → List Cell) (v m : ℕ) → v ≤ m → ((j : ℕ) → j < length plugins → take m (one j) ≡ take m (other j)) → lines_to one plugins v ≡ lines_to other plugins v
to-met plugins one other zero m le each = refl
to-met plugins one other (suc p) m le each =
    ap (λ (before : List LiveLine). before ++ lines_from one p 0 plugins) (to-met plugins one other p m (omega arith) each)
    ∙ ap (λ (now : List LiveLine). lines_to other plugins p ++ now)
    (from-met one other p m (omega arith) 0 plugins (λ i j e lt. let same : j ≡ i = omega arith in ap (λ (n : ℕ). take m (one n)) (sym same) ∙ (each j lt ∙ ap (λ (n : ℕ). take m (other n)) same)))

pub only-met : (plugins : List NamedRule) (one other : ℕ → List Cell) (m : ℕ) → ((j : ℕ) → j < length plugins → take m (one j) ≡ take m (other j)) → lines_to one plugins m ≡ lines_to other plugins m
only-met plugins one other m each = to-met plugins one other m m (omega arith) each
