-- A plugin to which some packets are shown as dropped cells: it reports what it reports of the cells that it is
-- shown.
use Rattle.std.proofs.Common.{◌≡◌, ℕ, List, [], ◌∷◌, ◌++◌, length, take, drop, Bool, true, false, Option, None, Some, if◌then◌else◌, refl, ap, sym, ◌∙◌}
use Rattle.std.proofs.lemmas.List.{length-map, map-append, take-map, drop-map}
use Rattle.ts_packet.specs.declared.cell.Cell.{Cell}
use Rattle.ts_packet.specs.Cells.{Live, Dropped}
use Rattle.ts_packet.specs.Labels.{shares_label}
use Rattle.chain_model.specs.PluginRule.{PluginRule}
use Rattle.chain_model.specs.SeenCells.{only_rule, seen, sees}
use Rattle.plugin_trait.specs.declared.line.Line.{Line}
use Rattle.plugin_trait.specs.PlacedLines.{placed_at, placed_after, placed_between}
use Rattle.plugin_trait.specs.Steps.{HasRoom, MeetsCells}
use Rattle.plug_masked.specs.OnlyLabels.{rule_for, shown}

pub length-shown : (only : Option ℕ) (cells : List Cell) → length (shown only cells) ≡ length cells
length-shown None cells = refl
length-shown (Some only) cells = length-map cells (sees only)

-- a plugin that is shown this many cells met as many
pub met-shown : (stands : List Cell → ℕ → Type 0) (only : Option ℕ) (at : ℕ) → MeetsCells (λ history. stands (shown only history)) at → MeetsCells stands at
met-shown stands only at met = record {
  history = shown only met.history;
  mark = met.mark;
  holds = met.holds;
  count = length-shown only met.history ∙ met.count;
}

pub room-shown : (preallocated : Option ℕ) (stands : List Cell → ℕ → Type 0) (only : Option ℕ) (at : ℕ)
    → HasRoom preallocated (λ history. stands (shown only history)) at → HasRoom preallocated stands at
room-shown preallocated stands only at has = record {
  room = has.room;
  is_preallocated = has.is_preallocated;
  history = shown only has.history;
  mark = has.mark;
  holds = has.holds;
  count = length-shown only has.history ∙ has.count;
  within = has.within;
}

take-shown : (only : Option ℕ) (n : ℕ) (cells : List Cell) → shown only (take n cells) ≡ take n (shown only cells)
take-shown None n cells = refl
take-shown (Some only) n cells = sym (take-map (sees only) n cells)

-- the lines over the cells that it sees, which keep their positions
placed_after-shown : (only : ℕ) (rule : PluginRule) (history cells : List Cell)
    → placed_after (only_rule only rule) history cells ≡ placed_after rule (seen only history) (seen only cells)
placed_after-shown only rule history [] = refl
placed_after-shown only rule history (Live packet labels ∷ cells) =
    go (shares_label labels only) refl (placed_after-shown only rule (history ++ Live packet labels ∷ []) cells)
    (map-append (sees only) history (Live packet labels ∷ []))
  where
    go : (b : Bool) → shares_label labels only ≡ b
        → placed_after (only_rule only rule) (history ++ Live packet labels ∷ []) cells
        ≡ placed_after rule (seen only (history ++ Live packet labels ∷ [])) (seen only cells)
        → seen only (history ++ Live packet labels ∷ []) ≡ seen only history ++ (if shares_label labels only then Live packet labels else Dropped) ∷ []
        → placed_at (length history) (if shares_label labels only then rule.lines_of (seen only history) packet labels else [])
        ++ placed_after (only_rule only rule) (history ++ Live packet labels ∷ []) cells
        ≡ placed_after rule (seen only history) ((if shares_label labels only then Live packet labels else Dropped) ∷ seen only cells)
    go true e rest more =
        ap (λ (b : Bool). placed_at (length history) (if b then rule.lines_of (seen only history) packet labels else [])
        ++ placed_after (only_rule only rule) (history ++ Live packet labels ∷ []) cells) e
        ∙ (ap (λ (n : ℕ). placed_at n (rule.lines_of (seen only history) packet labels) ++ placed_after (only_rule only rule) (history ++ Live packet labels ∷ []) cells)
        (sym (length-map history (sees only)))
        ∙ (ap (λ (lines : List Line). placed_at (length (seen only history)) (rule.lines_of (seen only history) packet labels) ++ lines)
        (rest ∙ ap (λ (h : List Cell). placed_after rule h (seen only cells)) (more ∙ ap (λ (b : Bool). seen only history ++ (if b then Live packet labels else Dropped) ∷ []) e))
        ∙ ap (λ (b : Bool). placed_after rule (seen only history) ((if b then Live packet labels else Dropped) ∷ seen only cells)) (sym e)))
    go false e rest more =
        ap (λ (b : Bool). placed_at (length history) (if b then rule.lines_of (seen only history) packet labels else [])
        ++ placed_after (only_rule only rule) (history ++ Live packet labels ∷ []) cells) e
        ∙ (rest
        ∙ (ap (λ (h : List Cell). placed_after rule h (seen only cells)) (more ∙ ap (λ (b : Bool). seen only history ++ (if b then Live packet labels else Dropped) ∷ []) e)
        ∙ ap (λ (b : Bool). placed_after rule (seen only history) ((if b then Live packet labels else Dropped) ∷ seen only cells)) (sym e)))
placed_after-shown only rule history (Dropped ∷ cells) =
    placed_after-shown only rule (history ++ Dropped ∷ []) cells
    ∙ ap (λ (h : List Cell). placed_after rule h (seen only cells)) (map-append (sees only) history (Dropped ∷ []))

-- the lines from one position up to another are those over the cells that it sees
pub between-shown : (only : Option ℕ) (rule : PluginRule) (history : List Cell) (from to : ℕ)
    → placed_between (rule_for only rule) history from to ≡ placed_between rule (shown only history) from to
between-shown None rule history from to = refl
between-shown (Some only) rule history from to =
    placed_after-shown only rule (take from history) (drop from (take to history))
    ∙ (ap (λ (h : List Cell). placed_after rule h (seen only (drop from (take to history)))) (sym (take-map (sees only) from history))
    ∙ ap (λ (cells : List Cell). placed_after rule (take from (seen only history)) cells)
    (sym (drop-map (sees only) from (take to history)) ∙ ap (drop from) (sym (take-map (sees only) to history))))

-- its summary, and whether it has a fault, are those over the cells that it sees
pub summary-shown : (only : Option ℕ) (rule : PluginRule) (n : ℕ) (history : List Cell)
    → (rule_for only rule).summary_of (take n history) ≡ rule.summary_of (take n (shown only history))
summary-shown None rule n history = refl
summary-shown (Some only) rule n history = ap rule.summary_of (take-shown (Some only) n history)

pub fault-shown : (only : Option ℕ) (rule : PluginRule) (n : ℕ) (history : List Cell)
    → (rule_for only rule).has_fault (take n history) ≡ rule.has_fault (take n (shown only history))
fault-shown None rule n history = refl
fault-shown (Some only) rule n history = ap rule.has_fault (take-shown (Some only) n history)
