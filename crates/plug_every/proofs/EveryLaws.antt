-- Laws of summaries at each so-many-th packet: the cells, and the lines at one position.
use Rattle.std.proofs.Common.{◌≡◌, List, [], ◌∷◌, ◌++◌, ℕ, Bool, refl, ap}
use Rattle.ts_packet.specs.declared.cell.Cell.{Cell}
use Rattle.ts_packet.specs.Cells.{Live, Dropped}
use Rattle.chain_model.specs.PluginRule.{PluginRule}
use Rattle.chain_model.specs.Apply.{StageList, onto, became, apply_after, apply}
use Rattle.plug_every.specs.EveryRule.{every_rule}

every-after : (n : ℕ) (counts : Bool) (rule : PluginRule) (history cells : List Cell)
    → apply_after (every_rule n counts rule) history cells ≡ apply_after rule history cells
every-after n counts rule history [] = refl
every-after n counts rule history (Live packet labels ∷ cells) =
    ap (λ (list : StageList). onto (became rule history (Live packet labels)) list) (every-after n counts rule (history ++ Live packet labels ∷ []) cells)
every-after n counts rule history (Dropped ∷ cells) =
    ap (λ (list : StageList). onto (became rule history Dropped) list) (every-after n counts rule (history ++ Dropped ∷ []) cells)

-- the cells that are given are the same
pub every-same : (n : ℕ) (counts : Bool) (rule : PluginRule) (cells : List Cell) → apply (every_rule n counts rule) cells ≡ apply rule cells
every-same n counts rule cells = every-after n counts rule [] cells
