-- What a seat knows of the ring. This project's own rule.
use Rattle.std.specs.Prelude.{◌≡◌, ◌≢◌, ℕ, List, [], ◌∷◌, ◌++◌, true, false}
use Rattle.cell_land.specs.Cells.{CellLand as Land, no_bases}
use Rattle.chain_model.specs.Each.{Each}
use Rattle.chain_core.specs.Machine.{Visit}
use Rattle.window_ring.specs.declared.view.Key.{Key}
use Rattle.window_ring.specs.declared.view.View.{View}
use Rattle.window_ring.specs.declared.view.Holding.{Holding}

-- none of these visits is of stage `k`
abbrev pub NoneOf : ℕ → List Visit → Type 0
NoneOf k visits = Each (λ (v : Visit). v.stage ≢ k) visits

-- of the visits of a history, the last one first, those of stage `k` are all in `seen`, its earlier part
abbrev pub Since : ℕ → List Visit → List Visit → Type 0
Since k seen history = (later : List Visit) × NoneOf k later × (history ≡ later ++ seen)

-- a stage, and the visits up to its last one
abbrev pub holding : ℕ → List Visit → Holding
holding k seen = record { stage = k; seen = seen }

-- the ring's block
abbrev pub land_of : Key → Land
land_of key = record { base = key.base; count = key.plan.buffer }

-- the seat of a stage at rest, whose compares since its last visit found these stages with the turn
abbrev pub at_rest : Key → ℕ → List Visit → List ℕ → View
at_rest key k seen busy =
    record { key = key; is_root = false; made = 0; held = holding k seen ∷ []; inside = false; at = []; busy = busy }

-- the same inside a visit, which found this history
abbrev pub within : Key → ℕ → List Visit → List Visit → View
within key k seen history =
    record { key = key; is_root = false; made = 0; held = holding k seen ∷ []; inside = true; at = history; busy = [] }

-- the seat from which the stages' seats are split, of which so many are made, and into which they are joined
abbrev pub root_view : Key → ℕ → List Holding → View
root_view key made held =
    record { key = key; is_root = true; made = made; held = held; inside = false; at = []; busy = [] }

-- the root of a new ring
abbrev pub first_view : Key → View
first_view key = root_view key 0 []

-- a seat that was joined
abbrev pub spent_view : View
spent_view = record {
  key = record {
    plan = record { plugins = 0; buffer = 0; most = 0; users = record { bits = 0 } };
    base = no_bases;
  };
  is_root = false;
  made = 0;
  held = [];
  inside = false;
  at = [];
  busy = [];
}
