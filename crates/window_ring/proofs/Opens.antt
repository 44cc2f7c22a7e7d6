-- A new ring keeps its rule.
use Rattle.std.proofs.Common.{◌≡◌, inl, ℕ, suc, zero, [], ◌∷◌, false, sym, refl, ap, subst}
use mathlib.Core.Option.{some, some-injective, some-ne-none}
use lib.ListN.{get_elem?}
use Rattle.atomic_table.specs.Table.{opening}
use Rattle.window_ring.specs.declared.state.State.{State}
use Rattle.window_ring.specs.declared.view.Key.{Key}
use Rattle.window_ring.specs.declared.view.View.{View}
use Rattle.window_ring.specs.Turns.{Kept, Knows}
use Rattle.window_ring.specs.Stands.{Stands}
use Rattle.window_ring.specs.Views.{first_view}

knows_first : (key : Key) (id : ℕ) (v : View) → get_elem? (first_view key ∷ []) id ≡ some v → Knows key [] (λ _. 0) 0 0 id v
knows_first key zero v e = subst (λ (w : View). Knows key [] (λ _. 0) 0 0 0 w) (some-injective (first_view key) v e) (record { held = tt; is_root = λ _. (refl, refl) })
knows_first key (suc id) v e = absurd (some-ne-none v (sym e))

outside_first : (key : Key) (id : ℕ) (v : View) → get_elem? (first_view key ∷ []) id ≡ some v → v.inside ≡ false
outside_first key zero v e = sym (ap (λ (w : View). w.inside) (some-injective (first_view key) v e))
outside_first key (suc id) v e = absurd (some-ne-none v (sym e))

pub opens : (key : Key) (value : State) → Stands key value [] → Kept key (opening (0 ∷ []) (value ∷ []) (first_view key))
opens key value stands = record {
  history = [];
  owner = λ _. 0;
  root = 0;
  made = 0;
  run = tt;
  seated = tt;
  knows = knows_first key;
  turn = inl (record { word = refl; value = value; home = refl; stands = stands; outside = outside_first key });
}
