-- Calls of closures with what lies behind a `&mut`. This project's own rule.
use Rattle.std.specs.Prelude.{◌≡◌, List}
use denote.Ref.{MutBor}
use denote.Param.Members.{Shared}

module _ {F X : Type 0} (g : Shared F (MutBor (List X) × Unit {0}) (Unit {0} × (MutBor (List X) × Unit {0}))) (f : F) where
  -- f may be called with a `&mut` to this row
  abbrev pub AcceptsRow : List X → Type 0
  AcceptsRow xs = (p : MutBor (List X)) → p.now ≡ xs → g.pre f (p, tt)

  -- a call of f with a `&mut` to this row may leave that one there
  pub record LeavesRow (xs xs_new : List X) : Type 0 where
    pub argument : MutBor (List X)
    pub argument_is : argument.now ≡ xs
    pub after_call : MutBor (List X)
    pub call : g.post f (argument, tt) (tt, (after_call, tt))
    pub left : after_call.now ≡ xs_new

module _ {F X Y Z : Type 0} (g : Shared F (MutBor (List X) × (MutBor Y × (MutBor Z × Unit {0})))
    (Unit {0} × (MutBor (List X) × (MutBor Y × (MutBor Z × Unit {0}))))) (f : F) where
  -- f may be called with a `&mut` to each of these
  abbrev pub AcceptsThree : List X → Y → Z → Type 0
  AcceptsThree xs y z = (p : MutBor (List X)) (q : MutBor Y) (r : MutBor Z) → p.now ≡ xs → q.now ≡ y → r.now ≡ z
      → g.pre f (p, (q, (r, tt)))

  -- a call of f with these may leave those there
  pub record LeavesThree (xs : List X) (y : Y) (z : Z) (xs_new : List X) (y_new : Y) (z_new : Z) : Type 0 where
    pub first : MutBor (List X)
    pub second : MutBor Y
    pub third : MutBor Z
    pub first_is : first.now ≡ xs
    pub second_is : second.now ≡ y
    pub third_is : third.now ≡ z
    pub first_after : MutBor (List X)
    pub second_after : MutBor Y
    pub third_after : MutBor Z
    pub call : g.post f (first, (second, (third, tt))) (tt, (first_after, (second_after, (third_after, tt))))
    pub first_left : first_after.now ≡ xs_new
    pub second_left : second_after.now ≡ y_new
    pub third_left : third_after.now ≡ z_new
