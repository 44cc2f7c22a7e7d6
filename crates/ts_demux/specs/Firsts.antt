-- The first sections by their numbers.
-- This project's own rule: where a number comes again in an era, its first section counts.
use Rattle.std.specs.Prelude.{ℕ, zero, suc, List, [], ◌∷◌, Option, Some, None}

-- a value, or another one if it is missing
abbrev pub or_this : {X : Type 0} → Option X → X → Option X
or_this None x = Some x
or_this (Some first) x = Some first

-- a value kept at its place, if none is there before it
abbrev pub with_first : {X : Type 0} → ℕ → X → List (Option X) → List (Option X)
with_first place x [] = []
with_first zero x (first ∷ firsts) = or_this first x ∷ firsts
with_first (suc place) x (first ∷ firsts) = first ∷ with_first place x firsts
