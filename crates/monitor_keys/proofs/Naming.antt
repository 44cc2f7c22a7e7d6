-- Lemmas on where a key that tables ask for began.
use Rattle.std.proofs.Common.{◌≡◌, ℕ, ◌+◌, ◌≤◌, List, [], ◌∷◌, ◌++◌, length, take, ap, sym, subst, ◌∙◌, inl, inr, refl, Bool, true, false, Option, None, Some, arith, length-append}
use Rattle.std.proofs.lemmas.Bool.{cases_lt, false≢true}
use Rattle.std.proofs.lemmas.List.{take-append-le, take_all}
use Rattle.std.proofs.Math.Seq.{take-append_seam}
use Rattle.ts_packet.specs.declared.cell.Cell.{Cell}
use Rattle.monitor_keys.specs.declared.key.Key.{Key}
use Rattle.monitor_keys.specs.declared.named_key.NamedKey.{NamedKey}
use Rattle.monitor_keys.specs.Keys.{KeyRule}
use Rattle.monitor_keys.specs.KeyState.{IsKey, fresh_key}
use Rattle.monitor_keys.specs.Named.{BeganAt, IsKept, IsNamedKey, begun_at, key_or}
use Rattle.monitor_keys.proofs.Keeping.{key_begun}

module _ (named : List Cell → Bool) (history : List Cell) (cell : Cell) (is : named (history ++ cell ∷ []) ≡ true) where
  longer : length (history ++ cell ∷ []) ≡ length history + 1
  longer = length-append history (cell ∷ [])

  -- with all cells it is named
  named_all : (k : ℕ) → k ≡ length history + 1 → named (take k (history ++ cell ∷ [])) ≡ true
  named_all k all = ap named (take_all k (history ++ cell ∷ []) (omega (arith, longer, all))) ∙ is

  -- it goes on
  pub began-more : (n : ℕ) → BeganAt named history n → BeganAt named (history ++ cell ∷ []) n
  began-more n began = record {
    within = omega (arith, began.within, longer);
    before = ap named (take-append-le n history (cell ∷ []) (omega (arith, began.within))) ∙ began.before;
    since = λ k after le.
        elim (cases_lt (length history) k) [
          | inl all ↦ named_all k (omega (arith, all, le, longer))
          | inr less ↦ ap named (take-append-le k history (cell ∷ []) less) ∙ began.since k after less
        ];
  }

  -- it begins
  pub began-here : named history ≡ false → BeganAt named (history ++ cell ∷ []) (length history)
  began-here none = record {
    within = omega (arith, longer);
    before = ap named (take-append_seam history (cell ∷ [])) ∙ none;
    since = λ k after le. named_all k (omega (arith, after, le, longer));
  }

-- it began with one cell alone
not-later : (named : List Cell → Bool) (cells : List Cell) (n m : ℕ) → BeganAt named cells n → BeganAt named cells m → m ≤ n
not-later named cells n m one other =
    elim (cases_lt n m) [
      | inl later ↦ absurd (false≢true (sym other.before ∙ one.since m later (omega (arith, other.within))))
      | inr less ↦ less
    ]

pub one_beginning : (named : List Cell → Bool) (cells : List Cell) (n m : ℕ) → BeganAt named cells n → BeganAt named cells m → n ≡ m
one_beginning named cells n m one other = omega (arith, not-later named cells n m one other, not-later named cells m n other one)

-- it is named with all cells
pub named_still : (named : List Cell → Bool) (cells : List Cell) (n : ℕ) → BeganAt named cells n → named cells ≡ true
named_still named cells n began =
    ap named (sym (take_all (length cells) cells (omega arith))) ∙ began.since (length cells) began.within (omega arith)

-- what is kept with a cell with which the tables name it as before
pub still_kept : (rule : KeyRule) (named : List Cell → Bool) (kept : NamedKey) (history : List Cell) (cell : Cell) → IsNamedKey rule named kept history
    → named (history ++ cell ∷ []) ≡ named history
    → ((key : Key) → IsKey (begun_at rule key.from) key history → IsKey (begun_at rule key.from) key (history ++ cell ∷ []))
    → IsNamedKey rule named kept (history ++ cell ∷ [])
still_kept rule named kept history cell w same stays = record { limit_is = w.limit_is; key_is = by_key kept.key w.key_is }
  where
    by_key : (key : Option Key) → IsKept rule named key history → IsKept rule named key (history ++ cell ∷ [])
    by_key None is = same ∙ is
    by_key (Some key) is =
        (stays key is.0, began-more named history cell (same ∙ named_still named history key.from is.1) key.from is.1)

-- the key that is kept, or one that begins with the cell
pub kept_or_begun : (rule : KeyRule) (named : List Cell → Bool) (kept : NamedKey) (history : List Cell) (cell : Cell) (at : ℕ) → IsNamedKey rule named kept history
    → at ≡ length history → named (history ++ cell ∷ []) ≡ true → (key : Key) → key ≡ key_or kept.key (fresh_key at kept.limit)
    → IsKey (begun_at rule key.from) key history × BeganAt named (history ++ cell ∷ []) key.from
kept_or_begun rule named kept history cell at w here is key made =
    subst (λ (k : Key). IsKey (begun_at rule k.from) k history × BeganAt named (history ++ cell ∷ []) k.from) (sym made) (by_key kept.key w.key_is)
  where
    by_key : (o : Option Key) → IsKept rule named o history
        → IsKey (begun_at rule (key_or o (fresh_key at kept.limit)).from) (key_or o (fresh_key at kept.limit)) history
        × BeganAt named (history ++ cell ∷ []) (key_or o (fresh_key at kept.limit)).from
    by_key None none = (
      key_begun (begun_at rule at) history at kept.limit refl (sym w.limit_is) (sym here),
      subst (BeganAt named (history ++ cell ∷ [])) (sym here) (began-here named history cell is none),
    )
    by_key (Some k) w_key = (w_key.0, began-more named history cell is k.from w_key.1)

-- what is kept with a cell with which it is named
pub named_live : (rule : KeyRule) (named : List Cell → Bool) (kept : NamedKey) (history more : List Cell) (key new : Key) → IsNamedKey rule named kept history
    → BeganAt named more key.from → IsKey (begun_at rule key.from) new more
    → IsNamedKey rule named (record { limit = kept.limit; key = Some new }) more
named_live rule named kept history more key new w began is = record {
  limit_is = w.limit_is;
  key_is = subst (λ (n : ℕ). IsKey (begun_at rule n) new more × BeganAt named more n) (sym is.from_is) (is, began);
}
