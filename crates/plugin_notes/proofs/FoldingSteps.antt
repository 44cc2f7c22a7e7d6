-- Lemmas on removing notes from the front, one after another.
use Rattle.std.proofs.Common.{◌≡◌, ℕ, ◌<◌, ◌^◌, List, [], ◌∷◌, ◌++◌, length, drop, Bool, ap, sym, subst, ◌∙◌, refl, true, ◌&&◌, nat_lt, append_assoc, append-nil, arith, length-append}
use Rattle.std.specs.List.{All, list_all}
use Rattle.std.proofs.lemmas.List.Folds.{list_all-append}
use Rattle.std.proofs.lemmas.List.Elements.{All-drop, All-head}
use Rattle.std.proofs.Math.Seq.{drop-append_seam}
use Rattle.ts_packet.specs.declared.numbers.TheConstants.{PID_COUNT}
use Rattle.plugin_notes.specs.NotesKept.{CanFold, Folds, StartsFrom, TakesBelow}
use Rattle.plugin_notes.proofs.Noting.{is_below}

-- some notes below the position were removed from the front; others may follow
pub record IsTaking {N : Type 0} (at : N → ℕ) (mark : ℕ) (old new : List N) : Type 0 where
  pub taken : List N
  pub split : old ≡ taken ++ new
  pub below : list_all (λ (note : N). nat_lt (at note) mark) taken ≡ true

-- and they were counted
pub record IsFolding {N S : Type 0} (at : N → ℕ) (Counted : S → List N → Type 0) (mark : ℕ) (old new : List N) (sums sums_new : S) : Type 0 where
  pub taking : IsTaking at mark old new
  pub counted : (before : List N) → Counted sums before → Counted sums_new (before ++ taking.taken)

module _ {N : Type 0} (at : N → ℕ) (mark : ℕ) where
  -- none is removed yet
  abbrev pub none_taken : (notes : List N) → IsTaking at mark notes notes
  none_taken notes = record { taken = []; split = refl; below = refl }

  -- one more is removed
  abbrev pub one_taken : (old new : List N) → IsTaking at mark old new → (note : N) (rest : List N) → new ≡ note ∷ rest → at note < mark → IsTaking at mark old rest
  one_taken old new so_far note rest is below = record {
    taken = so_far.taken ++ note ∷ [];
    split = so_far.split ∙ (ap (λ (ns : List N). so_far.taken ++ ns) is ∙ sym (append_assoc so_far.taken (note ∷ []) rest));
    below = list_all-append (λ (n : N). nat_lt (at n) mark) so_far.taken (note ∷ [])
        ∙ (ap (λ (b : Bool). b && (nat_lt (at note) mark && true)) so_far.below ∙ ap (λ (b : Bool). b && true) (is_below (at note) mark below));
  }

  -- all below the position are removed
  pub all_taken : (old new rest : List N) → IsTaking at mark old new → rest ≡ new → StartsFrom at mark new → TakesBelow at mark old rest
  all_taken old new rest so_far same left =
      subst (λ (ns : List N). TakesBelow at mark old ns) (sym same)
      (record { taken = so_far.taken; split = so_far.split; below = so_far.below; left = left })

  module _ {S : Type 0} (Counted : S → List N → Type 0) where
    -- none is counted yet
    pub none_folded : (notes : List N) (sums : S) → IsFolding at Counted mark notes notes sums sums
    none_folded notes sums = record {
      taking = none_taken notes;
      counted = λ before counted. subst (Counted sums) (sym (append-nil before)) counted;
    }

    -- all below the position are counted
    pub all_folded : (old new rest : List N) (sums sums_new : S) → IsFolding at Counted mark old new sums sums_new → rest ≡ new → StartsFrom at mark new
        → Folds at Counted mark old rest sums sums_new
    all_folded old new rest sums sums_new so_far same left =
        let all : Folds at Counted mark old new sums sums_new = record {
          takes = record { taken = so_far.taking.taken; split = so_far.taking.split; below = so_far.taking.below; left = left };
          counted = so_far.counted;
        } in
        subst (λ (ns : List N). Folds at Counted mark old ns sums sums_new) (sym same) all

    module _ (old new : List N) (sums sums_new : S) (so_far : IsFolding at Counted mark old new sums sums_new) (note : N) (rest : List N) (is : new ≡ note ∷ rest) where
      -- one more is counted
      pub one_folded : (sums_next : S) → at note < mark → ((notes : List N) → Counted sums_new notes → Counted sums_next (notes ++ note ∷ []))
          → IsFolding at Counted mark old rest sums sums_next
      one_folded sums_next below adds = record {
        taking = one_taken old new so_far.taking note rest is below;
        counted = λ before counted.
            subst (Counted sums_next) (append_assoc before so_far.taking.taken (note ∷ [])) (adds (before ++ so_far.taking.taken) (so_far.counted before counted));
      }

      module _ (pid : N → ℕ) (can : CanFold pid Counted old sums) where
        -- what was counted, and how many
        pub counted_now : Counted sums_new (can.before ++ so_far.taking.taken)
        counted_now = so_far.counted can.before can.counted

        pub few_now : length (can.before ++ so_far.taking.taken) < 2 ^ 63
        few_now = omega (
          arith,
          can.few,
          length-append can.before so_far.taking.taken,
          ap length so_far.taking.split,
          length-append so_far.taking.taken new,
          ap length is,
        )

        -- the next one is on a PID
        pub on_pid : pid note < PID_COUNT
        on_pid =
            All-head (λ (n : N). pid n < PID_COUNT) note rest
            (subst (All (λ (n : N). pid n < PID_COUNT))
            (ap (λ (ns : List N). drop (length so_far.taking.taken) ns) so_far.taking.split ∙ (drop-append_seam so_far.taking.taken new ∙ is))
            (All-drop (λ (n : N). pid n < PID_COUNT) (length so_far.taking.taken) old can.on_pids))
