-- Lemmas on splitting and joining spans of values. Assumes `Logic`.
use Rattle.std.proofs.Common.{◌≡◌, ℕ, ◌+◌, ◌-◌, ◌*◌, ◌^◌, ◌<◌, ◌≤◌, List, [], ◌∷◌, ◌++◌, length, take, drop, refl, sym, ap, ◌∙◌, subst, arith, length-take-le, length-drop, length-append, take-append-drop, mul-le-mul_right}
use seplogic.Ra.Ura.{Ura}
use mir.Val.{Val, vstruct, vcons, vnil, of_list}
use base.Fraction.{full_share}
use base.Logic.{ent, emp, sep}
use types.Logic.{Logic, sem}
use types.Kit.{‵, ◌⊛◌, given, ◌$◌, ◌∵◌, !, qed, by, move, keep, drop as forget, use1, use2, split, learn, rewrite, fsplit, fjoin, flt_l, flt_i, done}
use denote.RattleType.{RattleType}
use denote.Array.{Array}
use denote.Index.{row, place, place_is}
use denote.Memory.{part_at}
use denote.RawPtr.{Ptr, block_ptr, null_ptr, lies_at, ◌+ₚ◌}
use denote.Laws.{Is}
use denote.Shadow.{makes_shadow}
use denote.Struct.Struct.{Struct}
use denote.Struct.Owning.{shape}
use Rattle.std.proofs.mem.Param.{El, R, el_x}
use Rattle.std.proofs.ptr.Rows as arrays
use Rattle.std.specs.Mem.{type_size}
use Rattle.ts_land.specs.Ownership.{span_owns}
use Rattle.ts_land.specs.contracts.span.Span as spans

swap : (a b : ℕ) → a + b ≡ b + a
swap a b = omega arith

after : (s o m : ℕ) → place s o m ≡ o + m * s
after s o m = place_is s o m ∙ swap (m * s) o

abbrev pub token_val : Val
token_val = vstruct (vcons (vstruct vnil) vnil)

module _ (T : RattleType) where
  abbrev pub Token : RattleType
  Token = Struct (shape (spans.the_type T))

  pub token_told : (vs : List Val) → Is Token (tt, tt) vs → vs ≡ token_val ∷ []
  token_told vs is = is.1.0 ∙ ap (λ (ws : List Val). vstruct (of_list (ws ++ [])) ∷ []) is.1.1.0.1.0

  pub token_made : {M : Type 1} {𝓤 : Ura M} (𝓛 : Logic 𝓤) → ent 𝓤 (emp 𝓤) (sem 𝓛 (Token.own_val (tt, tt) (token_val ∷ [])))
  token_made 𝓛 = makes_shadow 𝓛 (Token.own_val (tt, tt) (token_val ∷ [])) (λ vss. (tt, ((λ uss. (tt, tt)), tt))) (
    (
      vstruct vnil ∷
          [],
      tt,
    ),
    (refl, ((tt, (refl, tt)), tt)),
  )

module _ (E : El) {M : Type 1} {𝓤 : Ura M} (𝓛 : Logic 𝓤) where
  abbrev E' : arrays.El
  E' = record { row = E.row; laws = E.laws }

  abbrev s : ℕ
  s = type_size (R E)

  -- a span is a row, and conversely
  to_row : (b o : ℕ) (xs : List (el_x E)) → ent 𝓤 (sem 𝓛 (lies_at (Array (R E) (length xs)) full_share (block_ptr b o) xs)) (sem 𝓛 (row (R E) full_share xs b o))
  to_row b o xs = qed 𝓛 (‵ (part_at (Array (R E) (length xs)) full_share xs b o) ∷ []) ∵
      use1 𝓛 (given (length xs ≡ length xs) (‵ (row (R E) full_share xs b o))) (arrays.apart E' 𝓛 full_share (length xs) xs b o) $
      learn ! (λ _. done !)

  of_row : (b o : ℕ) (xs : List (el_x E)) → ent 𝓤 (sem 𝓛 (row (R E) full_share xs b o)) (sem 𝓛 (lies_at (Array (R E) (length xs)) full_share (block_ptr b o) xs))
  of_row b o xs = arrays.whole E' 𝓛 full_share (length xs) xs b o refl

  module _ (b o n : ℕ) (xs : List (el_x E)) (le : n ≤ length xs) where
    pub cut_at : ent 𝓤 (sem 𝓛 (span_owns (R E) (block_ptr b o) xs)) (sep 𝓤 (sem 𝓛 (span_owns (R E) (block_ptr b o) (take n xs))) (sem 𝓛 (span_owns (R E) (block_ptr b (o + n * s)) (drop n xs))))
    cut_at =
        let front : length (take n xs) ≡ n = length-take-le n xs le in
        let back : length (drop n xs) ≡ length xs - n = length-drop n xs in
        let at : place s o (length (take n xs)) ≡ o + n * s = after s o (length (take n xs)) ∙ ap (λ (k : ℕ). o + k * s) front in
        qed 𝓛 (‵ (span_owns (R E) (block_ptr b o) xs) ∷ []) ∵ fsplit ! $ flt_l ! (λ fit.
        let low : length (take n xs) * s ≤ length xs * s = mul-le-mul_right s (omega (arith, front)) in
        let high : length (drop n xs) * s ≤ length xs * s = mul-le-mul_right s (omega (arith, back)) in
        use1 𝓛 (‵ (row (R E) full_share xs b o)) (to_row b o xs) $
        rewrite ! 0 (λ (zs : List (el_x E)). ‵ (row (R E) full_share zs b o)) (sym (take-append-drop n xs)) refl $
        use1 𝓛 (‵ (row (R E) full_share (take n xs) b o) ⊛ ‵ (row (R E) full_share (drop n xs) b (place s o (length (take n xs))))) (arrays.row_cut E' 𝓛 full_share (take n xs) (drop n xs) b o) $ split ! $
        rewrite ! 1 (λ (k : ℕ). ‵ (row (R E) full_share (drop n xs) b k)) at refl $
        use1 𝓛 (‵ (lies_at (Array (R E) (length (take n xs))) full_share (block_ptr b o) (take n xs))) (of_row b o (take n xs)) $
        flt_i ! (length (take n xs) * s) (2 ^ 63) (omega (arith, low, fit)) $ fjoin ! $
        move ! (1 ∷ []) $ use1 𝓛 (‵ (lies_at (Array (R E) (length (drop n xs))) full_share (block_ptr b (o + n * s)) (drop n xs))) (of_row b (o + n * s) (drop n xs)) $ flt_i ! (length (drop n xs) * s) (2 ^ 63) (omega (arith, high, fit)) $ fjoin ! $
        move ! (1 ∷ 0 ∷ []) $ done !)

  pub glue_at : (b o : ℕ) (xs ys : List (el_x E)) → (length xs + length ys) * s < 2 ^ 63
      → ent 𝓤 (sep 𝓤 (sem 𝓛 (span_owns (R E) (block_ptr b o) xs)) (sem 𝓛 (span_owns (R E) (block_ptr b (o + length xs * s)) ys))) (sem 𝓛 (span_owns (R E) (block_ptr b o) (xs ++ ys)))
  glue_at b o xs ys fit =
      let at : place s o (length xs) ≡ o + length xs * s = after s o (length xs) in
      qed 𝓛 (‵ (span_owns (R E) (block_ptr b o) xs) ∷ ‵ (span_owns (R E) (block_ptr b (o + length xs * s)) ys) ∷ []) ∵
      fsplit ! $ forget ! $ use1 𝓛 (‵ (row (R E) full_share xs b o)) (to_row b o xs) $ move ! (1 ∷ []) $
      fsplit ! $ forget ! $ use1 𝓛 (‵ (row (R E) full_share ys b (o + length xs * s))) (to_row b (o + length xs * s) ys) $
      rewrite ! 0 (λ (k : ℕ). ‵ (row (R E) full_share ys b k)) (sym at) refl $ move ! (1 ∷ 0 ∷ []) $
      use2 𝓛 (‵ (row (R E) full_share (xs ++ ys) b o)) (arrays.row_glue E' 𝓛 full_share xs ys b o) $
      use1 𝓛 (‵ (lies_at (Array (R E) (length (xs ++ ys))) full_share (block_ptr b o) (xs ++ ys))) (of_row b o (xs ++ ys)) $
      flt_i ! (length (xs ++ ys) * s) (2 ^ 63) (subst (λ (k : ℕ). k * s < 2 ^ 63) (sym (length-append xs ys)) fit) $ fjoin ! $ done !

  -- the same at any pointer
  pub cut : (p : Ptr) (n : ℕ) (xs : List (el_x E)) → n ≤ length xs
      → ent 𝓤 (sem 𝓛 (span_owns (R E) p xs)) (sep 𝓤 (sem 𝓛 (span_owns (R E) p (take n xs))) (sem 𝓛 (span_owns (R E) (p +ₚ n * s) (drop n xs))))
  cut (block_ptr b o) n xs le = cut_at b o n xs le
  cut null_ptr n xs le = qed 𝓛 (‵ (span_owns (R E) null_ptr xs) ∷ []) ∵ fsplit ! $ forget ! $ by ! (base.Logic.never_e 𝓤 _)

  pub glue : (p q : Ptr) (xs ys : List (el_x E)) → q ≡ p +ₚ length xs * s → (length xs + length ys) * s < 2 ^ 63
      → ent 𝓤 (sep 𝓤 (sem 𝓛 (span_owns (R E) p xs)) (sem 𝓛 (span_owns (R E) q ys))) (sem 𝓛 (span_owns (R E) p (xs ++ ys)))
  glue (block_ptr b o) q xs ys is fit = qed 𝓛 (‵ (span_owns (R E) (block_ptr b o) xs) ∷ ‵ (span_owns (R E) q ys) ∷ []) ∵
      rewrite ! 1 (λ (r : Ptr). ‵ (span_owns (R E) r ys)) is refl $ by ! (glue_at b o xs ys fit)
  glue null_ptr q xs ys is fit = qed 𝓛 (‵ (span_owns (R E) null_ptr xs) ∷ ‵ (span_owns (R E) q ys) ∷ []) ∵ fsplit ! $ forget ! $ keep ! (0 ∷ []) $
      by ! (base.Logic.never_e 𝓤 _)
