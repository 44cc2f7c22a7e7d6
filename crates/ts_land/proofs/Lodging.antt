-- Lemmas on calls of `lodge` and `dislodge`. Assumes `Logic`.
use Rattle.std.proofs.Common.{◌≡◌, ℕ, ◌+◌, ◌-◌, ◌*◌, ◌^◌, ◌<◌, ◌≤◌, List, [], ◌∷◌, length, Bool, true, false, T, refl, sym, ap, ◌∙◌, subst, arith, Vec}
use seplogic.Ra.Ura.{Ura}
use mir.Syntax.{w64}
use mir.Val.{Val, vint, vptr}
use base.Fraction.{full_share}
use base.Logic.{SProp, ent, ex, guard, emp, sep, never_e, id⊢}
use base.Fml.{Fml, Lft, Share, ftrue, fsep, flft}
use prog.Memory.{Memory}
use prog.Routine.{Routine}
use contract.Monad.{Fun, fact, fact_i}
use contract.BorrowLft.{◌⊑◌}
use types.Logic.{Logic, sem}
use types.Kit.{‵, raw, ◌⊛◌, some, later, ◌$◌, ◌∵◌, !, qed, by, move, keep, use0, use1, drop, split, split3, join, pick, fsplit, fjoin, fjoin3, feq_l, feq_i, flt_l, flt_i, rewrite, check, show, await, updating, now, done}
use denote.Exit.{no, left}
use denote.RattleType.{RattleType}
use denote.Builtin.{usize}
use denote.Array.{Array}
use denote.Param.Laws.{Laws, param_laws}
use denote.RawPtr.{Ptr, block_ptr, null_ptr, lies_at, room_for, ◌+ₚ◌}
use denote.Steps.{only, nothing, heard}
use denote.Triple.Spec.{triple_of}
use denote.Triple.Statement.{Contract}
use Rattle.std.proofs.mem.Param.{El, R, el_x}
use Rattle.std.proofs.ptr.Rows as arrays
use Rattle.std.specs.Mem.{type_size}
use Rattle.std.specs.Allocator.{block_with_items, array_of}
use Rattle.std_alloc.specs.Vec.Ownership.{lodged, owns_if, has_block}
use Rattle.std_alloc.proofs.VecSteps.Opens.{not_live}
use Rattle.std_alloc.specs.declared.vec.lodged.Lodged.{Lodged}
use Rattle.std_alloc.specs.contracts.vec.Vec as V
use Rattle.std_alloc.specs.contracts.vec.lodged.Lodged as L
use Rattle.std_alloc.specs.contracts.vec.lodged.LodgedAllocator.TheImpl.{ghosts}
use Rattle.std_alloc.specs.contracts.vec.lodge as LG
use Rattle.std_alloc.specs.contracts.vec.lodged.Vec+T+Lodged.dislodge as DL
use Rattle.std_alloc.proofs.vec.Vec.TheLaws as vec_laws
use Rattle.std_alloc.proofs.vec.lodged.Lodged.TheLaws as lodged-laws
use Rattle.ts_land.specs.Ownership.{span_owns}

module _ (E : El) where
  abbrev pub LodgedVec : RattleType
  LodgedVec = V.the_row (R E) L.the_row ghosts

  abbrev pub lodging-laws : Laws LodgedVec
  lodging-laws = vec_laws.the_row_laws (R E) L.the_row ghosts (param_laws 0 E.row E.laws) lodged-laws.the_row_laws

  abbrev s : ℕ
  s = type_size (R E)

  module _ {M : Type 1} {𝓤 : Ura M} (𝓛 : Logic 𝓤) where
    abbrev E' : arrays.El
    E' = record { row = E.row; laws = E.laws }

    abbrev Lies : Ptr → List (el_x E) → Fml
    Lies p xs = lies_at (Array (R E) (length xs)) full_share p xs

    room_none : (n b o : ℕ) → ent 𝓤 (emp 𝓤) (sem 𝓛 (room_for (array_of (R E) (n - n)) (block_ptr b o)))
    room_none n b o =
        let none : 0 ≡ n - n = omega arith in
        subst (λ (k : ℕ). ent 𝓤 (emp 𝓤) (sem 𝓛 (room_for (array_of (R E) k) (block_ptr b o)))) none (𝓛.laws.room_nil _ b o)

    into_block : (y : Bool) (b o : ℕ) (xs : List (el_x E))
        → ent 𝓤 (sem 𝓛 (Lies (block_ptr b o) xs)) (sem 𝓛 (owns_if y (block_with_items (λ _ _. ftrue) (R E) (block_ptr b o) (length xs) (length xs) xs)))
    into_block true b o xs = qed 𝓛 (‵ (Lies (block_ptr b o) xs) ∷ []) ∵ nothing ! $
        use0 𝓛 (‵ (room_for (array_of (R E) (length xs - length xs)) (block_ptr b o +ₚ length xs * s))) (room_none (length xs) b (o + length xs * s)) $ move ! (2 ∷ 0 ∷ 1 ∷ []) $ fjoin3 ! $ done !
    into_block false b o xs = qed 𝓛 (‵ (Lies (block_ptr b o) xs) ∷ []) ∵ drop ! $ nothing ! $ done !

    of_block : (y : Bool) (b o n : ℕ) (xs : List (el_x E)) → n ≡ length xs → (T (mathlib.Core.Bool.not y) → n ≡ 0)
        → ent 𝓤 (sem 𝓛 (owns_if y (block_with_items (λ _ _. ftrue) (R E) (block_ptr b o) n n xs))) (sem 𝓛 (Lies (block_ptr b o) xs))
    of_block true b o n xs long none = qed 𝓛 (‵ (block_with_items (λ _ _. ftrue) (R E) (block_ptr b o) n n xs) ∷ []) ∵ fsplit ! $ keep ! (0 ∷ []) $
        rewrite ! 0 (λ (k : ℕ). ‵ (lies_at (Array (R E) k) full_share (block_ptr b o) xs)) long refl $ done !
    of_block false b o n xs long none = qed 𝓛 (‵ ftrue ∷ []) ∵ drop ! $
        use0 𝓛 (‵ (Lies (block_ptr b o) xs)) (arrays.empty E' 𝓛 xs b o (sym long ∙ none tt)) $ done !

    pub into_lodged : (b o : ℕ) (xs : List (el_x E))
        → ent 𝓤 (sem 𝓛 (span_owns (R E) (block_ptr b o) xs)) (sem 𝓛 (lodged (R E) (block_ptr b o) (length xs) (length xs) xs))
    into_lodged b o xs = qed 𝓛 (‵ (span_owns (R E) (block_ptr b o) xs) ∷ []) ∵ fsplit ! $ flt_l ! (λ fit.
        use1 𝓛 (‵ (owns_if (has_block (length xs)) (block_with_items (λ _ _. ftrue) (R E) (block_ptr b o) (length xs) (length xs) xs))) (into_block (has_block (length xs)) b o xs) $ flt_i ! (length xs * s) (2 ^ 63) fit $ fjoin ! $ done !)

    pub of_lodged : (p : Ptr) (n : ℕ) (xs : List (el_x E)) → n ≡ length xs → ent 𝓤 (sem 𝓛 (lodged (R E) p n n xs)) (sem 𝓛 (span_owns (R E) p xs))
    of_lodged null_ptr n xs long = qed 𝓛 (‵ (lodged (R E) null_ptr n n xs) ∷ []) ∵ fsplit ! $ drop ! $ by ! (never_e 𝓤 _)
    of_lodged (block_ptr b o) n xs long = qed 𝓛 (‵ (lodged (R E) (block_ptr b o) n n xs) ∷ []) ∵ fsplit ! $ flt_l ! (λ fit.
        use1 𝓛 (‵ (Lies (block_ptr b o) xs)) (of_block (has_block n) b o n xs long (not_live n)) $
        flt_i ! (length xs * s) (2 ^ 63) (subst (λ (k : ℕ). k * s < 2 ^ 63) long fit) $ fjoin ! $ done !)

    module _ (at_mem : Memory → SProp 𝓤) (run : Routine → Fun 𝓤) (κ : Lft) (q : Share) where
      open 𝓛 use {H, A}

      abbrev pub Lodges : Contract 𝓤
      Lodges = triple_of 𝓛 (LG.signature E.row) (LG.spec E.row 𝓛 at_mem run)

      abbrev pub Dislodges : Contract 𝓤
      Dislodges = triple_of 𝓛 (DL.signature E.row) (DL.spec E.row 𝓛 at_mem run)

      module _ (b o n : ℕ) (xs : List (el_x E)) where
        abbrev pub at_lodge : Lodges.Ghost
        at_lodge = (((κ, tt), (q, tt), tt, (block_ptr b o, (n, (n, tt))), (vptr b o ∷ [], (vint w64 n ∷ [], (vint w64 n ∷ [], tt)))), xs)

        abbrev pub IsLodged : Vec (el_x E) Lodged → Type 0
        IsLodged r = (r.items ≡ xs) × (r.len ≡ n) × (r.cap ≡ n) × (r.ptr ≡ block_ptr b o)

        pub lodge_goes : κ ⊑ E.row.lives → length xs ≡ n → n < 2 ^ 63
            → ent 𝓤 (sep 𝓤 (sem 𝓛 (span_owns (R E) (block_ptr b o) xs)) (A.lft κ q)) (Lodges.pre at_lodge)
        lodge_goes le long small =
            let p = block_ptr b o in
            let Asked : Type 0 = (n ≡ length xs) × (n ≤ n) × (n < 2 ^ 63) in
            qed 𝓛 (‵ (span_owns (R E) p xs) ∷ ‵ (flft κ q) ∷ []) ∵ use1 𝓛 (‵ (lodged (R E) p (length xs) (length xs) xs)) (into_lodged b o xs) $
            rewrite ! 0 (λ (k : ℕ). ‵ (lodged (R E) p k k xs)) long refl $
            use0 𝓛 (raw (fact 𝓤 Asked)) (fact_i 𝓤 Asked (emp 𝓤) (sym long, omega arith, small)) $ join ! $
            use0 𝓛 (raw (fact 𝓤 (κ ⊑ E.row.lives))) (fact_i 𝓤 (κ ⊑ E.row.lives) (emp 𝓤) le) $ join ! $
            nothing ! $ flt_i ! n (2 ^ 64) (omega arith) $ feq_i ! (List Val) (vint w64 n ∷ []) (vint w64 n ∷ []) refl $ fjoin ! $ fjoin ! $
            flt_i ! n (2 ^ 64) (omega arith) $ feq_i ! (List Val) (vint w64 n ∷ []) (vint w64 n ∷ []) refl $ fjoin ! $ fjoin ! $
            feq_i ! (List Val) (vptr b o ∷ []) (vptr b o ∷ []) refl $ fjoin ! $ nothing ! $ move ! (3 ∷ 0 ∷ []) $ join ! $ join ! $ done !

        pub lodge_gives : (v : Val) → ent 𝓤 (Lodges.post at_lodge v) (H.⇛ (ex 𝓤 (λ (r : Vec (el_x E) Lodged). guard 𝓤 (IsLodged r) (sep 𝓤 (sem 𝓛 (LodgedVec.own_val r (v ∷ []))) (A.lft κ q)))))
        lodge_gives v =
            qed 𝓛 (raw (Lodges.post at_lodge v) ∷ []) ∵ updating ! $
            use1 𝓛 (later (some (λ (r : Vec (el_x E) Lodged). ((‵ (flft κ q) ⊛ ‵ ftrue) ⊛ ‵ (LodgedVec.own_val r (v ∷ [])))
            ⊛ some (λ (ws : Unit {0} × (Unit {0} × (Unit {0} × Unit {0}))). ‵ (fsep ftrue (fsep ftrue (fsep ftrue ftrue))) ⊛ raw (fact 𝓤 (IsLodged r)))))) (id⊢ 𝓤 _) $ await ! tt $ pick ! (λ r.
            split ! $ move ! (1 ∷ []) $ pick ! (λ ws. split ! $ drop ! $ heard ! (IsLodged r) (λ is. split ! $ split ! $ move ! (2 ∷ []) $ now ! $
            show ! (λ (z : Vec (el_x E) Lodged). guard 𝓤 (IsLodged z) (sep 𝓤 (sem 𝓛 (LodgedVec.own_val z (v ∷ []))) (A.lft κ q))) r $ check ! is $
            keep ! (0 ∷ 1 ∷ []) $ done !)))

      module _ (d : Vec (el_x E) Lodged) (u : Val) where
        abbrev pub at_dislodge : Dislodges.Ghost
        at_dislodge = (((κ, tt), (q, tt), tt, (d, tt), (u ∷ [], tt)), tt)

        pub dislodge_goes : κ ⊑ E.row.lives → ent 𝓤 (sep 𝓤 (sem 𝓛 (LodgedVec.own_val d (u ∷ []))) (A.lft κ q)) (Dislodges.pre at_dislodge)
        dislodge_goes le =
            qed 𝓛 (‵ (LodgedVec.own_val d (u ∷ [])) ∷ ‵ (flft κ q) ∷ []) ∵ nothing ! $
            use0 𝓛 (raw (fact 𝓤 (κ ⊑ E.row.lives))) (fact_i 𝓤 (κ ⊑ E.row.lives) (emp 𝓤) le) $ join ! $
            nothing ! $ move ! (2 ∷ 0 ∷ []) $ fjoin ! $ nothing ! $ move ! (3 ∷ 0 ∷ []) $ join ! $ join ! $ done !

        pub dislodge_gives : d.cap ≡ d.len → (v : Val)
            → ent 𝓤 (Dislodges.post at_dislodge v) (H.⇛ (guard 𝓤 ((v ≡ vint w64 d.len) × (d.len < 2 ^ 64)) (sep 𝓤 (sem 𝓛 (span_owns (R E) d.ptr d.items)) (A.lft κ q))))
        dislodge_gives full v =
            qed 𝓛 (raw (Dislodges.post at_dislodge v) ∷ []) ∵ updating ! $
            use1 𝓛 (later (some (λ (r : ℕ). ((‵ (flft κ q) ⊛ ‵ ftrue) ⊛ ‵ (usize.own_val r (v ∷ [])))
            ⊛ some (λ (ws : Unit {0} × Unit {0}). ‵ (fsep (left ((V.the_row (R E) L.the_row ghosts).exit no) d ws.0) ftrue) ⊛ raw (fact 𝓤 (r ≡ d.len)) ⊛ ‵ (lodged (R E) d.ptr d.len d.cap d.items))))) (id⊢ 𝓤 _) $ await ! tt $ pick ! (λ r.
            split ! $ move ! (1 ∷ []) $ pick ! (λ ws. split3 ! $ drop ! $ heard ! (r ≡ d.len) (λ is. move ! (1 ∷ []) $ split ! $ split ! $
            move ! (2 ∷ []) $ fsplit ! $ feq_l ! (λ e. flt_l ! (λ f. now ! $
            check ! (ap only e ∙ ap (vint w64) is, omega arith) $ move ! (2 ∷ 0 ∷ []) $ keep ! (0 ∷ 1 ∷ []) $
            rewrite ! 0 (λ (k : ℕ). ‵ (lodged (R E) d.ptr d.len k d.items)) full refl $
            use1 𝓛 (‵ (span_owns (R E) d.ptr d.items)) (of_lodged d.ptr d.len d.items d.ok.0) $ done !)))))
