-- All stages of a chain, from those of the input and of the row after it.
use Rattle.std.proofs.Common.{◌≡◌, ℕ, suc, ◌+◌, ◌<◌, List, [], ◌∷◌, ◌++◌, length, true, ◌∙◌, subst, arith}
use Rattle.cell_land.specs.declared.cell_window.Bases.{Bases}
use Rattle.atomic_table.specs.Seated.{TableId}
use Rattle.stage_run.specs.Seeing.{Seeing}
use Rattle.chain_rounds.specs.declared.told_line.ToldLine.{ToldLine}
use Rattle.chain_run.specs.Runs.{RunStart, told_to}
use Rattle.window_ring.specs.declared.ring.Ring.{Ring}
use Rattle.window_ring.specs.Seats.{key_of, table_of}
use Rattle.chain_threads.specs.Standing.{key_at}
use Rattle.chain_threads.specs.Driving.{AreBeside}
use Rattle.chain_threads.proofs.Carries.{each_first}
use Rattle.chain_live_threads.specs.declared.live_stage.LiveStage.{LiveStage}
use Rattle.chain_live_threads.specs.Serving.{Serves}
use Rattle.chain_live_threads.specs.Rows.{HaveEnded, AreReady, Carried}
use Rattle.chain_live_threads.specs.RowTakes.{RowServes}
use Rattle.chain_live_threads.specs.RowWent.{RowReady, RowWent}
use Rattle.chain_live_threads.specs.AllWent.{after_first, AllServe, AllReady, AllWent}
use Rattle.chain_live_threads.proofs.Carries.{kept_open, kept_number, over_both}
use Rattle.chain_live_threads.proofs.ToldLemmas.{serves-told}

module _ {S K P : Type 0} (see : Seeing S K P) where
  -- the row after the input
  pub rest-serves : (begun : RunStart S K) (base : Bases) (table : TableId) (stages : List (LiveStage S K P)) → AllServe see begun base table stages → RowServes see begun base table (after_first stages)
  rest-serves begun base table [] s = absurd (let m = s.many in omega (arith, m))
  rest-serves begun base table (x ∷ xs) s = record {
    numbers = s.numbers.1;
    many = (let m = s.many in omega (arith, m));
    rules_are = s.rules_are;
    serve = s.serve.1;
  }

  -- all of them serve a run of this ring
  pub all-ready : (ring : Ring) (told : ℕ) (begun : RunStart S K) (base : Bases) (stages : List (LiveStage S K P)) → key_of ring ≡ key_at begun base
      → AllServe see (told_to begun (λ _. told)) base (table_of ring) stages → AllReady see ring told stages
  unfolding AllReady
  all-ready ring told begun base stages key s = (begun, base, key, s)

  after-one : (stages first rest : List (LiveStage S K P)) → stages ≡ first ++ rest → length first ≡ 1 → after_first stages ≡ rest
  after-one stages [] rest is one = absurd (omega (arith, one))
  after-one stages (x ∷ []) rest is one = Rattle.std.proofs.Common.ap after_first is
  after-one stages (x ∷ y ∷ ys) rest is one = absurd (omega (arith, one))

  module _ (ring : Ring) (told : ℕ) (stages first rest : List (LiveStage S K P)) (is : stages ≡ first ++ rest) (one : length first ≡ 1) where
    pub first-ready : AllReady see ring told stages → AreReady see ring first
    unfolding AllReady AreReady
    first-ready r = (told_to r.0 (λ _. told), r.1, r.2, each_first (Serves see (told_to r.0 (λ _. told)) r.1 (table_of ring)) stages first rest is r.3.serve)

    pub rest-ready : AllReady see ring told stages → RowReady see ring told rest
    unfolding AllReady RowReady
    rest-ready r = (
      r.0,
      r.1,
      r.2,
      subst (RowServes see (told_to r.0 (λ _. told)) r.1 (table_of ring)) (after-one stages first rest is one)
          (rest-serves (told_to r.0 (λ _. told)) r.1 (table_of ring) stages r.3),
    )

  module _ {L : Type 0} (ring : Ring) (hears : L → L → List ToldLine → Type 0) (was now : L) (told told_new : ℕ) where
    -- the input alone, and the row
    went-one : (x y : LiveStage S K P) (rest rest_new : List (LiveStage S K P)) → Carried see ring (x ∷ []) (y ∷ []) → RowWent see ring hears was now told told_new rest rest_new
        → HaveEnded true (y ∷ []) → HaveEnded true rest_new → AllWent see ring hears was now told told_new (x ∷ rest) (y ∷ rest_new)
    unfolding AreBeside
    went-one x y rest rest_new c w first over = record {
      ended = over_both (y ∷ []) rest_new first over;
      serves = λ begun base e s.
          let row = w.serves begun base e (rest-serves (told_to begun (λ _. told)) base (table_of ring) (x ∷ rest) s) in
          let number : y.seat.stage ≡ 0 = kept_number see ring x y c.0 ∙ s.numbers.0 in
          record {
            numbers = (number, row.numbers);
            many = (let m = row.many in omega (arith, m));
            rules_are = row.rules_are;
            serve = (
              serves-told see (told_to begun (λ _. told)) base (table_of ring) (λ _. told_new) y (λ j e lt. absurd (omega (arith, e, number)))
                  (kept_open see ring x y c.0 (told_to begun (λ _. told)) base e s.serve.0).0,
              row.serve,
            );
          };
      tells = λ begun base plugins name_of begin e t. w.tells begun base plugins name_of begin e t;
    }

    by-first : (first first_new rest rest_new : List (LiveStage S K P)) → length first ≡ 1 → Carried see ring first first_new → RowWent see ring hears was now told told_new rest rest_new
        → HaveEnded true first_new → HaveEnded true rest_new → AllWent see ring hears was now told told_new (first ++ rest) (first_new ++ rest_new)
    unfolding AreBeside
    by-first [] first_new rest rest_new one c w f o = absurd (omega (arith, one))
    by-first (x ∷ []) [] rest rest_new one c w f o = absurd c
    by-first (x ∷ []) (y ∷ []) rest rest_new one c w f o = went-one x y rest rest_new c w f o
    by-first (x ∷ []) (y ∷ z ∷ zs) rest rest_new one c w f o = absurd c.1
    by-first (x ∷ y ∷ ys) first_new rest rest_new one c w f o = absurd (omega (arith, one))

    pub all-went : (stages first first_new rest rest_new : List (LiveStage S K P)) → stages ≡ first ++ rest → length first ≡ 1 → Carried see ring first first_new
        → RowWent see ring hears was now told told_new rest rest_new → HaveEnded true first_new → HaveEnded true rest_new
        → AllWent see ring hears was now told told_new stages (first_new ++ rest_new)
    all-went stages first first_new rest rest_new is one c w f o =
        subst (λ (l : List (LiveStage S K P)). AllWent see ring hears was now told told_new l (first_new ++ rest_new)) (Rattle.std.proofs.Common.sym is)
        (by-first first first_new rest rest_new one c w f o)
