-- The tables of one PID, one section after another.
use Rattle.std.proofs.Common.{◌≡◌, ℕ, List, [], ◌∷◌, ◌++◌, Option, refl, sym, ◌∙◌, ap, append-nil, append_assoc, subst}
use Rattle.std.specs.Option.{option_to_list}
use Rattle.ts_demux.specs.SectionsOfPid.{sections_of_pid}
use Rattle.ts_demux.specs.Tables.{tables_after, tables_of}
use Rattle.ts_demux.specs.TablesOn.{tables_on}
use Rattle.ts_demux.specs.DemuxState as demuxing
use Rattle.ts_demux.specs.DemuxState.{DemuxState, GivesFirst}
use Rattle.ts_demux.specs.AssemblyState as assembling
use Rattle.ts_demux.specs.AssemblyState.{AssemblyState}
use Rattle.ts_demux.specs.PidTables.{Holds}
use Rattle.ts_demux.specs.SectionsOfParts.{sections_of_parts}

-- no packets have no sections
pub no_sections : (pid : ℕ) → sections_of_pid pid [] ≡ []
unfolding sections_of_parts
no_sections pid = refl

-- and no tables
pub no_tables : (pid : ℕ) → tables_on pid [] ≡ []
unfolding sections_of_parts tables_after
no_tables pid = refl

-- nothing was taken
pub holds_new : (demux : DemuxState) (assembly : AssemblyState) (pid : ℕ) → demuxing.StandsFor demux pid [] [] → assembling.StandsFor assembly []
    → Holds demux assembly pid [] (sections_of_pid pid [])
holds_new demux assembly pid d a = subst (Holds demux assembly pid []) (sym (no_sections pid)) (record { demuxed = d; assembled = a })

-- some sections were put together, and these tables came of them
pub record WentOn (demux : DemuxState) (assembly : AssemblyState) (pid : ℕ) (taken given : List (List ℕ)) (tables : List (List (List ℕ))) : Type 0 where
  pub now : List (List ℕ)
  pub holds : Holds demux assembly pid taken now
  pub came : tables_of now ≡ tables_of given ++ tables

-- none yet
pub went_none : (demux : DemuxState) (assembly : AssemblyState) (pid : ℕ) (taken given : List (List ℕ)) (tables : List (List (List ℕ))) → tables ≡ []
    → Holds demux assembly pid taken given → WentOn demux assembly pid taken given tables
went_none demux assembly pid taken given tables none h = record {
  now = given;
  holds = h;
  came = sym (ap (λ (ts : List (List (List ℕ))). tables_of given ++ ts) none ∙ append-nil (tables_of given));
}

-- one section more
pub went_more :
    (d e : DemuxState) (a b : AssemblyState) (s : List ℕ) (table : Option (List (List ℕ))) (pid : ℕ) (taken given : List (List ℕ)) (tables tables_new : List (List (List ℕ))) →
    GivesFirst d e s →
    ((before : List (List ℕ)) → assembling.StandsFor a before → assembling.StandsFor b (before ++ s ∷ [])) →
    ((before : List (List ℕ)) → assembling.StandsFor a before → tables_of (before ++ s ∷ []) ≡ tables_of before ++ option_to_list table) →
    tables_new ≡ tables ++ option_to_list table →
    WentOn d a pid taken given tables → WentOn e b pid taken given tables_new
went_more d e a b s table pid taken given tables tables_new first stands completes pushed w = record {
  now = w.now ++ s ∷ [];
  holds = record { demuxed = first.stands pid taken w.now w.holds.demuxed; assembled = stands w.now w.holds.assembled };
  came = completes w.now w.holds.assembled
      ∙ (ap (λ (ts : List (List (List ℕ))). ts ++ option_to_list table) w.came
      ∙ (append_assoc (tables_of given) tables (option_to_list table)
      ∙ ap (λ (ts : List (List (List ℕ))). tables_of given ++ ts) (sym pushed)));
}

module _ (d : DemuxState) (a : AssemblyState) (pid : ℕ) (taken given : List (List ℕ)) (tables : List (List (List ℕ))) (over : d.waiting ≡ [])
    (w : WentOn d a pid taken given tables) where
  all_given : sections_of_pid pid taken ≡ w.now
  all_given = w.holds.demuxed.sections ∙ (ap (λ (ss : List (List ℕ)). w.now ++ ss) over ∙ append-nil w.now)

  -- where nothing waits, all are put together
  pub went_all : (e : DemuxState) → e ≡ d → Holds e a pid taken (sections_of_pid pid taken)
  went_all e same = subst (λ (x : DemuxState). Holds x a pid taken (sections_of_pid pid taken)) (sym same) (subst (Holds d a pid taken) (sym all_given) w.holds)

  pub came_all : tables_of (sections_of_pid pid taken) ≡ tables_of given ++ tables
  came_all = ap tables_of all_given ∙ w.came
