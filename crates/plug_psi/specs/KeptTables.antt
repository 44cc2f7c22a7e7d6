-- What is kept of the tables of a PID, and what is reported of those that a packet completes.
-- This project's own rule.
use Rattle.std.specs.Prelude.{◌≡◌, ℕ, false, List, [], ◌∷◌, ◌++◌, Option, nat_eq, option_map}
use Rattle.indexmap.specs.IndexMap.{get}
use Rattle.ts_demux.specs.TablesOn.{Completes, tables_on}
use Rattle.ts_psi.specs.CatTables.{cat_held}
use Rattle.ts_psi.specs.PatTables.{pat_held}
use Rattle.ts_psi.specs.PsiTables.{pmt_held}
use Rattle.ts_psi.specs.declared.pat.Pat.{Pat}
use Rattle.plug_psi.specs.CatInForce.{current_cat}
use Rattle.plug_psi.specs.InForce.{current_pat, current_pmt}
use Rattle.plug_psi.specs.LastFound.{last_found}
use Rattle.plug_psi.specs.declared.kept.Kept.{Kept}
use Rattle.plug_psi.specs.declared.kept_cat.KeptCat.{KeptCat}
use Rattle.plug_psi.specs.declared.kept_pmts.KeptPmts.{KeptPmts}

-- the PAT that is kept is the last current one of the tables of a PID
abbrev pub KeepsPat : Option Pat → ℕ → List (List ℕ) → Type 0
KeepsPat pat pid taken = option_map pat_held pat ≡ last_found current_pat (tables_on pid taken)

-- the CAT that is kept is the last current one of the tables of a PID
abbrev pub KeepsCat : KeptCat → ℕ → List (List ℕ) → Type 0
KeepsCat kept pid taken = option_map cat_held kept.cat ≡ last_found current_cat (tables_on pid taken)

-- the PMT that is kept of each service is its last current one of the tables of a PID
abbrev pub KeepsPmts : KeptPmts → ℕ → List (List ℕ) → Type 0
KeepsPmts kept pid taken = (service : ℕ) → option_map pmt_held (get nat_eq kept.pmts service) ≡ last_found (current_pmt service) (tables_on pid taken)

-- the tables of a packet are handed on; if none of them was kept, the same is found in the tables with it as without it
pub record TellsFound {X : Type 0} (found : List (List ℕ) → Option X) (pid : ℕ) (taken : List (List ℕ)) (packet : List ℕ) (told : Kept) : Type 0 where
  pub completes : Completes pid taken packet told.tables.items
  pub same : told.came ≡ false → last_found found (tables_on pid (taken ++ packet ∷ [])) ≡ last_found found (tables_on pid taken)

-- the same for the PMT of each service
abbrev pub TellsPmts : ℕ → List (List ℕ) → List ℕ → Kept → Type 0
TellsPmts pid taken packet told = (service : ℕ) → TellsFound (current_pmt service) pid taken packet told
