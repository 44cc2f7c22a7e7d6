-- What a layer above needs of a run, in other words.
use Rattle.std.proofs.Common.{ℕ, suc, List, [], ◌∷◌, take, arith}
use Rattle.std.specs.Prelude.{Ok, Err, IsOk, OnErr}
use Rattle.std.specs.declared.result.Result.{Result}
use Rattle.std.proofs.lemmas.List.{take-take, length-take}
use Rattle.ts_packet.specs.declared.cell.Cell.{Cell}
use Rattle.chain_model.specs.PluginRule.{PluginRule}
use Rattle.chain_model.specs.Apply.{StageList}
use Rattle.chain_model.specs.StageLists.{stage_list}
use Rattle.chain_run.specs.Met.{AllMetTo, AllMetFirst}

-- plugins that met the first cells of their lists met the cells before the cut
pub met-to : {P : Type 0} (stands : P → List Cell → ℕ → Type 0) (rules : List PluginRule) (input : StageList) (gave : ℕ → ℕ) (cut j : ℕ) (plugins : List P)
    → AllMetFirst stands rules input gave cut j plugins → AllMetTo stands rules input cut j plugins
met-to stands rules input gave cut j [] met = tt
met-to stands rules input gave cut j (plugin ∷ plugins) met =
    let first = met.0 in
    let list : List Cell = (stage_list rules input j).cells in (
      record {
        history = take (gave (suc j)) list;
        mark = first.mark;
        holds = first.holds;
        told = first.told;
        reach = (let a = first.reach in let b = first.within in omega (arith, length-take (gave (suc j)) list));
        same = take-take cut (gave (suc j)) list first.reach;
      },
      met-to stands rules input gave cut (suc j) plugins met.1,
    )

-- of an answer that is there no clause on its fault says anything
pub never-err : {T E : Type 0} (r : Result T E) (P : Type 0) → IsOk r → OnErr r P
never-err (Ok value) P is = tt
never-err (Err fault) P is = absurd cc
