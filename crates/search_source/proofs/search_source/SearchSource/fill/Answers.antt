use Rattle.std.proofs.Common.{◌≡◌, ◌≤◌, ◌+◌, ◌-◌, ◌∙◌, ℕ, List, [], length, take, ap, sym, arith}
use Rattle.ts_outside.proofs.Views.{take-filled}
use Rattle.search_source.specs.SearchView.{SearchView, search_view, unsearched}
use Rattle.search_source.proofs.Filled.{length-put_mid}
use Rattle.search_source.proofs.Views.{seen-both}
use Rattle.search_source.proofs.search_source.SearchSource.fill.Goals as goal

pub loop-filled-preserved : goal.loop-filled-preserved
loop-filled-preserved g c =
    let new = c.give_next-count.new.self in
    let filled : ℕ = c.loop-filled.filled in
    let count : ℕ = c.give_next-count.result in
    let into : List ℕ = c.loop-filled.into in
    let part : List ℕ = c.give_next-count.new.into in
    let k : ℕ = length into - filled in
    let view : SearchView = search_view new.finder (g.S.Source.seen new.first.value) (g.S.Source.seen new.source) in
    let few : count ≤ length part = c.give_next-count.ensures.within in
    let within : filled ≤ length into = c.loop-filled.invariant.within in
    let long : length part ≡ k = omega arith in
    let fits : filled + k ≤ length into = omega arith in
    let size = length-put_mid filled k into part fits long in
    record {
      some = omega (arith, c.loop-filled.invariant.some);
      within = omega arith;
      moved = c.loop-filled.invariant.moved
          ∙ ap (unsearched (take filled into) []) c.give_next-count.ensures.moved
          ∙ seen-both (take filled into) (take count part) view
          ∙ ap (λ (l : List ℕ). unsearched l [] view) (sym (take-filled filled k count into part within few));
      source = c.give_next-count.ensures.source ∙ c.loop-filled.invariant.source;
      ended = c.give_next-count.ensures.ended ∙ c.loop-filled.invariant.ended;
    }
