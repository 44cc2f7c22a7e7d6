use Rattle.std.proofs.Common.{◌≡◌, ◌-◌, ◌^◌, ℕ, List, Option, refl, subst, arith}
use Rattle.std.specs.Prelude.{IfSome}
use Rattle.search_source.specs.SearchView.{SearchView, search_view, plain, IsWithin}
use Rattle.switch_top.specs.PlayLists.{left_out_of}
use Rattle.switch_top.proofs.FoundLemmas.{first-within, never-over}
use Rattle.switch_top.proofs.found_source.FoundSource.finish.Goals as goal

pub loop-init : goal.loop-init
loop-init g c = record { file = refl; faults = refl; within = first-within _ c.args.self.now.ended c.args.self.now.few }

pub returns-then-self-clause-left_out : goal.returns-then-self-clause-left_out
returns-then-self-clause-left_out g c =
    subst (λ (o : Option (List ℕ)). IfSome o (λ file. c.all_left_out.result ≡ left_out_of file)) c.loop.invariant.file c.all_left_out.ensures

pub returns-clause-left_out : goal.returns-clause-left_out
returns-clause-left_out g c =
    let self = c.loop.self in
    let view : SearchView = search_view self.source.finder (g.S.Source.seen self.source.first.value) (g.S.Source.seen self.source.source) in
    let last : c.loop.counter ≡ 2 ^ 64 - 1 = omega arith in
    subst (λ (o : Option (List ℕ)). IfSome o (λ file. 0 ≡ left_out_of file)) c.loop.invariant.file
    (never-over view self.left_out 0 self.ended self.counts (subst (λ n. IsWithin (plain view).left n self.ended) last c.loop.invariant.within))
