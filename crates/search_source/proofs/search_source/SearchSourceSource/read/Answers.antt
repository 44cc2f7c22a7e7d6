use Rattle.std.proofs.Common.{◌≡◌, ◌<◌, ◌*◌, ◌∙◌, ℕ, Bool, true, false, if◌then◌else◌, [], take, option_to_list, ap, sym, subst, arith}
use Rattle.packet_forms.specs.Stripped.{unit}
use Rattle.ts_outside.specs.Source.{SourceView}
use Rattle.search_source.specs.SearchView.{IsWithin, search_view, unsearched}
use Rattle.search_source.proofs.Views.{at-end, ended-none, seen-round}
use Rattle.search_source.proofs.search_source.SearchSourceSource.read.Goals as goal

pub returns-then-self-clause-at_end : goal.returns-then-self-clause-at_end
returns-then-self-clause-at_end g c = λ zero.
    let new = c.fill-count.new.self in
    let none : c.fill-count.result ≡ 0 = omega arith in
    let few = c.fill-count.ensures.few none in
    let ended : c.loop.self.ended ≡ true = sym c.fill-count.ensures.ended ∙ c.if-self.true in
    let short : new.finder.have < (if true then 1 else 6 * unit new.finder.form) =
    subst (λ (b : Bool). new.finder.have < (if b then 1 else 6 * unit new.finder.form)) ended few.1 in
    at-end new.finder (g.S.Source.seen new.source).left (omega arith) (new.at_end c.if-self.true)

pub returns-then-self-clause-end : goal.returns-then-self-clause-end
returns-then-self-clause-end g c = λ zero.
    let new = c.fill-count.new.self in
    let none : c.fill-count.result ≡ 0 = omega arith in
    let few = c.fill-count.ensures.few none in
    let ended : c.loop.self.ended ≡ true = sym c.fill-count.ensures.ended ∙ c.if-self.true in
    let short : new.finder.have < (if true then 1 else 6 * unit new.finder.form) =
    subst (λ (b : Bool). new.finder.have < (if b then 1 else 6 * unit new.finder.form)) ended few.1 in
    ended-none
    (search_view c.args.self.now.finder (g.S.Source.seen c.args.self.now.first.value) (g.S.Source.seen c.args.self.now.source))
    (search_view new.finder (g.S.Source.seen new.first.value) (g.S.Source.seen new.source))
    (option_to_list c.args.self.now.finder.noted) new.finder
    (seen-round _ _ _ _ (take c.fill-count.result c.fill-count.new.into) c.loop.invariant.seen c.fill-count.ensures.moved (ap (λ (n : ℕ). take n c.fill-count.new.into) none))
    (at-end new.finder (g.S.Source.seen new.source).left (omega arith) (new.at_end c.if-self.true))

pub loop-preserved : goal.loop-preserved
loop-preserved g c =
    let none : c.fill-count.result ≡ 0 = omega arith in
    record {
      seen = seen-round _ _ _ _ (take c.fill-count.result c.fill-count.new.into) c.loop.invariant.seen c.fill-count.ensures.moved (ap (λ (n : ℕ). take n c.fill-count.new.into) none)
          ∙ ap (unsearched [] (option_to_list c.args.self.now.finder.noted)) c.in_ok-read_once.ensures.seen;
      noted = c.in_ok-read_once.ensures.noted ∙ c.fill-count.ensures.noted none;
      within = c.in_ok-read_once.ensures.within c.loop.counter
          (subst (λ (v : SourceView). IsWithin v.left c.loop.counter false) (sym (ap g.S.Source.seen c.fill-count.ensures.source))
          (subst (λ (b : Bool). IsWithin (g.S.Source.seen c.loop.self.source).left c.loop.counter b) (sym c.fill-count.ensures.ended ∙ c.if-self.false)
          c.loop.invariant.within));
    }
