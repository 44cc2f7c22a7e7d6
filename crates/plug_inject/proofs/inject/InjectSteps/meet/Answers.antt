use Rattle.std.proofs.Common.{◌∙◌, ◌∷◌, ap, refl, subst, sym, Option}
use Rattle.plug_inject.specs.InjectState.{Numbers, counting_behind, how_of, recounted}
use Rattle.plug_inject.specs.declared.counting.Counting.{Counting}
use Rattle.plug_inject.proofs.NumberLemmas.{numbers-more, recounts}
use Rattle.plug_inject.proofs.inject.InjectSteps.meet.Goals as goal

pub returns-clause-made : goal.returns-clause-made
returns-clause-made c = λ older counts numbers.
    let old = c.args.self.now in
    c.count.ensures.packet
    ∙ ap (λ (counting : Option Counting). recounted counting c.put-replaced.new.packet) c.put-replaced.ensures.counting
    ∙ recounts (how_of old) old.counting older c.args.packet.now c.put-replaced.new.packet refl numbers (c.put-replaced.ensures.made older counts)

pub returns-clause-numbers : goal.returns-clause-numbers
returns-clause-numbers c = λ older counts numbers.
    let old = c.args.self.now in
    subst (λ (counting : Option Counting). Numbers (how_of old) counting (c.args.packet.now ∷ older))
    (sym (c.count.ensures.counting ∙ ap (λ (counting : Option Counting). counting_behind counting c.put-replaced.new.packet) c.put-replaced.ensures.counting))
    (numbers-more (how_of old) old.counting older c.args.packet.now c.put-replaced.new.packet numbers (c.put-replaced.ensures.made older counts))
