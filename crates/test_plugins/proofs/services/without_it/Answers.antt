use Rattle.std.proofs.Common.{rules, List, [], ◌∷◌, ◌<◌, ◌≤◌, length, sym, subst, arith}
use Rattle.std.specs.List.{All, IsDistinct}
use Rattle.std.proofs.lemmas.List.Elements.{All-cons, All-nil}
use Rattle.named_services.specs.ServiceWords.{SaysService, is_same}
use Rattle.named_services.specs.declared.service_word.ServiceWord.{ServiceWord}
use Rattle.named_services.specs.declared.service_word.ServiceWord.TheVariants.{Number}
use Rattle.test_plugins.proofs.services.without_it.Goals as goal

one-different : IsDistinct is_same (Number 1 ∷ [])
unfolding IsDistinct
one-different = (tt, tt)

pub new_svremove-requires : goal.new_svremove-requires
new_svremove-requires c =
    let words = sym c.in_ok-service_1.ensures in
    record {
      words = subst (All SaysService) words (All-cons SaysService (Number 1) [] (omega (arith), omega (arith)) (All-nil SaysService));
      some = subst (λ (l : List ServiceWord). 0 < length l) words (search rules);
      few = subst (λ (l : List ServiceWord). length l ≤ 62) words (search rules);
      different = subst (IsDistinct is_same) words one-different;
    }
