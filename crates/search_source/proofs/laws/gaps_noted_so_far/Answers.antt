use Rattle.std.proofs.Common.{option_to_list}
use Rattle.search_source.specs.Coming.{hand_of}
use Rattle.search_source.proofs.SinceLemmas.{noted-of}
use Rattle.search_source.proofs.laws.gaps_noted_so_far.Goals as goal

pub returns : goal.returns
returns g c = λ source form file given old left_is origin_is moved same small lossless.
    let f = source.source.finder in
    let first = g.S.Source.seen source.source.first.value in
    let inner = g.S.Source.seen source.source.source in
    noted-of form f.form f.due f.tail f.near f.left f.number (option_to_list f.noted) (hand_of f) file given source.from source.gaps.items old first.left inner.left
    left_is origin_is moved same small (source.kept lossless)
