use Rattle.std.proofs.Common.{option_to_list, refl}
use Rattle.search_source.specs.Coming.{hand_of}
use Rattle.search_source.proofs.search_source.SearchSource.into_inner.Goals as goal

pub returns-clause-through : goal.returns-clause-through
returns-clause-through g c =
    let f = c.args.self.finder in
    record {
      form = f.form;
      due = f.due;
      tail = f.tail;
      near = f.near;
      left = f.left;
      number = f.number;
      noted = option_to_list f.noted;
      hand = hand_of f;
      unit_is = refl;
      coming = refl;
      faults = refl;
      behind = c.args.self.behind;
    }
