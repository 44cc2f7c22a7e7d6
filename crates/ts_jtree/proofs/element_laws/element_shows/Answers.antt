use Rattle.ts_jtree.specs.Shown.{element_base}
use Rattle.ts_jtree.proofs.KnownLemmas.{children_shown, keys_shown, name_shown, none_there, shows_of}
use Rattle.ts_jtree.proofs.element_laws.element_shows.Goals as goal

pub returns-clause-name : goal.returns-clause-name
returns-clause-name c = λ rs called nodes values shows. name_shown rs called nodes values (shows_of rs shows)

pub returns-clause-keys : goal.returns-clause-keys
returns-clause-keys c = λ rs called nodes values shows. keys_shown rs called nodes values (shows_of rs shows)

pub returns-clause-values : goal.returns-clause-values
returns-clause-values c = λ rs called nodes values shows fit inside.
    let s = shows_of rs shows in
    c.shown_is_read.ensures rs values (element_base called nodes) fit inside s.keys (none_there rs called nodes s)

pub returns-clause-children : goal.returns-clause-children
returns-clause-children c = λ rs called nodes values shows. children_shown rs called nodes values (shows_of rs shows)
