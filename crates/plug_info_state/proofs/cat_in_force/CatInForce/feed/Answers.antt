use Rattle.std.proofs.Common.{◌≡◌, ◌==◌, false, sym, ◌∙◌, ap, List, ℕ, Option}
use Rattle.std.specs.Prelude.{fold, option_map}
use Rattle.ts_table_rows.specs.TableValues.{TableHolding}
use Rattle.ts_psi.specs.CatTables.{cat_held}
use Rattle.plug_psi.specs.LastFound.{newer}
use Rattle.plug_psi.specs.CatInForce.{current_cat}
use Rattle.std.proofs.lemmas.Bool.{ne_eqb}
use Rattle.plug_info_state.proofs.CatLemmas.{cat-fed, cat-other}
use Rattle.plug_info_state.proofs.cat_in_force.CatInForce.feed.Goals as goal

pub returns-then-pid-ne-CAT_PID : goal.returns-then-pid-ne-CAT_PID
returns-then-pid-ne-CAT_PID c =
    let other : (c.pid.result == 1) ≡ false = ne_eqb c.pid.result 1 c.if-pid-ne-CAT_PID.true in
    λ fed w. cat-other c.args.self.now fed c.args.packet.now (ap (λ n. n == 1) (sym c.pid.ensures.field) ∙ other)
    c.uncounted_packets_change_nothing.ensures c.other_packets_complete_nothing.ensures w

pub returns : goal.returns
returns c = λ fed w.
    cat-fed c.args.self.now _ fed c.args.packet.now c.in_ok-tables.tables.items w
    (c.in_ok-tables.ensures.stands 1 fed w.read) (c.in_ok-tables.ensures.completes 1 fed w.read) (c.in_ok-keep_cats.ensures
    ∙ ap (fold (λ (old : Option TableHolding) (table : List (List ℕ)). newer old (current_cat table)) (option_map cat_held c.args.self.now.cat)) c.deref.ensures.value)
