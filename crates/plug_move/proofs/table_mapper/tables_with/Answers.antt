use Rattle.std.proofs.Common.{◌≡◌, ◌==◌, false, true, [], ◌∷◌, ◌++◌, sym, ◌∙◌, ap, refl, subst, true≢false}
use Rattle.std.proofs.lemmas.Bool.{ne_eqb}
use Rattle.ts_packet.specs.Header.{pid_of}
use Rattle.ts_demux.specs.PidTables.{StandsFor}
use Rattle.ts_demux.specs.TablesOn.{packets_on}
use Rattle.ts_demux.proofs.TakenLemmas.{on-other, on-own}
use Rattle.plug_psi.specs.InForce.{follows, is_named, may_have_tables}
use Rattle.plug_psi.proofs.Choice.{neither}
use Rattle.plug_psi.proofs.ForceLemmas.{pat-other}
use Rattle.plug_move.specs.CompletedTables.{IsCompleted}
use Rattle.plug_move.proofs.MapperLemmas.{err-none, fixed-completed, named-completed, not-fixed}
use Rattle.plug_move.proofs.table_mapper.tables_with.Goals as goal

pub returns-then-pid-eq-PAT_PID-clause-tables : goal.returns-then-pid-eq-PAT_PID-clause-tables
returns-then-pid-eq-PAT_PID-clause-tables c = λ met f r.
    let at : pid_of c.args.packet.now ≡ 0 = sym c.pid-pid.ensures.field ∙ c.if-pid-eq-PAT_PID.true in
    subst (IsCompleted met c.args.packet.now) (sym c.take_pats.ensures.pats) (fixed-completed 0 met c.args.packet.now _ refl at (c.in_ok-update.ensures.pats met f at))

pub returns-then-pid-eq-CAT_PID-clause-cats : goal.returns-then-pid-eq-CAT_PID-clause-cats
returns-then-pid-eq-CAT_PID-clause-cats c = λ met r.
    let at : pid_of c.args.packet.now ≡ 1 = sym c.pid-pid.ensures.field ∙ c.if-pid-eq-CAT_PID.true in
    subst (StandsFor c.take.new.self 1) (sym (on-own 1 met c.args.packet.now at)) (c.in_ok-tables.ensures.stands 1 (packets_on 1 met) r)

pub returns-then-pid-eq-CAT_PID-clause-tables : goal.returns-then-pid-eq-CAT_PID-clause-tables
returns-then-pid-eq-CAT_PID-clause-tables c = λ met f r.
    let at : pid_of c.args.packet.now ≡ 1 = sym c.pid-pid.ensures.field ∙ c.if-pid-eq-CAT_PID.true in
    fixed-completed 1 met c.args.packet.now c.in_ok-tables.tables.items refl at (c.in_ok-tables.ensures.completes 1 (packets_on 1 met) r)

pub returns-then-follows-clause-cats : goal.returns-then-follows-clause-cats
returns-then-follows-clause-cats c = λ met r.
    let other : (pid_of c.args.packet.now == 1) ≡ false = ap (λ n. n == 1) (sym c.pid-pid.ensures.field) ∙ ne_eqb c.pid-pid.result 1 c.if-pid-eq-CAT_PID.false in
    subst (StandsFor c.args.cats.now 1) (sym (on-other 1 met c.args.packet.now other)) r

pub returns-then-follows-clause-tables : goal.returns-then-follows-clause-tables
returns-then-follows-clause-tables c = λ met f r.
    let upto = met ++ c.args.packet.now ∷ [] in
    let here : follows (pid_of c.args.packet.now) upto ≡ true =
    ap (λ n. follows n upto) (sym c.pid-pid.ensures.field) ∙ (sym (c.follows.ensures upto (c.in_ok-update.ensures.stands met f)) ∙ c.if-follows.true) in
    subst (IsCompleted met c.args.packet.now) (sym c.take_pmts.ensures.pmts)
    (named-completed met c.args.packet.now _
    (not-fixed c.pid-pid.result c.args.packet.now c.pid-pid.ensures.field (ne_eqb c.pid-pid.result 0 c.if-pid-eq-PAT_PID.false) (ne_eqb c.pid-pid.result 1 c.if-pid-eq-CAT_PID.false))
    here (c.in_ok-update.ensures.pmts met f here))

pub returns-clause-cats : goal.returns-clause-cats
returns-clause-cats c = λ met r.
    let other : (pid_of c.args.packet.now == 1) ≡ false = ap (λ n. n == 1) (sym c.pid-pid.ensures.field) ∙ ne_eqb c.pid-pid.result 1 c.if-pid-eq-CAT_PID.false in
    subst (StandsFor c.args.cats.now 1) (sym (on-other 1 met c.args.packet.now other)) r

pub returns-then-pid-eq-PAT_PID-clause-force : goal.returns-then-pid-eq-PAT_PID-clause-force
returns-then-pid-eq-PAT_PID-clause-force c = λ met f. c.take_pats.ensures.stands _ (c.in_ok-update.ensures.stands met f)

pub returns-then-follows-clause-force : goal.returns-then-follows-clause-force
returns-then-follows-clause-force c = λ met f. c.take_pmts.ensures.stands _ (c.in_ok-update.ensures.stands met f)

pub returns-in_err-update-clause-quiet : goal.returns-in_err-update-clause-quiet
returns-in_err-update-clause-quiet c = λ met f unread.
    absurd (err-none _ _ (c.in_err-update.ensures.quiet met f (neither (pid_of c.args.packet.now == 1) (may_have_tables (pid_of c.args.packet.now) met) unread).1))

pub returns-then-pid-eq-PAT_PID-clause-quiet : goal.returns-then-pid-eq-PAT_PID-clause-quiet
returns-then-pid-eq-PAT_PID-clause-quiet c = λ met f unread.
    let pid = pid_of c.args.packet.now in
    let first = neither (pid == 1) (may_have_tables pid met) unread in
    let at : pid ≡ 0 = sym c.pid-pid.ensures.field ∙ c.if-pid-eq-PAT_PID.true in
    absurd (true≢false (sym (ap (λ n. n == 0) at) ∙ (neither (pid == 0) (follows pid met) first.1).0))

pub returns-in_err-tables-clause-quiet : goal.returns-in_err-tables-clause-quiet
returns-in_err-tables-clause-quiet c = λ met f unread.
    let pid = pid_of c.args.packet.now in
    let at : pid ≡ 1 = sym c.pid-pid.ensures.field ∙ c.if-pid-eq-CAT_PID.true in
    absurd (true≢false (sym (ap (λ n. n == 1) at) ∙ (neither (pid == 1) (may_have_tables pid met) unread).0))

pub returns-then-pid-eq-CAT_PID-clause-quiet : goal.returns-then-pid-eq-CAT_PID-clause-quiet
returns-then-pid-eq-CAT_PID-clause-quiet c = λ met f unread.
    let pid = pid_of c.args.packet.now in
    let at : pid ≡ 1 = sym c.pid-pid.ensures.field ∙ c.if-pid-eq-CAT_PID.true in
    absurd (true≢false (sym (ap (λ n. n == 1) at) ∙ (neither (pid == 1) (may_have_tables pid met) unread).0))

pub returns-then-follows-clause-quiet : goal.returns-then-follows-clause-quiet
returns-then-follows-clause-quiet c = λ met f unread.
    let packet = c.args.packet.now in
    let pid = pid_of packet in
    let upto = met ++ packet ∷ [] in
    let first = neither (pid == 1) (may_have_tables pid met) unread in
    let second = neither (pid == 0) (follows pid met) first.1 in
    let here : follows pid upto ≡ true =
    ap (λ n. follows n upto) (sym c.pid-pid.ensures.field) ∙ (sym (c.follows.ensures upto (c.in_ok-update.ensures.stands met f)) ∙ c.if-follows.true) in
    absurd (true≢false (sym here ∙ (ap (λ pat. is_named pat pid) (pat-other met packet second.0) ∙ second.1)))
